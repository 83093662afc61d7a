-- A tree of the formula among the tables: what the steps over it ask. Assumes nothing.
use mathlib.Core.Path.{◌≡◌, refl, sym, ap, ◌∙◌, subst}
use mathlib.Core.Bool.{true, false, cond, ◌&&◌, true≢false, false≢true}
use mathlib.Core.List.{List}
use Prim.Native.Nat.{ℕ, suc, ◌+◌, ◌*◌, ◌^◌, ◌%◌, ◌≤◌, ◌<◌}
use lib.Dec.{eqb, ltb}
use native.Mathlib.Omega.{arith}
use lib.ListN.{length, get_or}
use Rattle.logic.specs.Formula.{Test, isin, notin, port, size, Node, root, all, any, and, or, lit, Forest, none, tree, Plan, test_kind, kind_number, node_count, child_depth}
use Rattle.logic.specs.inner.Literals.{Every}
use Rattle.logic.specs.Cells.{cell_count, sibling_first}
use Rattle.table_format.specs.Bytes.{record_length, kind_field, records_of, record_at}
use Rattle.table_format.specs.inner.Index.{forest_uses}
use Rattle.cells_walk.specs.inner.Nodes.{IndexHolds, Fitting}
use Rattle.cells_atoms.specs.inner.Atoms.{is_atom, Regular, AllRegular}
use Rattle.cells_flip.specs.inner.Flips.{Flat}
use Rattle.move_shares.specs.inner.Shares.{TreeReady}
use Rattle.move_slots.specs.inner.Slots.{AtomGiven}
use Rattle.move_slots.proofs.Atom.{uses-alone}
use Rattle.move_tables.specs.inner.Taking.{NoneBinds, is_sum, PlanGiven, ForestStands}
use Rattle.move_tables.proofs.Flat.{flat-forest}

-- below the root a node of another kind than "and" and for all is an atom
atom-kind : (n : Node) (c : Forest) → Regular n c → is_sum (kind_number n) ≡ false → is_atom n ≡ true
unfolding Regular is_sum kind_number is_atom
atom-kind root c r h = absurd r
atom-kind all c r h = absurd (true≢false h)
atom-kind any c r h = refl
atom-kind and c r h = absurd (true≢false h)
atom-kind or c r h = refl
atom-kind (lit l) c r h = refl

sum-kind : (n : Node) (d : ℕ) → is_sum (kind_number n) ≡ true → (is_atom n ≡ false) × (child_depth n d ≡ cond (eqb (kind_number n) 1) (d + 1) d)
unfolding is_sum kind_number is_atom child_depth test_kind
sum-kind root d h = absurd (false≢true h)
sum-kind all d h = (refl, omega arith)
sum-kind any d h = absurd (false≢true h)
sum-kind and d h = (refl, refl)
sum-kind or d h = absurd (false≢true h)
sum-kind (lit l) d h = absurd (false≢true (sym (literal-none l.test) ∙ h))
  where
    literal-none : (t : Test) → (ltb (test_kind t) 5 && eqb (test_kind t % 2) 1) ≡ false
    literal-none (isin v S) = refl
    literal-none (notin v S) = refl
    literal-none (port r v w) = refl
    literal-none (size r S k) = refl

-- the records of a forest's nodes are in the table
records-long : (u : ℕ) (bytes firsts ends uses : List ℕ) (i : ℕ) (f : Forest) (b d : ℕ) → IndexHolds u bytes firsts ends uses i f b d → 1 ≤ node_count f
    → record_length * (i + node_count f) ≤ length (records_of bytes)
unfolding IndexHolds node_count record_length
records-long u bytes firsts ends uses i none b d h l = absurd (omega arith)
records-long u bytes firsts ends uses i (tree n c (tree m x s)) b d h l =
    omega (arith, records-long u bytes firsts ends uses (i + suc (node_count c)) (tree m x s) (sibling_first u n c b d) d h.2 (omega arith))
records-long u bytes firsts ends uses i (tree n (tree m x s) none) b d h l =
    omega (arith, records-long u bytes firsts ends uses (suc i) (tree m x s) (b + u ^ d) (child_depth n d) h.1 (omega arith))
records-long u bytes firsts ends uses i (tree n none none) b d h l = omega (arith, h.0.whole)

module _ {u sets : ℕ} {bytes firsts ends uses cells : List ℕ} {i : ℕ} {n : Node} {c s : Forest} {b d : ℕ}
    (h : ForestStands u sets bytes firsts ends uses cells i (tree n c s) b d) where
  pub node-low : i < 512
  unfolding node_count
  node-low = omega (arith, h.nodes)

  pub depth_low : d ≤ 3
  unfolding Fitting Every
  depth_low = h.fitting.0.depth3

  pub end-here : get_or ends i 0 ≡ i + suc (node_count c)
  unfolding IndexHolds
  end-here = h.holds.0.end_is

  -- the tree by itself
  pub alone : ForestStands u sets bytes firsts ends uses cells i (tree n c none) b d
  unfolding IndexHolds Fitting AllRegular Every node_count cell_count
  alone = record {
    holds = (h.holds.0, h.holds.1, tt);
    fitting = (h.fitting.0, h.fitting.1, tt);
    regular = (h.regular.0, h.regular.1, tt);
    room = omega (arith, h.room);
    nodes = omega (arith, h.nodes);
  }

  pub flat-asked : (until : ℕ) → until ≡ get_or ends i 0 → (until ≤ 512) × (record_length * until ≤ length (records_of bytes))
  unfolding node_count
  flat-asked until e =
      let a = alone in
      let r : until ≡ i + suc (node_count c) = e ∙ end-here in
      let k : i + suc (node_count c) ≡ i + node_count (tree n c none) = omega arith in (
        omega (arith, a.nodes),
        subst (λ (x : ℕ). record_length * x ≤ length (records_of bytes)) (sym (r ∙ k))
            (records-long u bytes firsts ends uses i (tree n c none) b d a.holds (omega arith)),
      )

  pub flat-here : (until : ℕ) → until ≡ get_or ends i 0 → NoneBinds bytes i until → Flat (tree n c none) d
  unfolding node_count
  flat-here until e H =
      let r : until ≡ i + suc (node_count c) = e ∙ end-here in
      flat-forest u bytes firsts ends uses i (tree n c none) b d until alone.holds (omega arith) i (omega arith) H

  pub uses-here : get_or uses i 0 ≡ forest_uses (tree n c none)
  uses-here = uses-alone u bytes firsts ends uses i n c s b d h.holds

  pub atom-here : is_sum (kind_field (record_at bytes i)) ≡ false → is_atom n ≡ true
  unfolding IndexHolds AllRegular Every
  atom-here k = atom-kind n c h.regular.0 (ap is_sum (sym h.holds.0.kind-is) ∙ k)

  pub sum-here : is_sum (kind_field (record_at bytes i)) ≡ true → (is_atom n ≡ false) × (child_depth n d ≡ cond (eqb (kind_field (record_at bytes i)) 1) (d + 1) d)
  unfolding IndexHolds
  sum-here k =
      let e = h.holds.0.kind-is in
      let r = sum-kind n d (ap is_sum (sym e) ∙ k) in
      (r.0, r.1 ∙ ap (λ (x : ℕ). cond (eqb x 1) (d + 1) d) (sym e))

  module _ {masks sizes : List ℕ} (P : Plan) (g : PlanGiven u sets masks sizes cells P) where
    pub tree-ready : TreeReady P n c d
    tree-ready = record { regular = alone.regular; fitting = subst (λ (x : ℕ). Fitting x (tree n c none) d) g.sets-are alone.fitting }

    pub atom-given : Flat (tree n c none) d → AtomGiven u sets bytes firsts ends uses masks sizes cells i d P n c none b
    atom-given f = record {
      ports-are = g.ports-are;
      sets-are = g.sets-are;
      ready = g.ready;
      sizes-low = g.sizes-low;
      stands = record { holds = alone.holds; fitting = alone.fitting; flat = f; room = alone.room; nodes = alone.nodes };
      regular = alone.regular;
    }
