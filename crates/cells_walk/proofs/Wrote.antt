-- A table written in place, cell by cell and in no fixed order: what each step leaves to say. Assumes nothing.
use mathlib.Core.Path.{◌≡◌, refl, sym, ap, ap₂, ◌∙◌, subst}
use mathlib.Core.Logic.{◌≢◌}
use mathlib.Core.Bool.{Bool, false}
use mathlib.Core.List.{List, ◌∷◌, ◌++◌}
use Prim.Native.Nat.{ℕ, suc, ◌+◌, ◌-◌, ◌*◌, ◌^◌, ◌%◌, ◌≤◌, ◌<◌}
use native.Mathlib.Decide.{ℕ_discrete, dec_lt, dec_le}
use native.Mathlib.Nat.{le_trans}
use native.Mathlib.Omega.{arith}
use lib.ListN.{length, get_or, set, take, drop, length-set, get_or-append}
use lib.Seq.{get_or-set_same, get_or-set_other, get_or-append-add, get_or-drop, length-take-le}
use Rattle.logic.specs.Formula.{Node, root, all, any, and, or, lit, Forest, none, tree, child_depth}
use Rattle.logic.specs.Configuration.{Configuration}
use Rattle.logic.specs.Truth.{Tuple}
use Rattle.logic.specs.Cells.{cell_count, place_of, sibling_first, tabulate}
use Rattle.logic.specs.Change.{Change, forest_hit, modulus, cell_of, new_cell}
use Rattle.logic.proofs.Lists.{TupleOf, more}
use Rattle.logic.proofs.Tables.{place-lt, length-tabulate, get_d_tabulate}
use Rattle.logic.proofs.Written.{written, length-written, written-before}
use Rattle.table_format.specs.Rules.{tree_count}
use Rattle.cells_sum.specs.declared.After.{After}
use Rattle.cells_sum.specs.declared.Sum.{Sum}
use Rattle.cells_sum.specs.inner.Walk.{gathered, changes}
use Rattle.cells_row.proofs.Rows.{sums_same}
use Rattle.cells_walk.specs.inner.Below.{Directly, at-root, at_all, at-any, at-and, at-or, at-lit, Region, own, under, later, Agree, HoldsNew, Only, only, Row, at-port, Wrote}
use Rattle.cells_walk.specs.inner.Visit.{CellAfter, TreesAfter, RowTreesAfter}
use Rattle.cells_walk.proofs.Frame.{directly-tuple, renewals-agree, new-cell-agree, changes-agree, bounds, apart}
use Rattle.cells_walk.proofs.InPlace.{holds_agree, holds-before, untouched-holds}
use Rattle.cells_walk.proofs.KindOf.{Joint, Quantifier}
use Rattle.cells_walk.proofs.Outcomes.{no-trees}

-- a tree of a forest stands in the forest's region
first-tree : (u : ℕ) {n : Node} {c s : Forest} {b d j : ℕ} {e : Tuple} → Region u (tree n c none) b d e j → Region u (tree n c s) b d e j
first-tree u (own h) = own h
first-tree u {n = n} {c = c} {s = s} {b = b} {d = d} {j = j} {e = e} (later x) = elim x [ ]
first-tree u (under w r) = under w r

-- what stands directly below a node that binds no variable, and below a quantifier
level-same : (u : ℕ) (n : Node) (e x : Tuple) → ((i : ℕ) → child_depth n i ≡ i) → Directly u n e x → e ≡ x
unfolding child_depth
level-same u root e x h at-root = refl
level-same u all e x h (at_all l) = let q = h 0 in absurd (omega arith)
level-same u any e x h (at-any l) = let q = h 0 in absurd (omega arith)
level-same u and e x h at-and = refl
level-same u or e x h at-or = refl
level-same u (lit l) e x h at-lit = refl

level-self : (u : ℕ) (n : Node) (e : Tuple) → ((i : ℕ) → child_depth n i ≡ i) → Directly u n e e
unfolding child_depth
level-self u root e h = at-root
level-self u all e h = let q = h 0 in absurd (omega arith)
level-self u any e h = let q = h 0 in absurd (omega arith)
level-self u and e h = at-and
level-self u or e h = at-or
level-self u (lit l) e h = at-lit

level-only : (u : ℕ) (n : Node) (e x : Tuple) → ((i : ℕ) → child_depth n i ≡ i) → Only e x → Directly u n e x
level-only u n e x h only = level-self u n e h

deeper-row : (u : ℕ) (n : Node) (e x : Tuple) → ((i : ℕ) → child_depth n i ≡ suc i) → Directly u n e x → Row u e x
unfolding child_depth
deeper-row u root e x h at-root = let q = h 0 in absurd (omega arith)
deeper-row u all e x h (at_all l) = at-port l
deeper-row u any e x h (at-any l) = at-port l
deeper-row u and e x h at-and = let q = h 0 in absurd (omega arith)
deeper-row u or e x h at-or = let q = h 0 in absurd (omega arith)
deeper-row u (lit l) e x h at-lit = let q = h 0 in absurd (omega arith)

row-deeper : (u : ℕ) (n : Node) (e x : Tuple) → ((i : ℕ) → child_depth n i ≡ suc i) → Row u e x → Directly u n e x
unfolding child_depth
row-deeper u root e x h (at-port l) = let q = h 0 in absurd (omega arith)
row-deeper u all e x h (at-port l) = at_all l
row-deeper u any e x h (at-port l) = at-any l
row-deeper u and e x h (at-port l) = let q = h 0 in absurd (omega arith)
row-deeper u or e x h (at-port l) = let q = h 0 in absurd (omega arith)
row-deeper u (lit t) e x h (at-port l) = let q = h 0 in absurd (omega arith)

-- the places in a written run, and behind it
pub run_inside : (f : ℕ → ℕ) (from n i : ℕ) (xs : List ℕ) → i < n → from ≤ length xs → get_or (written f from n xs) (from + i) 0 ≡ f i
run_inside f from n i xs l h =
    let A = take from xs in
    let B = tabulate n f ++ drop (from + n) xs in
    ap (λ (m : ℕ). get_or (A ++ B) (m + i) 0) (sym (length-take-le from xs h)) ∙ get_or-append-add A B i 0
    ∙ get_or-append (tabulate n f) (drop (from + n) xs) 0 i (rw length-tabulate l) ∙ get_d_tabulate n f i l

pub run-behind : (f : ℕ → ℕ) (from n j : ℕ) (xs : List ℕ) → from + n ≤ j → from ≤ length xs → get_or (written f from n xs) j 0 ≡ get_or xs j 0
run-behind f from n j xs l h =
    let A = take from xs in
    let B = tabulate n f in
    let C = drop (from + n) xs in
    let i = j - (from + n) in
    let p : j ≡ length A + (length B + i) = omega (arith, length-take-le from xs h, length-tabulate n f) in
    let q : from + n + i ≡ j = omega arith in
    ap (λ (m : ℕ). get_or (A ++ (B ++ C)) m 0) p ∙ get_or-append-add A (B ++ C) (length B + i) 0 ∙ get_or-append-add B C i 0
    ∙ get_or-drop (from + n) xs i 0 ∙ ap (λ (m : ℕ). get_or xs m 0) q

-- a row of cells stands within its node's
row_room : (u : ℕ) → 1 ≤ u → (d : ℕ) (e : Tuple) → TupleOf u d e → place_of u e * u + u ≤ u ^ suc d
unfolding place_of
row_room u u1 d e t =
    let last : u - 1 < u = omega arith in
    let h = place-lt u u1 (more last t) in
    omega arith

pub row-tuple : (u d m : ℕ) (e x : Tuple) → m ≤ u → TupleOf u d e → Row m e x → TupleOf u (suc d) x
row-tuple u d m e x h t (at-port l) = more (le_trans l h) t

pub only-tuple : (u d : ℕ) (e x : Tuple) → TupleOf u d e → Only e x → TupleOf u d x
only-tuple u d e x t only = t

module _ (u : ℕ) (u1 : 1 ≤ u) (k : Configuration) (ch : Change) where
  -- a forest that is not touched, and one without a tree
  pub wrote-untouched : (f : Forest) (b d : ℕ) (At : Tuple → Type 0) (xs : List ℕ) → ((e : Tuple) → At e → forest_hit ch f e ≡ false)
      → Wrote u k ch f b d At xs xs
  unfolding Agree
  wrote-untouched f b d At xs h = record {
    same_length = refl;
    holds = λ e a. untouched-holds u k ch xs xs f b d e (h e a) (λ j r. refl);
    others = λ j out. refl;
  }

  pub wrote_none : (b d : ℕ) (At : Tuple → Type 0) (xs : List ℕ) → Wrote u k ch none b d At xs xs
  unfolding HoldsNew
  wrote_none b d At xs = record { same_length = refl; holds = λ e a. tt; others = λ j out. refl }

  pub wrote-empty : (f : Forest) (b d : ℕ) (At : Tuple → Type 0) (xs : List ℕ) → tree_count f ≡ 0 → Wrote u k ch f b d At xs xs
  wrote-empty f b d At xs z = subst (λ (g : Forest). Wrote u k ch g b d At xs xs) (sym (no-trees f z)) (wrote_none b d At xs)

  -- a tree, and after it its later siblings, whose cells are as they were
  pub later-agree : (n : Node) (c s : Forest) (b d : ℕ) (At : Tuple → Type 0) (xs ys : List ℕ) → ((e : Tuple) → At e → TupleOf u d e)
      → Wrote u k ch (tree n c none) b d At xs ys → (e : Tuple) → At e → Agree u s (sibling_first u n c b d) d e xs ys
  unfolding Agree sibling_first cell_count
  later-agree n c s b d At xs ys t w e a j r =
      let h = bounds u u1 r (t e a) in
      sym (w.others j (λ x y q. let g = bounds u u1 q (t x y) in omega arith))

  pub wrote-tree : (n : Node) (c s : Forest) (b d : ℕ) (At : Tuple → Type 0) (xs ys zs : List ℕ) → ((e : Tuple) → At e → TupleOf u d e)
      → Wrote u k ch (tree n c none) b d At xs ys → Wrote u k ch s (sibling_first u n c b d) d At ys zs → Wrote u k ch (tree n c s) b d At xs zs
  unfolding HoldsNew Agree cell_of sibling_first
  wrote-tree n c s b d At xs ys zs t w v =
      let first : (j : ℕ) → j < sibling_first u n c b d → get_or zs j 0 ≡ get_or ys j 0 =
      λ j l. v.others j (λ e a r. let h = bounds u u1 r (t e a) in omega arith) in
      record {
        same_length = v.same_length ∙ w.same_length;
        holds = λ e a. let h = w.holds e a in let l = place-lt u u1 (t e a) in (
          first (b + place_of u e) (omega arith) ∙ h.0,
          (λ x q. holds_agree u (new_cell u k ch (cell_of u xs)) zs ys c (b + u ^ d) (child_depth n d) x
              (λ j r. let g = bounds u u1 r (directly-tuple q (t e a)) in first j (omega arith)) (h.1 x q)),
          holds-before u k ch xs ys zs s (sibling_first u n c b d) d e (later-agree n c s b d At xs ys t w e a) (v.holds e a),
        );
        others = λ j out. v.others j (λ e a r. out e a (later r)) ∙ w.others j (λ e a r. out e a (first-tree u r));
      }

  -- a tree, from the cells below and its own
  pub wrote-own : (n : Node) (c : Forest) (b d : ℕ) (At Below : Tuple → Type 0) (xs ys zs : List ℕ) → ((e : Tuple) → At e → TupleOf u d e)
      → ((e x : Tuple) → At e → Directly u n e x → Below x) → ((x : Tuple) → Below x → (e : Tuple) × At e × Directly u n e x)
      → Wrote u k ch c (b + u ^ d) (child_depth n d) Below xs ys → length zs ≡ length ys
      → ((e : Tuple) → At e → get_or zs (b + place_of u e) 0 ≡ new_cell u k ch (cell_of u xs) n c b d e)
      → ((j : ℕ) → ((e : Tuple) → At e → j ≢ b + place_of u e) → get_or zs j 0 ≡ get_or ys j 0) → Wrote u k ch (tree n c none) b d At xs zs
  unfolding HoldsNew Agree cell_of
  wrote-own n c b d At Below xs ys zs t down up w len new kept = record {
    same_length = len ∙ w.same_length;
    holds = λ e a. (
      new e a,
      (λ x q. holds_agree u (new_cell u k ch (cell_of u xs)) zs ys c (b + u ^ d) (child_depth n d) x
          (λ j r. let g = bounds u u1 r (directly-tuple q (t e a)) in kept j (λ y v i. let l = place-lt u u1 (t y v) in omega arith))
          (w.holds x (down e x a q))),
      tt,
    );
    others = λ j out.
        kept j (λ e a i. out e a (own i)) ∙ w.others j (λ x v r. let q = up x v in out q.0 q.1 (under q.2 r));
  }

  -- the same by one store
  one_store : (n : Node) (c : Forest) (b d : ℕ) (e : Tuple) (Below : Tuple → Type 0) (xs ys zs : List ℕ) (v : ℕ) → ((x : Tuple) → Directly u n e x → Below x)
      → ((x : Tuple) → Below x → Directly u n e x) → TupleOf u d e → b + u ^ d ≤ length xs → Wrote u k ch c (b + u ^ d) (child_depth n d) Below xs ys
      → zs ≡ set ys (b + place_of u e) v → v ≡ new_cell u k ch (cell_of u xs) n c b d e → Wrote u k ch (tree n c none) b d (Only e) xs zs
  one_store n c b d e Below xs ys zs v down up t room w is new =
      wrote-own n c b d (Only e) Below xs ys zs (λ x a. only-tuple u d e x t a) from (λ x a. (e, only, up x a)) w
      (ap length is ∙ length-set {A = ℕ} ys (b + place_of u e) v) here there
    where
      from : (y x : Tuple) → Only e y → Directly u n y x → Below x
      from y x only q = down x q

      here : (x : Tuple) → Only e x → get_or zs (b + place_of u x) 0 ≡ new_cell u k ch (cell_of u xs) n c b d x
      here x only =
          let l = place-lt u u1 t in
          ap (λ (ws : List ℕ). get_or ws (b + place_of u e) 0) is
          ∙ get_or-set_same ys (b + place_of u e) v 0 (omega (arith, w.same_length)) ∙ new

      there : (j : ℕ) → ((x : Tuple) → Only e x → j ≢ b + place_of u x) → get_or zs j 0 ≡ get_or ys j 0
      there j out = ap (λ (ws : List ℕ). get_or ws j 0) is ∙ get_or-set_other ys (b + place_of u e) j v 0 (out e only)

  pub wrote-joint : (n : Node) (c : Forest) (b d : ℕ) (e : Tuple) (xs ys zs : List ℕ) (v : ℕ) → Joint n → TupleOf u d e → b + u ^ d ≤ length xs
      → Wrote u k ch c (b + u ^ d) d (Only e) xs ys → zs ≡ set ys (b + place_of u e) v → v ≡ new_cell u k ch (cell_of u xs) n c b d e
      → Wrote u k ch (tree n c none) b d (Only e) xs zs
  wrote-joint n c b d e xs ys zs v q t room w is new =
      one_store n c b d e (Only e) xs ys zs v (λ x a. subst (Only e) (level-same u n e x q.level a) only) (λ x a. level-only u n e x q.level a) t room
      (subst (λ (i : ℕ). Wrote u k ch c (b + u ^ d) i (Only e) xs ys) (sym (q.level d)) w) is new

  pub wrote-quantifier : (n : Node) (c : Forest) (b d : ℕ) (e : Tuple) (xs ys zs : List ℕ) (v : ℕ) → Quantifier n → TupleOf u d e → b + u ^ d ≤ length xs
      → Wrote u k ch c (b + u ^ d) (suc d) (Row u e) xs ys → zs ≡ set ys (b + place_of u e) v → v ≡ new_cell u k ch (cell_of u xs) n c b d e
      → Wrote u k ch (tree n c none) b d (Only e) xs zs
  wrote-quantifier n c b d e xs ys zs v q t room w is new =
      one_store n c b d e (Row u e) xs ys zs v (λ x a. deeper-row u n e x q.deeper a) (λ x a. row-deeper u n e x q.deeper a) t room
      (subst (λ (i : ℕ). Wrote u k ch c (b + u ^ d) i (Row u e) xs ys) (sym (q.deeper d)) w) is new

  -- nothing stands below a literal
  pub wrote-literal : (n : Node) (c : Forest) (b d : ℕ) (e : Tuple) (xs zs : List ℕ) (v : ℕ) → tree_count c ≡ 0 → TupleOf u d e → b + u ^ d ≤ length xs
      → zs ≡ set xs (b + place_of u e) v → v ≡ new_cell u k ch (cell_of u xs) n c b d e → Wrote u k ch (tree n c none) b d (Only e) xs zs
  wrote-literal n c b d e xs zs v z t room is new =
      one_store n c b d e (Directly u n e) xs xs zs v (λ x a. a) (λ x a. a) t room (wrote-empty c (b + u ^ d) (child_depth n d) (Directly u n e) xs z) is new

  -- the same by a run of stores: a row of a node that binds no variable
  pub wrote-row : (n : Node) (c : Forest) (b d : ℕ) (e : Tuple) (at : ℕ) (row xs ys zs : List ℕ) → ((i : ℕ) → child_depth n i ≡ i) → TupleOf u d e
      → at ≡ b + place_of u e * u → b + u ^ suc d ≤ length xs → Wrote u k ch c (b + u ^ suc d) (suc d) (Row u e) xs ys
      → zs ≡ take at ys ++ (tabulate u (λ x. get_or row x 0) ++ drop (at + u) ys)
      → ((x : ℕ) → x < u → get_or row x 0 ≡ new_cell u k ch (cell_of u xs) n c b (suc d) (x ∷ e)) → Wrote u k ch (tree n c none) b (suc d) (Row u e) xs zs
  unfolding place_of
  wrote-row n c b d e at row xs ys zs level t at-is room w is new =
      wrote-own n c b (suc d) (Row u e) (Row u e) xs ys zs (λ x a. row-tuple u d u e x (omega arith) t a)
      (λ y x a q. subst (Row u e) (level-same u n y x level q) a) (λ x a. (x, a, level-self u n x level))
      (subst (λ (i : ℕ). Wrote u k ch c (b + u ^ suc d) i (Row u e) xs ys) (sym (level (suc d))) w)
      (ap length is ∙ length-written (λ x. get_or row x 0) at u ys within) here there
    where
      within : at + u ≤ length ys
      within = omega (arith, row_room u u1 d e t, w.same_length)

      here : (x : Tuple) → Row u e x → get_or zs (b + place_of u x) 0 ≡ new_cell u k ch (cell_of u xs) n c b (suc d) x
      here x (at-port {p = p} l) =
          let i : b + (place_of u e * u + p) ≡ at + p = omega arith in
          ap₂ (λ (ws : List ℕ) (m : ℕ). get_or ws m 0) is i ∙ run_inside (λ x. get_or row x 0) at u p ys l (omega (arith, within)) ∙ new p l

      there : (j : ℕ) → ((x : Tuple) → Row u e x → j ≢ b + place_of u x) → get_or zs j 0 ≡ get_or ys j 0
      there j out = ap (λ (ws : List ℕ). get_or ws j 0) is ∙ go (dec_lt j at) (dec_le (at + u) j)
        where
          go : Dec (j < at) → Dec (at + u ≤ j) → get_or (written (λ x. get_or row x 0) at u ys) j 0 ≡ get_or ys j 0
          go (yes l) h = written-before (λ x. get_or row x 0) at u j ys l (omega (arith, within))
          go (no l) (yes h) = run-behind (λ x. get_or row x 0) at u j ys h (omega (arith, within))
          go (no l) (no h) =
              let p : j - at < u = omega arith in
              absurd (out ((j - at) ∷ e) (at-port p) (let i : j ≡ b + (place_of u e * u + (j - at)) = omega arith in i))

  -- the ports of a quantifier, one after the other
  port-apart : (f : Forest) (b d : ℕ) (e : Tuple) (p m j : ℕ) → TupleOf u d e → p < u → m < u → Region u f b (suc d) (p ∷ e) j
      → Region u f b (suc d) (m ∷ e) j → p ≡ m
  port-apart f b d e p m j t l h r q = ap (λ (y : Tuple). get_or y 0 0) (apart u u1 r q (more l t) (more h t))

  pub wrote-no-port : (f : Forest) (b d : ℕ) (e : Tuple) (xs : List ℕ) → Wrote u k ch f b d (Row 0 e) xs xs
  wrote-no-port f b d e xs = record { same_length = refl; holds = nothing; others = λ j out. refl }
    where
      nothing : (x : Tuple) → Row 0 e x → HoldsNew u (new_cell u k ch (cell_of u xs)) xs f b d x
      nothing x (at-port l) = absurd (omega arith)

  pub port-agree : (f : Forest) (b d : ℕ) (e : Tuple) (m : ℕ) (xs ys : List ℕ) → TupleOf u d e → m < u → Wrote u k ch f b (suc d) (Row m e) xs ys
      → Agree u f b (suc d) (m ∷ e) xs ys
  unfolding Agree
  port-agree f b d e m xs ys t l w j r = sym (w.others j out)
    where
      out : (x : Tuple) → Row m e x → Region u f b (suc d) x j → ⊥
      out x (at-port {p = p} h) q =
          let i = port-apart f b d e p m j t (omega arith) l q r in
          omega arith

  pub wrote-port : (f : Forest) (b d : ℕ) (e : Tuple) (m : ℕ) (xs ys zs : List ℕ) → TupleOf u d e → m < u → Wrote u k ch f b (suc d) (Row m e) xs ys
      → Wrote u k ch f b (suc d) (Only (m ∷ e)) ys zs → Wrote u k ch f b (suc d) (Row (suc m) e) xs zs
  unfolding Agree
  wrote-port f b d e m xs ys zs t l w v = record {
    same_length = v.same_length ∙ w.same_length;
    holds = holding;
    others = λ j out. v.others j (last j out) ∙ w.others j (early j out);
  }
    where
      new : HoldsNew u (new_cell u k ch (cell_of u xs)) zs f b (suc d) (m ∷ e)
      new = holds-before u k ch xs ys zs f b (suc d) (m ∷ e) (port-agree f b d e m xs ys t l w) (v.holds (m ∷ e) only)

      apart_from : (p j : ℕ) → p < m → Region u f b (suc d) (p ∷ e) j → (x : Tuple) → Only (m ∷ e) x → Region u f b (suc d) x j → ⊥
      apart_from p j h r x only q =
          let i = port-apart f b d e p m j t (omega arith) l r q in
          omega arith

      one : (p : ℕ) → p < suc m → Dec (p ≡ m) → HoldsNew u (new_cell u k ch (cell_of u xs)) zs f b (suc d) (p ∷ e)
      one p h (yes i) = subst (λ (q : ℕ). HoldsNew u (new_cell u k ch (cell_of u xs)) zs f b (suc d) (q ∷ e)) (sym i) new
      one p h (no i) =
          let g : p < m = omega arith in
          holds_agree u (new_cell u k ch (cell_of u xs)) zs ys f b (suc d) (p ∷ e) (λ j r. v.others j (apart_from p j g r)) (w.holds (p ∷ e) (at-port g))

      holding : (x : Tuple) → Row (suc m) e x → HoldsNew u (new_cell u k ch (cell_of u xs)) zs f b (suc d) x
      holding x (at-port {p = p} h) = one p h (ℕ_discrete p m)

      last : (j : ℕ) → ((x : Tuple) → Row (suc m) e x → Region u f b (suc d) x j → ⊥) → (x : Tuple) → Only (m ∷ e) x → Region u f b (suc d) x j → ⊥
      last j out x only r = let h : m < suc m = omega arith in out (m ∷ e) (at-port h) r

      early : (j : ℕ) → ((x : Tuple) → Row (suc m) e x → Region u f b (suc d) x j → ⊥) → (x : Tuple) → Row m e x → Region u f b (suc d) x j → ⊥
      early j out x (at-port {p = p} h) r = let g : p < suc m = omega arith in out (p ∷ e) (at-port g) r

  pub wrote-skip : (f : Forest) (b d : ℕ) (e : Tuple) (m : ℕ) (xs ys : List ℕ) → TupleOf u d e → m < u → forest_hit ch f (m ∷ e) ≡ false
      → Wrote u k ch f b (suc d) (Row m e) xs ys → Wrote u k ch f b (suc d) (Row (suc m) e) xs ys
  wrote-skip f b d e m xs ys t l h w = wrote-port f b d e m xs ys ys t l w (wrote-untouched f b (suc d) (Only (m ∷ e)) ys miss)
    where
      miss : (x : Tuple) → Only (m ∷ e) x → forest_hit ch f x ≡ false
      miss x only = h

  -- what a visit finds in a table that agrees
  pub cell-before : (n : Node) (c : Forest) (b d : ℕ) (e : Tuple) (xs ys : List ℕ) (r : After) → Agree u (tree n c none) b d e xs ys
      → CellAfter u k ch (cell_of u ys) n c b d e r → CellAfter u k ch (cell_of u xs) n c b d e r
  unfolding Agree cell_of
  cell-before n c b d e xs ys r A h = record {
    old-is = h.old-is ∙ sym (A (b + place_of u e) (own refl));
    new_is = h.new_is ∙ sym (new-cell-agree u k ch xs ys n c none b d e A);
    changed-is = h.changed-is ∙ ap (λ (x : ℕ). x % modulus) (sym (changes-agree u k ch xs ys (tree n c none) b d e A));
  }

  pub trees-before : (add : Bool) (f : Forest) (b d : ℕ) (e : Tuple) (xs ys : List ℕ) (acc r : Sum) → Agree u f b d e xs ys
      → TreesAfter u k ch (cell_of u ys) add f b d e acc r → TreesAfter u k ch (cell_of u xs) add f b d e acc r
  trees-before add f b d e xs ys acc r A h = record {
    value-is = h.value-is ∙ ap (gathered add acc.value) (sym (renewals-agree u k ch xs ys f b d e A));
    changed-is = h.changed-is ∙ ap (λ (x : ℕ). (acc.changed + x) % modulus) (sym (changes-agree u k ch xs ys f b d e A));
  }

  pub rows_before : (add : Bool) (f : Forest) (b d : ℕ) (e : Tuple) (xs ys acc out : List ℕ) (before r : ℕ)
      → ((x : ℕ) → x < u → Agree u f b (suc d) (x ∷ e) xs ys) → RowTreesAfter u k ch (cell_of u ys) add f b d e acc before out r
      → RowTreesAfter u k ch (cell_of u xs) add f b d e acc before out r
  rows_before add f b d e xs ys acc out before r A h = record {
    numbers = λ x l. h.numbers x l ∙ ap (gathered add (get_or acc x 0)) (sym (renewals-agree u k ch xs ys f b (suc d) (x ∷ e) (A x l)));
    changed-is = h.changed-is ∙ ap (λ (x : ℕ). (before + x) % modulus)
        (sums_same u (λ x. changes u k ch (cell_of u ys) f b (suc d) (x ∷ e)) (λ x. changes u k ch (cell_of u xs) f b (suc d) (x ∷ e))
        (λ x l. sym (changes-agree u k ch xs ys f b (suc d) (x ∷ e) (A x l))));
  }
