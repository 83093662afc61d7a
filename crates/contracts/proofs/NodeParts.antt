-- The first cells of the nodes, one after another. Assumes nothing.
use mathlib.Core.Path.{◌≡◌, refl, sym, ap, ap₂, ◌∙◌}
use mathlib.Core.List.{List, [], ◌∷◌, ◌++◌, append_assoc}
use Prim.Native.Nat.{ℕ, zero, suc, ◌+◌, ◌-◌, ◌^◌, ◌≤◌, ◌<◌}
use native.Mathlib.Nat.{add-zero}
use native.Mathlib.Decide.{dec_lt}
use native.Mathlib.Numerals.{add-one}
use native.Mathlib.Omega.{arith}
use lib.ListN.{length, get_or, length-append, get_or-append}
use lib.Seq.{get_or-append-add}
use Rattle.logic.specs.Formula.{Node, Forest, none, tree, node_count, child_depth}
use Rattle.logic.specs.Cells.{cell_count, sibling_first, first_cells}
use Rattle.table_format.proofs.Laid.{length-firsts}
use Rattle.contracts.specs.NodeCells.{widths}

length-widths : (u : ℕ) (f : Forest) (d : ℕ) → length (widths u f d) ≡ node_count f
unfolding widths node_count
length-widths u none d = refl
length-widths u (tree n c s) d = simp (length-append, length-widths u c, length-widths u s) (omega arith)

-- the first cells of a forest's nodes, and where the last one's cells end
unfoldable pub bounded : ℕ → Forest → ℕ → ℕ → List ℕ
bounded u f b d = first_cells u f b d ++ ((b + cell_count u f d) ∷ [])

module _ (u : ℕ) where
  -- the bounds of a tree: its own, its children's without their end, its siblings' with theirs
  first-bound : (f : Forest) (b d : ℕ) → get_or (bounded u f b d) 0 0 ≡ b
  unfolding bounded first_cells cell_count
  first-bound none b d = add-zero b
  first-bound (tree n c s) b d = refl

  bounds-tree : (n : Node) (c s : Forest) (b d : ℕ)
      → bounded u (tree n c s) b d ≡ b ∷ (first_cells u c (b + u ^ d) (child_depth n d) ++ bounded u s (sibling_first u n c b d) d)
  unfolding bounded first_cells cell_count sibling_first
  bounds-tree n c s b d =
      let x = first_cells u c (b + u ^ d) (child_depth n d) in
      let y = first_cells u s (b + u ^ d + cell_count u c (child_depth n d)) d in
      let e : b + (u ^ d + cell_count u c (child_depth n d) + cell_count u s d) ≡ b + u ^ d + cell_count u c (child_depth n d) + cell_count u s d = omega arith in
      ap (λ (z : List ℕ). b ∷ z)
      (append_assoc x y ((b + (u ^ d + cell_count u c (child_depth n d) + cell_count u s d)) ∷ []) ∙ ap (λ (z : ℕ). x ++ (y ++ (z ∷ []))) e)

  pub bounded-is : (f : Forest) (b d : ℕ) → bounded u f b d ≡ first_cells u f b d ++ ((b + cell_count u f d) ∷ [])
  unfolding bounded
  bounded-is f b d = refl

  -- the children's bounds go on into the siblings'
  children-bound : (n : Node) (c s : Forest) (b d k : ℕ) → k ≤ node_count c
      → get_or (first_cells u c (b + u ^ d) (child_depth n d) ++ bounded u s (sibling_first u n c b d) d) k 0 ≡ get_or (bounded u c (b + u ^ d) (child_depth n d)) k 0
  unfolding sibling_first
  children-bound n c s b d k h = go (dec_lt k (node_count c))
    where
      fc : List ℕ
      fc = first_cells u c (b + u ^ d) (child_depth n d)

      lc : length fc ≡ node_count c
      lc = length-firsts u c (b + u ^ d) (child_depth n d)

      B : ℕ
      B = b + u ^ d + cell_count u c (child_depth n d)

      go : Dec (k < node_count c) → get_or (fc ++ bounded u s B d) k 0 ≡ get_or (bounded u c (b + u ^ d) (child_depth n d)) k 0
      go (yes l) =
          get_or-append fc (bounded u s B d) 0 k (omega (arith, lc)) ∙ sym (unfold-bounded ∙ get_or-append fc (B ∷ []) 0 k (omega (arith, lc)))
        where
          unfold-bounded : get_or (bounded u c (b + u ^ d) (child_depth n d)) k 0 ≡ get_or (fc ++ (B ∷ [])) k 0
          unfold-bounded = ap (λ (z : List ℕ). get_or z k 0) (bounded-is c (b + u ^ d) (child_depth n d))
      go (no l) =
          let e : k ≡ length fc + 0 = omega (arith, lc) in
          ap (λ (z : ℕ). get_or (fc ++ bounded u s B d) z 0) e ∙ get_or-append-add fc (bounded u s B d) 0 0 ∙ first-bound s B d
          ∙ sym (ap₂ (λ (z : List ℕ) (w : ℕ). get_or z w 0) (bounded-is c (b + u ^ d) (child_depth n d)) e ∙ get_or-append-add fc (B ∷ []) 0 0)

  pub bound-step : (f : Forest) (b d k : ℕ) → k < node_count f → get_or (bounded u f b d) (suc k) 0 ≡ get_or (bounded u f b d) k 0 + get_or (widths u f d) k 0
  unfolding widths node_count
  bound-step none b d k h = absurd (omega arith)
  bound-step (tree n c s) b d zero h =
      ap (λ (z : List ℕ). get_or z 1 0) (bounds-tree n c s b d) ∙ children-bound n c s b d 0 (omega arith) ∙ first-bound c (b + u ^ d) (child_depth n d)
      ∙ sym (ap (λ (z : List ℕ). get_or z 0 0 + u ^ d) (bounds-tree n c s b d))
  bound-step (tree n c s) b d (suc j) h =
      ap (λ (z : List ℕ). get_or z (suc (suc j)) 0) (bounds-tree n c s b d)
      ∙ go (dec_lt j (node_count c)) (λ l. bound-step c (b + u ^ d) (child_depth n d) j l) (λ i l. bound-step s (sibling_first u n c b d) d i l)
      ∙ sym (ap (λ (z : List ℕ). get_or z (suc j) 0 + get_or (widths u c (child_depth n d) ++ widths u s d) j 0) (bounds-tree n c s b d))
    where
      fc : List ℕ
      fc = first_cells u c (b + u ^ d) (child_depth n d)

      lc : length fc ≡ node_count c
      lc = length-firsts u c (b + u ^ d) (child_depth n d)

      B : ℕ
      B = sibling_first u n c b d

      wc : List ℕ
      wc = widths u c (child_depth n d)

      lw : length wc ≡ node_count c
      lw = length-widths u c (child_depth n d)

      go : Dec (j < node_count c) → (j < node_count c → get_or (bounded u c (b + u ^ d) (child_depth n d)) (suc j) 0 ≡ get_or (bounded u c (b + u ^ d) (child_depth n d)) j 0 + get_or wc j 0)
          → ((i : ℕ) → i < node_count s → get_or (bounded u s B d) (suc i) 0 ≡ get_or (bounded u s B d) i 0 + get_or (widths u s d) i 0)
          → get_or (fc ++ bounded u s B d) (suc j) 0 ≡ get_or (fc ++ bounded u s B d) j 0 + get_or (wc ++ widths u s d) j 0
      go (yes l) f g =
          children-bound n c s b d (suc j) l ∙ f l
          ∙ ap₂ ◌+◌ (sym (children-bound n c s b d j (omega arith))) (sym (get_or-append wc (widths u s d) 0 j (omega (arith, lw))))
      go (no l) f g =
          let i = j - node_count c in
          let e : j ≡ length fc + i = omega (arith, lc) in
          let e1 : suc j ≡ length fc + suc i = omega (arith, lc) in
          let ew : j ≡ length wc + i = omega (arith, lw) in
          ap (λ (z : ℕ). get_or (fc ++ bounded u s B d) z 0) e1 ∙ get_or-append-add fc (bounded u s B d) (suc i) 0 ∙ g i (omega arith)
          ∙ ap₂ ◌+◌ (sym (ap (λ (z : ℕ). get_or (fc ++ bounded u s B d) z 0) e ∙ get_or-append-add fc (bounded u s B d) i 0))
          (sym (ap (λ (z : ℕ). get_or (wc ++ widths u s d) z 0) ew ∙ get_or-append-add wc (widths u s d) i 0))

pub last-bound : (u : ℕ) (f : Forest) (b d : ℕ) → get_or (bounded u f b d) (node_count f) 0 ≡ b + cell_count u f d
unfolding bounded
last-bound u f b d =
    let e : node_count f ≡ length (first_cells u f b d) + 0 = omega (arith, length-firsts u f b d) in
    ap (λ (k : ℕ). get_or (bounded u f b d) k 0) e ∙ get_or-append-add (first_cells u f b d) ((b + cell_count u f d) ∷ []) 0 0

-- no bound is past the end
bound-from-end : (u : ℕ) (f : Forest) (b d m k : ℕ) → k + m ≡ node_count f → get_or (bounded u f b d) k 0 ≤ b + cell_count u f d
bound-from-end u f b d zero k e =
    omega (arith, ap (λ (j : ℕ). get_or (bounded u f b d) j 0) (let q : k ≡ node_count f = omega arith in q), last-bound u f b d)
bound-from-end u f b d (suc m) k e =
    omega (arith, bound-step u f b d k (omega arith), bound-from-end u f b d m (suc k) (omega arith))

-- A node's bounds: the part between them is the node's.
pub record NodeBounds (u : ℕ) (f : Forest) (node from to total : ℕ) : Type 0 where
  pub rises : from ≤ to
  pub within : to ≤ total
  pub first : from ≡ get_or (first_cells u f 0 0) node 0
  pub width : to - from ≡ get_or (widths u f 0) node 0

pub node-bounds : (u : ℕ) (f : Forest) (node from to total : ℕ) → node < node_count f → total ≡ cell_count u f 0
    → from ≡ get_or (bounded u f 0 0) node 0 → to ≡ get_or (bounded u f 0 0) (node + 1) 0 → NodeBounds u f node from to total
node-bounds u f node from to total h t a b =
    let s = bound-step u f 0 0 node h in
    let c : to ≡ get_or (bounded u f 0 0) (suc node) 0 = b ∙ ap (λ (k : ℕ). get_or (bounded u f 0 0) k 0) (add-one node) in
    let l = bound-from-end u f 0 0 (node_count f - suc node) (suc node) (omega arith) in
    record {
      rises = omega arith;
      within = omega arith;
      first = a ∙ ap (λ (l : List ℕ). get_or l node 0) (bounded-is u f 0 0) ∙ get_or-append (first_cells u f 0 0) ((0 + cell_count u f 0) ∷ []) 0 node (omega (arith, length-firsts u f 0 0));
      width = omega arith;
    }
