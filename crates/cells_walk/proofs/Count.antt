-- The cells that a walk counts as changed are those at which the plan's own cells differ from before. Assumes nothing.
use mathlib.Core.Path.{◌≡◌, refl, sym, ap, ap₂, ◌∙◌, subst}
use mathlib.Core.Bool.{Bool, false, cond, not, ◌||◌}
use mathlib.Core.List.{List, [], ◌∷◌, ◌++◌}
use Prim.Native.Nat.{ℕ, zero, suc, ◌+◌, ◌*◌, ◌^◌, ◌/◌, ◌%◌, ◌≤◌, ◌<◌}
use native.Mathlib.Nat.{zero-add, zero-mul, suc-mul, add-zero, add-suc, pow-suc, pow-zero}
use native.Mathlib.Decide.{ℕ_discrete}
use native.Mathlib.Omega.{arith}
use lib.Dec.{eqb}
use lib.Arith.{digits_div, digits_mod}
use lib.ListN.{length, take}
use lib.Seq.{get_or-take, take-take, length-take-le}
use borrow.Author.Tests.{eq-eqb, ne_eqb}
use Rattle.logic.specs.Formula.{Node, root, all, any, and, or, lit, Forest, none, tree, Plan, child_depth}
use Rattle.logic.specs.Configuration.{Configuration, indicator}
use Rattle.logic.specs.Truth.{Tuple}
use Rattle.logic.specs.Penalty.{sum, each_port, below}
use Rattle.logic.specs.Cells.{cell_count, place_of, tuple_at, tabulate, CellRule, sibling_first, layout, own_cells}
use Rattle.logic.specs.Change.{Change, node_hit, forest_hit, touched, OldCells, cell_of, new_cell, new_cells, differing}
use Rattle.logic.proofs.Lists.{TupleOf, empty, or_left, or_right, or-false, indicator-le, sum-append}
use Rattle.logic.proofs.Tables.{tuple-place, place-lt, tabulate-cong, length-layout, layout-read}
use Rattle.logic.proofs.Bound.{below-le}
use Rattle.logic.proofs.Changed.{unlike, differing-layout, untouched-kept}
use Rattle.cells_sum.specs.inner.Walk.{changes}
use Rattle.cells_walk.specs.inner.Below.{Agree}
use Rattle.cells_walk.proofs.Frame.{below-directly, directly-untouched, changes-agree, bounds}

-- Sums over the first numbers.

abbrev pub total : ℕ → (ℕ → ℕ) → ℕ
total m h = sum (tabulate m h)

pub total-none : (h : ℕ → ℕ) → total 0 h ≡ 0
unfolding tabulate sum
total-none h = refl

pub total-next : (m : ℕ) (h : ℕ → ℕ) → total (suc m) h ≡ total m h + h m
unfolding tabulate sum
total-next m h = sum-append (tabulate m h) (h m ∷ []) ∙ omega arith

total-same : (m : ℕ) (g h : ℕ → ℕ) → ((i : ℕ) → i < m → g i ≡ h i) → total m g ≡ total m h
total-same m g h H = ap sum (tabulate-cong m g h H)

total-zero : (m : ℕ) → total m (λ i. 0) ≡ 0
total-zero zero = total-none (λ i. 0)
total-zero (suc m) = omega (arith, total-next m (λ i. 0), total-zero m)

total-three : (m : ℕ) (f g h : ℕ → ℕ) → total m (λ i. f i + g i + h i) ≡ total m f + total m g + total m h
unfolding tabulate sum
total-three zero f g h = refl
total-three (suc m) f g h =
    omega (arith, total-next m (λ i. f i + g i + h i), total-next m f, total-next m g, total-next m h, total-three m f g h)

total-add : (a m : ℕ) (h : ℕ → ℕ) → total (a + m) h ≡ total a h + total m (λ i. h (a + i))
unfolding tabulate sum
total-add a zero h = ap (λ (x : ℕ). total x h) (add-zero a) ∙ sym (add-zero (total a h))
total-add a (suc m) h =
    ap (λ (x : ℕ). total x h) (add-suc a m)
    ∙ omega (arith, total-next (a + m) h, total-next m (λ i. h (a + i)), total-add a m h)

total-mul : (m u : ℕ) (h : ℕ → ℕ) → total (m * u) h ≡ total m (λ i. total u (λ p. h (i * u + p)))
total-mul zero u h = ap (λ (x : ℕ). total x h) (zero-mul u) ∙ total-none h ∙ sym (total-none (λ i. total u (λ p. h (i * u + p))))
total-mul (suc m) u h =
    ap (λ (x : ℕ). total x h) (suc-mul m u) ∙ total-add (m * u) u h
    ∙ omega (arith, total-mul m u h, total-next m (λ i. total u (λ p. h (i * u + p))))

total-term : (m : ℕ) (h : ℕ → ℕ) (i : ℕ) → i < m → h i ≤ total m h
total-term zero h i l = absurd (omega arith)
total-term (suc m) h i l = go (λ a. total-term m h i a) (ℕ_discrete i m)
  where
    go : (i < m → h i ≤ total m h) → Dec (i ≡ m) → h i ≤ total (suc m) h
    go f (yes a) = subst (λ (x : ℕ). h x ≤ total (suc m) h) (sym a) (omega (arith, total-next m h))
    go f (no a) = omega (arith, total-next m h, f (omega arith))

-- What stands at or below each tuple.

each-port-one : (u : ℕ) (h : ℕ → ℕ) → each_port u (λ p. h p ∷ []) ≡ tabulate u h
unfolding each_port tabulate
each-port-one zero h = refl
each-port-one (suc u) h = ap (λ (l : List ℕ). l ++ (h u ∷ [])) (each-port-one u h)

pub single : (x : ℕ) → sum (x ∷ []) ≡ x
unfolding sum
single x = omega arith

module _ (u : ℕ) where
  -- every tuple with every port: every tuple that is one longer
  pub ports-total : (d : ℕ) (h : Tuple → ℕ)
      → total (u ^ d) (λ i. sum (each_port u (λ p. h (p ∷ tuple_at u d i) ∷ []))) ≡ total (u ^ suc d) (λ j. h (tuple_at u (suc d) j))
  unfolding tuple_at
  ports-total d h =
      total-same (u ^ d) _ (λ i. total u (λ p. h (((i * u + p) % u) ∷ tuple_at u d ((i * u + p) / u))))
      (λ i l. ap sum (each-port-one u (λ p. h (p ∷ tuple_at u d i)))
      ∙ total-same u _ _ (λ p l'. ap₂ (λ (x y : ℕ). h (x ∷ tuple_at u d y)) (sym (digits_mod i l')) (sym (digits_div i l'))))
      ∙ sym (total-mul (u ^ d) u (λ j. h ((j % u) ∷ tuple_at u d (j / u))))
      ∙ ap (λ (x : ℕ). total x (λ j. h ((j % u) ∷ tuple_at u d (j / u)))) (sym (pow-suc u d))

  below_total : (n : Node) (d : ℕ) (h : Tuple → ℕ)
      → total (u ^ d) (λ i. sum (below u n (tuple_at u d i) (λ x. h x ∷ []))) ≡ total (u ^ child_depth n d) (λ j. h (tuple_at u (child_depth n d) j))
  unfolding below child_depth
  below_total root d h = total-same (u ^ d) _ _ (λ i l. single _)
  below_total all d h = ports-total d h
  below_total any d h = ports-total d h
  below_total and d h = total-same (u ^ d) _ _ (λ i l. single _)
  below_total or d h = total-same (u ^ d) _ _ (λ i l. single _)
  below_total (lit l) d h = total-same (u ^ d) _ _ (λ i l. single _)

differ-sym : (a b : ℕ) → indicator (not (eqb a b)) ≡ indicator (not (eqb b a))
differ-sym a b = go (ℕ_discrete a b)
  where
    go : Dec (a ≡ b) → indicator (not (eqb a b)) ≡ indicator (not (eqb b a))
    go (yes h) = ap (λ (x : Bool). indicator (not x)) (eq-eqb a b h ∙ sym (eq-eqb b a (sym h)))
    go (no h) = ap (λ (x : Bool). indicator (not x)) (ne_eqb a b h ∙ sym (ne_eqb b a (λ x. h (sym x))))

same-zero : (a b : ℕ) → a ≡ b → indicator (not (eqb a b)) ≡ 0
unfolding indicator
same-zero a b h = ap (λ (x : Bool). cond (not x) 1 0) (eq-eqb a b h)

nothing-sum : sum [] ≡ 0
unfolding sum
nothing-sum = refl

module _ (u : ℕ) (k : Configuration) (ch : Change) (t : OldCells) where
  abbrev old : CellRule
  old n c b d e = t b e

  abbrev new : CellRule
  new = new_cell u k ch t

  layout-changes : (f : Forest) (b d : ℕ) → sum (layout u (unlike old new) f b d) ≡ total (u ^ d) (λ i. changes u k ch t f b d (tuple_at u d i))
  unfolding layout changes
  layout-changes none b d = nothing-sum ∙ sym (total-zero (u ^ d))
  layout-changes (tree n c s) b d =
      let x = tabulate (u ^ d) (λ i. unlike old new n c b d (tuple_at u d i)) in
      let y = layout u (unlike old new) c (b + u ^ d) (child_depth n d) in
      let z = layout u (unlike old new) s (sibling_first u n c b d) d in
      let fx : ℕ → ℕ = λ i. indicator (not (eqb (new n c b d (tuple_at u d i)) (t b (tuple_at u d i)))) in
      let fy : ℕ → ℕ = λ i. sum (below u n (tuple_at u d i) (λ x. changes u k ch t c (b + u ^ d) (child_depth n d) x ∷ [])) in
      let fz : ℕ → ℕ = λ i. changes u k ch t s (sibling_first u n c b d) d (tuple_at u d i) in
      let ex : sum x ≡ total (u ^ d) fx = total-same (u ^ d) _ _ (λ i l. differ-sym (t b (tuple_at u d i)) (new n c b d (tuple_at u d i))) in
      let ey : sum y ≡ total (u ^ d) fy =
      layout-changes c (b + u ^ d) (child_depth n d) ∙ sym (below_total u n d (changes u k ch t c (b + u ^ d) (child_depth n d))) in
      let ez : sum z ≡ total (u ^ d) fz = layout-changes s (sibling_first u n c b d) d in
      omega (arith, sum-append x (y ++ z), sum-append y z, total-three (u ^ d) fx fy fz)

  -- a forest without a touched cell at a tuple counts none there
  forest-untouched : (f : Forest) (b d : ℕ) (e : Tuple) → forest_hit ch f e ≡ false → changes u k ch t f b d e ≡ 0
  unfolding changes forest_hit touched
  forest-untouched none b d e h = refl
  forest-untouched (tree n c s) b d e h =
      let a = or_left (node_hit ch n e || forest_hit ch c e) _ h in
      let g : Tuple → List ℕ = λ x. changes u k ch t c (b + u ^ d) (child_depth n d) x ∷ [] in
      let z : below u n e g ≡ below u n e (λ x. 0 ∷ []) =
      below-directly u n e g (λ x. 0 ∷ [])
      (λ x w. ap (λ (m : ℕ). m ∷ []) (forest-untouched c (b + u ^ d) (child_depth n d) x (directly-untouched u ch n c e x (or_right (node_hit ch n e) _ a) w))) in
      omega (
        arith,
        same-zero _ _ (untouched-kept u k ch t n c b d e a),
        ap sum z,
        below-le u 0 n e (λ x. 0 ∷ []) (λ x. omega (arith, single 0)),
        forest-untouched s (sibling_first u n c b d) d e (or_right (node_hit ch n e || forest_hit ch c e) _ h),
      )

  pub changes-untouched : (n : Node) (c : Forest) (b d : ℕ) (e : Tuple) → touched ch n c e ≡ false → changes u k ch t (tree n c none) b d e ≡ 0
  unfolding touched forest_hit
  changes-untouched n c b d e h = forest-untouched (tree n c none) b d e (or-false (node_hit ch n e || forest_hit ch c e) _ h refl)

differing-le : (xs ys : List ℕ) → differing xs ys ≤ length xs
unfolding differing
differing-le [] ys = omega arith
differing-le (x ∷ xs) [] = omega arith
differing-le (x ∷ xs) (y ∷ ys) = omega (arith, indicator-le (not (eqb x y)), differing-le xs ys)

module _ (u : ℕ) (u1 : 1 ≤ u) (k : Configuration) (ch : Change) (t : OldCells) where
  layout-few : (f : Forest) (b d : ℕ) → total (u ^ d) (λ i. changes u k ch t f b d (tuple_at u d i)) ≤ cell_count u f d
  layout-few f b d =
      let g : CellRule = λ n c b d e. t b e in
      omega (
        arith,
        layout-changes u k ch t f b d,
        differing-layout u g (new_cell u k ch t) f b d,
        differing-le (layout u g f b d) (layout u (new_cell u k ch t) f b d),
        length-layout u g f b d,
      )

  -- no more cells are counted than a forest has: at a tuple, and below a tuple
  pub changes-le : (f : Forest) (b d : ℕ) (e : Tuple) → TupleOf u d e → changes u k ch t f b d e ≤ cell_count u f d
  changes-le f b d e te =
      let h : ℕ → ℕ = λ i. changes u k ch t f b d (tuple_at u d i) in
      let same : h (place_of u e) ≡ changes u k ch t f b d e = ap (changes u k ch t f b d) (tuple-place u u1 te) in
      omega (arith, total-term (u ^ d) h (place_of u e) (place-lt u u1 te), layout-few f b d)

module _ (P : Plan) (u1 : 1 ≤ P.ports) (k : Configuration) (ch : Change) (table : List ℕ) where
  pub changes-own : changes P.ports k ch (cell_of P.ports table) P.formula 0 0 [] ≤ own_cells P
  unfolding own_cells
  changes-own = changes-le P.ports u1 k ch (cell_of P.ports table) P.formula 0 0 [] empty

  -- "how many cells differ from before"
  pub count-changes : own_cells P ≤ length table
      → differing (take (own_cells P) table) (new_cells P k ch (take (own_cells P) table))
      ≡ changes P.ports k ch (cell_of P.ports table) P.formula 0 0 []
  unfolding own_cells new_cells Agree tuple_at
  count-changes len =
      let u = P.ports in
      let f = P.formula in
      let m = cell_count u f 0 in
      let xs = take m table in
      let t = cell_of u xs in
      let g : CellRule = λ n c b d e. t b e in
      let h : ℕ → ℕ = λ i. changes u k ch t f 0 0 [] in
      let lx : length xs ≡ m = length-take-le m table len in
      let read : layout u g f 0 0 ≡ xs = layout-read u u1 xs f 0 0 (omega arith) ∙ take-take m m table (omega arith) in
      ap (λ (zs : List ℕ). differing zs (layout u (new_cell u k ch t) f 0 0)) (sym read)
      ∙ differing-layout u g (new_cell u k ch t) f 0 0 ∙ layout-changes u k ch t f 0 0
      ∙ ap (λ (x : ℕ). total x h) (pow-zero u) ∙ total-next 0 h ∙ ap (λ (x : ℕ). x + h 0) (total-none h) ∙ zero-add (h 0)
      ∙ changes-agree u k ch xs table f 0 0 []
      (λ j r. let i = bounds u u1 r empty in get_or-take m table j 0 (omega arith))
