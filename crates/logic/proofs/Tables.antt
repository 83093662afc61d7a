-- Tuples and their places, for any depth, and the cell table that a rule for cells lays out. Assumes nothing.
use mathlib.Core.Path.{◌≡◌, refl, sym, ap, ap₂, ◌∙◌}
use mathlib.Core.List.{List, [], ◌∷◌, ◌++◌}
use Prim.Native.Nat.{ℕ, zero, suc, ◌+◌, ◌^◌, ◌/◌, ◌≤◌, ◌<◌}
use native.Mathlib.Nat.{mod-lt, div-lt_iff_lt-mul, div-add-mod', pow-suc, pow-zero, add_assoc, zero-add}
use native.Mathlib.Omega.{arith}
use native.Mathlib.Decide.{dec_lt}
use lib.ListN.{length, get_or, take, drop, length-append, length-drop, get_or-append}
use lib.Seq.{get_or-append-add, get_or_at, get_or-drop, take-suc, take-add, drop-drop}
use lib.Arith.{digits_lt, digits_div, digits_mod}
use Rattle.logic.specs.Formula.{Node, Forest, none, tree, child_depth}
use Rattle.logic.specs.Truth.{Tuple}
use Rattle.logic.specs.Cells.{cell_count, place_of, tuple_at, tabulate, CellRule, sibling_first, layout}
use Rattle.logic.specs.Change.{cell_of}
use Rattle.logic.proofs.Lists.{TupleOf, empty, more}

module _ (u : ℕ) (u1 : 1 ≤ u) where
  pub tuple_is : (d i : ℕ) → i < u ^ d → TupleOf u d (tuple_at u d i)
  unfolding tuple_at
  tuple_is zero i h = empty
  tuple_is (suc d) i h = more (mod-lt i u1) (tuple_is d (i / u) ((div-lt_iff_lt-mul u1).1 (rw pow-suc at h)))

  pub place-tuple : (d i : ℕ) → i < u ^ d → place_of u (tuple_at u d i) ≡ i
  unfolding tuple_at place_of
  place-tuple zero i h = omega (arith, pow-zero u)
  place-tuple (suc d) i h = rw (place-tuple d (i / u) ((div-lt_iff_lt-mul u1).1 (rw pow-suc at h))) (div-add-mod' i u)

  pub tuple-place : {d : ℕ} {e : Tuple} → TupleOf u d e → tuple_at u d (place_of u e) ≡ e
  unfolding tuple_at place_of
  tuple-place empty = refl
  tuple-place (more {d = d} {p = p} {e = e} h t) =
      ap₂ ◌∷◌ (digits_mod (place_of u e) h) (ap (tuple_at u d) (digits_div (place_of u e) h) ∙ tuple-place t)

  pub place-lt : {d : ℕ} {e : Tuple} → TupleOf u d e → place_of u e < u ^ d
  unfolding place_of
  place-lt empty = rw pow-zero (omega arith)
  place-lt (more {d = d} h t) = rw pow-suc (digits_lt (place-lt t) h)

pub length-tuple : {u d : ℕ} {e : Tuple} → TupleOf u d e → length e ≡ d
length-tuple empty = refl
length-tuple (more h t) = ap suc (length-tuple t)

pub length-tabulate : (m : ℕ) (g : ℕ → ℕ) → length (tabulate m g) ≡ m
unfolding tabulate
length-tabulate zero g = refl
length-tabulate (suc m) g = length-append (tabulate m g) (g m ∷ []) ∙ omega (arith, length-tabulate m g)

pub get_d_tabulate : (m : ℕ) (g : ℕ → ℕ) (i : ℕ) → i < m → get_or (tabulate m g) i 0 ≡ g i
unfolding tabulate
get_d_tabulate zero g i h = omega arith
get_d_tabulate (suc m) g i h = go (λ l. get_d_tabulate m g i l) (dec_lt i m)
  where
    in-front : i < m → i < length (tabulate m g)
    in-front l = rw length-tabulate l

    go : (i < m → get_or (tabulate m g) i 0 ≡ g i) → Dec (i < m) → get_or (tabulate m g ++ (g m ∷ [])) i 0 ≡ g i
    go f (yes l) = get_or-append (tabulate m g) _ 0 i (in-front l) ∙ f l
    go f (no l) = let e : m ≡ i = omega arith in get_or_at (tabulate m g) (g m) [] 0 i (length-tabulate m g ∙ e) ∙ ap g e

pub tabulate-cong : (m : ℕ) (g h : ℕ → ℕ) → ((i : ℕ) → i < m → g i ≡ h i) → tabulate m g ≡ tabulate m h
unfolding tabulate
tabulate-cong zero g h H = refl
tabulate-cong (suc m) g h H = ap₂ ◌++◌ (tabulate-cong m g h (λ i l. H i (omega arith))) (ap (λ (x : ℕ). x ∷ []) (H m (omega arith)))

pub length-layout : (u : ℕ) (g : CellRule) (f : Forest) (b d : ℕ) → length (layout u g f b d) ≡ cell_count u f d
unfolding layout cell_count
length-layout u g none b d = refl
length-layout u g (tree n c s) b d =
    simp (length-append, length-tabulate, length-layout u g c, length-layout u g s) (omega arith)

-- The first of a table is its first node's cell at the empty tuple.
pub layout-first : (u : ℕ) (g : CellRule) (n : Node) (c s : Forest) (b : ℕ) → get_or (layout u g (tree n c s) b 0) 0 0 ≡ g n c b 0 []
unfolding layout tuple_at
layout-first u g n c s b =
    get_or-append (tabulate (u ^ 0) (λ i. g n c b 0 [])) _ 0 0 (rw (length-tabulate, pow-zero) (omega arith))
    ∙ get_d_tabulate (u ^ 0) (λ i. g n c b 0 []) 0 (rw pow-zero (omega arith))

-- What the places from b on of a table hold, read one by one.
tabulate-read : (table : List ℕ) (b m : ℕ) → b + m ≤ length table → tabulate m (λ i. get_or table (b + i) 0) ≡ take m (drop b table)
unfolding tabulate
tabulate-read table b zero h = refl
tabulate-read table b (suc m) h =
    ap₂ ◌++◌ (tabulate-read table b m (omega arith)) (ap (λ (x : ℕ). x ∷ []) (sym (get_or-drop b table m 0)))
    ∙ sym (take-suc (drop b table) m 0 (rw (length-drop b table) (omega arith)))

take-three : (a c s b : ℕ) (table : List ℕ)
    → take (a + c + s) (drop b table) ≡ take a (drop b table) ++ (take c (drop (b + a) table) ++ take s (drop (b + a + c) table))
take-three a c s b table =
    ap (λ (x : ℕ). take x (drop b table)) (add_assoc a c s) ∙ take-add a (c + s) (drop b table)
    ∙ ap (λ (l : List ℕ). take a (drop b table) ++ l)
    (take-add c s (drop a (drop b table))
    ∙ ap₂ (λ (l m : List ℕ). take c l ++ take s m) (drop-drop a b table)
    (drop-drop c a (drop b table) ∙ drop-drop (a + c) b table ∙ ap (λ (x : ℕ). drop x table) (sym (add_assoc b a c))))

-- A table, read cell by cell in its own layout, is itself.
pub layout-read : (u : ℕ) → 1 ≤ u → (table : List ℕ) (f : Forest) (b d : ℕ) → b + cell_count u f d ≤ length table
    → layout u (λ n c x i e. cell_of u table x e) f b d ≡ take (cell_count u f d) (drop b table)
unfolding layout cell_count cell_of sibling_first
layout-read u u1 table none b d h = refl
layout-read u u1 table (tree n c s) b d h =
    ap₂ ◌++◌
    (tabulate-cong (u ^ d) _ (λ i. get_or table (b + i) 0) (λ i l. ap (λ (x : ℕ). get_or table (b + x) 0) (place-tuple u u1 d i l))
    ∙ tabulate-read table b (u ^ d) (omega arith))
    (ap₂ ◌++◌ (layout-read u u1 table c (b + u ^ d) (child_depth n d) (omega arith))
    (layout-read u u1 table s (b + u ^ d + cell_count u c (child_depth n d)) d (omega arith)))
    ∙ sym (take-three (u ^ d) (cell_count u c (child_depth n d)) (cell_count u s d) b table)

-- the list l stands in the table from place b on
unfoldable pub Stands : List ℕ → ℕ → List ℕ → Type 0
Stands table b l = (i : ℕ) → i < length l → get_or table (b + i) 0 ≡ get_or l i 0

pub stands_self : (l : List ℕ) → Stands l 0 l
unfolding Stands
stands_self l i h = ap (λ (j : ℕ). get_or l j 0) (zero-add i)

pub stands-left : (table : List ℕ) (b : ℕ) (xs ys : List ℕ) → Stands table b (xs ++ ys) → Stands table b xs
unfolding Stands
stands-left table b xs ys h i l = h i (simp length-append (omega arith)) ∙ get_or-append xs ys 0 i l

pub stands-right : (table : List ℕ) (b : ℕ) (xs ys : List ℕ) → Stands table b (xs ++ ys) → Stands table (b + length xs) ys
unfolding Stands
stands-right table b xs ys h i l =
    ap (λ (j : ℕ). get_or table j 0) (add_assoc b (length xs) i)
    ∙ h (length xs + i) (simp length-append (omega arith)) ∙ get_or-append-add xs ys i 0
