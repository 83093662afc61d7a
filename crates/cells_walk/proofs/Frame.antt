-- Which cells the walk of a change reads and writes: those at or below one tuple. Assumes nothing.
use mathlib.Core.Path.{◌≡◌, refl, sym, ap, ap₂, ◌∙◌}
use mathlib.Core.Bool.{false, cond, not}
use mathlib.Core.List.{List, [], ◌∷◌}
use Prim.Native.Nat.{ℕ, ◌+◌, ◌^◌, ◌≤◌, ◌<◌}
use native.Mathlib.Omega.{arith}
use lib.Dec.{eqb}
use Rattle.logic.specs.Formula.{Node, root, all, any, and, or, lit, Forest, none, tree, child_depth}
use Rattle.logic.specs.Configuration.{Configuration, indicator}
use Rattle.logic.specs.Truth.{Tuple}
use Rattle.logic.specs.Penalty.{sum, below}
use Rattle.logic.specs.Cells.{cell_count, place_of, tuple_at, sibling_first}
use Rattle.logic.specs.Change.{Change, forest_hit, touched, Renewal, renew, cell_of, renewals, new_cell}
use Rattle.logic.proofs.Lists.{TupleOf, more, each-port-cong}
use Rattle.logic.proofs.Tables.{tuple-place, place-lt}
use Rattle.logic.proofs.Untouched.{forest-deeper}
use Rattle.cells_sum.specs.inner.Walk.{changes}
use Rattle.cells_walk.specs.inner.Below.{Directly, at-root, at_all, at-any, at-and, at-or, at-lit, Region, own, under, later, Agree}

pub directly-tuple : {u d : ℕ} {n : Node} {e x : Tuple} → Directly u n e x → TupleOf u d e → TupleOf u (child_depth n d) x
unfolding child_depth
directly-tuple at-root t = t
directly-tuple (at_all h) t = more h t
directly-tuple (at-any h) t = more h t
directly-tuple at-and t = t
directly-tuple at-or t = t
directly-tuple at-lit t = t

tail : Tuple → Tuple
tail [] = []
tail (p ∷ e) = e

-- a tuple stands directly below one tuple only
pub directly-one : {u : ℕ} {n : Node} {e e' x x' : Tuple} → Directly u n e x → Directly u n e' x' → x ≡ x' → e ≡ e'
unfolding tail
directly-one at-root at-root h = h
directly-one (at_all a) (at_all b) h = ap tail h
directly-one (at-any a) (at-any b) h = ap tail h
directly-one at-and at-and h = h
directly-one at-or at-or h = h
directly-one at-lit at-lit h = h

-- a forest without a touched cell at a tuple has none below it
pub directly-untouched : (u : ℕ) (ch : Change) (n : Node) (c : Forest) (e x : Tuple)
    → forest_hit ch c e ≡ false → Directly u n e x → forest_hit ch c x ≡ false
directly-untouched u ch root c e x h at-root = h
directly-untouched u ch all c e x h (at_all {p = p} l) = forest-deeper ch c p e h
directly-untouched u ch any c e x h (at-any {p = p} l) = forest-deeper ch c p e h
directly-untouched u ch and c e x h at-and = h
directly-untouched u ch or c e x h at-or = h
directly-untouched u ch (lit l) c e x h at-lit = h

module _ {A : Type 0} where
  pub below-directly : (u : ℕ) (n : Node) (e : Tuple) (g h : Tuple → List A)
      → ((x : Tuple) → Directly u n e x → g x ≡ h x) → below u n e g ≡ below u n e h
  unfolding below
  below-directly u root e g h H = H e at-root
  below-directly u all e g h H = each-port-cong u (λ p. g (p ∷ e)) (λ p. h (p ∷ e)) (λ p l. H (p ∷ e) (at_all l))
  below-directly u any e g h H = each-port-cong u (λ p. g (p ∷ e)) (λ p. h (p ∷ e)) (λ p l. H (p ∷ e) (at-any l))
  below-directly u and e g h H = H e at-and
  below-directly u or e g h H = H e at-or
  below-directly u (lit l) e g h H = H e at-lit

module _ (u : ℕ) (k : Configuration) (ch : Change) (xs ys : List ℕ) where
  -- a cell's new number is decided by its old one and the cells directly below
  new-cell-by : (n : Node) (c : Forest) (b d : ℕ) (e : Tuple) → cell_of u xs b e ≡ cell_of u ys b e
      → ((x : Tuple) → Directly u n e x
      → renewals u k ch (cell_of u xs) c (b + u ^ d) (child_depth n d) x ≡ renewals u k ch (cell_of u ys) c (b + u ^ d) (child_depth n d) x)
      → new_cell u k ch (cell_of u xs) n c b d e ≡ new_cell u k ch (cell_of u ys) n c b d e
  unfolding new_cell
  new-cell-by n c b d e o H =
      ap₂ (λ (x : ℕ) (rs : List Renewal). cond (touched ch n c e) (renew k n e x rs) x) o
      (below-directly u n e (renewals u k ch (cell_of u xs) c (b + u ^ d) (child_depth n d))
      (renewals u k ch (cell_of u ys) c (b + u ^ d) (child_depth n d)) H)

  own-agrees : (n : Node) (c s : Forest) (b d : ℕ) (e : Tuple) → Agree u (tree n c s) b d e xs ys → cell_of u xs b e ≡ cell_of u ys b e
  unfolding cell_of Agree
  own-agrees n c s b d e A = A (b + place_of u e) (own refl)

  pub renewals-agree : (f : Forest) (b d : ℕ) (e : Tuple) → Agree u f b d e xs ys
      → renewals u k ch (cell_of u xs) f b d e ≡ renewals u k ch (cell_of u ys) f b d e
  unfolding renewals new_cell Agree
  renewals-agree none b d e A = refl
  renewals-agree (tree n c s) b d e A =
      let o = own-agrees n c s b d e A in
      ap₂ ◌∷◌
      (ap₂ (λ (x y : ℕ). record { hit = touched ch n c e; old = x; new = y }) o
      (new-cell-by n c b d e o (λ x w. renewals-agree c (b + u ^ d) (child_depth n d) x (λ j r. A j (under w r)))))
      (renewals-agree s (sibling_first u n c b d) d e (λ j r. A j (later r)))

  pub new-cell-agree : (n : Node) (c s : Forest) (b d : ℕ) (e : Tuple) → Agree u (tree n c s) b d e xs ys
      → new_cell u k ch (cell_of u xs) n c b d e ≡ new_cell u k ch (cell_of u ys) n c b d e
  unfolding Agree
  new-cell-agree n c s b d e A =
      new-cell-by n c b d e (own-agrees n c s b d e A)
      (λ x w. renewals-agree c (b + u ^ d) (child_depth n d) x (λ j r. A j (under w r)))

  pub changes-agree : (f : Forest) (b d : ℕ) (e : Tuple) → Agree u f b d e xs ys
      → changes u k ch (cell_of u xs) f b d e ≡ changes u k ch (cell_of u ys) f b d e
  unfolding changes Agree
  changes-agree none b d e A = refl
  changes-agree (tree n c s) b d e A =
      ap₂ ◌+◌
      (ap₂ ◌+◌
      (ap₂ (λ (x y : ℕ). indicator (not (eqb x y))) (new-cell-agree n c s b d e A) (own-agrees n c s b d e A))
      (ap sum (below-directly u n e _ _
      (λ x w. ap (λ (m : ℕ). m ∷ []) (changes-agree c (b + u ^ d) (child_depth n d) x (λ j r. A j (under w r)))))))
      (changes-agree s (sibling_first u n c b d) d e (λ j r. A j (later r)))

-- Where the region lies.

module _ (u : ℕ) (u1 : 1 ≤ u) where
  pub bounds : {f : Forest} {b d j : ℕ} {e : Tuple} → Region u f b d e j → TupleOf u d e → (b ≤ j) × (j < b + cell_count u f d)
  unfolding cell_count sibling_first
  bounds (own h) t = let l = place-lt u u1 t in (omega arith, omega arith)
  bounds (under w r) t = let h = bounds r (directly-tuple w t) in (omega arith, omega arith)
  bounds (later r) t = let h = bounds r t in (omega arith, omega arith)

  -- two tuples whose regions share a place are one
  pub apart : {f : Forest} {b d j : ℕ} {e e' : Tuple}
      → Region u f b d e j → Region u f b d e' j → TupleOf u d e → TupleOf u d e' → e ≡ e'
  unfolding sibling_first
  apart {d} (own h) (own h') t t' = sym (tuple-place u u1 t) ∙ ap (tuple_at u d) (omega arith) ∙ tuple-place u u1 t'
  apart (own h) (under w r) t t' = let l = place-lt u u1 t in let a = bounds r (directly-tuple w t') in absurd (omega arith)
  apart (own h) (later r) t t' = let l = place-lt u u1 t in let a = bounds r t' in absurd (omega arith)
  apart (under w r) (own h) t t' = let l = place-lt u u1 t' in let a = bounds r (directly-tuple w t) in absurd (omega arith)
  apart (under w r) (under w' r') t t' = directly-one w w' (apart r r' (directly-tuple w t) (directly-tuple w' t'))
  apart (under w r) (later r') t t' = let a = bounds r (directly-tuple w t) in let a' = bounds r' t' in absurd (omega arith)
  apart (later r) (own h) t t' = let l = place-lt u u1 t' in let a = bounds r t in absurd (omega arith)
  apart (later r) (under w r') t t' = let a = bounds r t in let a' = bounds r' (directly-tuple w t') in absurd (omega arith)
  apart (later r) (later r') t t' = apart r r' t t'
