-- Masks that have no port of u or more. Assumes nothing.
use mathlib.Core.Path.{◌≡◌, refl, sym, ap, ◌∙◌}
use mathlib.Core.Bool.{Bool, true, false, false≢true}
use mathlib.Core.List.{List, [], ◌∷◌, ◌++◌}
use Prim.Native.Nat.{ℕ, zero, suc, ◌+◌, ◌≤◌, ◌<◌}
use native.Mathlib.Numerals.{add-one}
use native.Mathlib.Omega.{arith}
use lib.ListN.{length, get_or, take}
use lib.Seq.{take-suc, get_or-take, length-take-le}
use Rattle.logic.specs.Configuration.{within_ports, all_within}
use Rattle.logic.proofs.Lists.{and_left, and_right, and-true}

-- masks within the ports
within-append : (u : ℕ) (xs ys : List ℕ) → all_within u xs ≡ true → all_within u ys ≡ true → all_within u (xs ++ ys) ≡ true
unfolding all_within
within-append u [] ys h k = k
within-append u (x ∷ xs) ys h k = and-true _ _ (and_left (within_ports u x) _ h) (within-append u xs ys (and_right (within_ports u x) _ h) k)

pub within-next : (u s : ℕ) (ms : List ℕ) → s < length ms → all_within u (take s ms) ≡ true → within_ports u (get_or ms s 0) ≡ true → all_within u (take (s + 1) ms) ≡ true
unfolding all_within
within-next u s ms l h k =
    ap (λ (j : ℕ). all_within u (take j ms)) (add-one s) ∙ ap (all_within u) (take-suc ms s 0 l)
    ∙ within-append u (take s ms) (get_or ms s 0 ∷ []) h (and-true _ _ k refl)

pub within-at : (u : ℕ) (ms : List ℕ) → all_within u ms ≡ true → (S : ℕ) → S < length ms → within_ports u (get_or ms S 0) ≡ true
unfolding all_within
within-at u [] h S q = absurd (omega arith)
within-at u (m ∷ ms) h zero q = and_left (within_ports u m) _ h
within-at u (m ∷ ms) h (suc S) q = within-at u ms (and_right (within_ports u m) _ h) S (omega arith)

pub within-fails : (u s n : ℕ) (ms : List ℕ) → s < n → n ≤ length ms → within_ports u (get_or ms s 0) ≡ false → false ≡ all_within u (take n ms)
within-fails u s n ms h l k = go (all_within u (take n ms)) refl
  where
    go : (b : Bool) → all_within u (take n ms) ≡ b → false ≡ b
    go false e = refl
    go true e =
        let w = within-at u (take n ms) e s (omega (arith, length-take-le n ms l)) in
        absurd (false≢true (sym k ∙ ap (within_ports u) (sym (get_or-take n ms s 0 h)) ∙ w))
