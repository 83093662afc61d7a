-- The word of the sets that hold a port tells the change that the port makes. Assumes nothing.
use mathlib.Core.Path.{◌≡◌, refl, sym, ap, ap₂, ◌∙◌}
use mathlib.Core.Bool.{Bool, true, false, cond, ◌&&◌, ◌||◌}
use mathlib.Core.List.{List}
use Prim.Native.Nat.{ℕ, zero, suc, ◌+◌, ◌*◌, ◌<◌}
use native.Mathlib.Decide.{ℕ_discrete, dec_lt}
use native.Mathlib.Omega.{arith}
use lib.Dec.{eqb, ltb}
use lib.ListN.{get_or}
use borrow.Author.Tests.{eq-eqb, ne_eqb, lt-ltb, le-ltb}
use Rattle.logic.specs.Configuration.{Sets, in_mask, in_masks}
use Rattle.logic.specs.Change.{some_of}
use Rattle.logic.specs.InTest.{test_change}
use Rattle.logic.specs.inner.Agreement.{listed}
use Rattle.cells_touch.specs.inner.Hits.{size_bit}
use Rattle.cells_touch.proofs.Bits.{in-or, in-power, in-zero}
use Rattle.test_change.specs.inner.Holders.{held_bit, size_bits, TellsTest}

-- the one bit of a set's size
size-at : (n S : ℕ) → in_mask (size_bit n) (4 * S + 3) ≡ eqb S n
unfolding size_bit
size-at n S = in-power (4 * n + 3) (4 * S + 3) ∙ go (ℕ_discrete S n)
  where
    go : Dec (S ≡ n) → eqb (4 * S + 3) (4 * n + 3) ≡ eqb S n
    go (yes e) = eq-eqb _ _ (ap (λ (x : ℕ). 4 * x + 3) e) ∙ sym (eq-eqb S n e)
    go (no e) = ne_eqb (4 * S + 3) (4 * n + 3) (λ z. e (omega arith)) ∙ sym (ne_eqb S n e)

size_low : (n S v : ℕ) → v < 3 → in_mask (size_bit n) (4 * S + v) ≡ false
unfolding size_bit
size_low n S v h = in-power (4 * n + 3) (4 * S + v) ∙ ne_eqb (4 * S + v) (4 * n + 3) (λ z. omega arith)

held_at : (mask n p S : ℕ) → in_mask (held_bit mask n p) (4 * S + 3) ≡ (in_mask mask p && eqb S n)
unfolding held_bit
held_at mask n p S = go (in_mask mask p)
  where
    go : (b : Bool) → in_mask (cond b (size_bit n) 0) (4 * S + 3) ≡ (b && eqb S n)
    go true = size-at n S
    go false = in-zero (4 * S + 3)

held_low : (mask n p S v : ℕ) → v < 3 → in_mask (held_bit mask n p) (4 * S + v) ≡ false
unfolding held_bit
held_low mask n p S v h = go (in_mask mask p)
  where
    go : (b : Bool) → in_mask (cond b (size_bit n) 0) (4 * S + v) ≡ false
    go true = size_low n S v h
    go false = in-zero (4 * S + v)

module _ (masks : List ℕ) (p : ℕ) where
  -- a set below n is named if it holds the port
  sizes-at : (n S : ℕ) → in_mask (size_bits masks p n) (4 * S + 3) ≡ (ltb S n && in_masks masks S p)
  unfolding size_bits in_masks
  sizes-at zero S = in-zero (4 * S + 3) ∙ sym (ap (λ (b : Bool). b && in_mask (get_or masks S 0) p) (le-ltb S 0 (omega arith)))
  sizes-at (suc n) S =
      in-or (size_bits masks p n) (held_bit (get_or masks n 0) n p) (4 * S + 3)
      ∙ ap₂ ◌||◌ (sizes-at n S) (held_at (get_or masks n 0) n p S) ∙ go (ℕ_discrete S n) (dec_lt S n)
    where
      beside : (a b : Bool) → (a || (b && false)) ≡ a
      beside true b = refl
      beside false true = refl
      beside false false = refl

      alone : (b : Bool) → (b && true) ≡ b
      alone true = refl
      alone false = refl

      go : Dec (S ≡ n) → Dec (S < n)
          → ((ltb S n && in_mask (get_or masks S 0) p) || (in_mask (get_or masks n 0) p && eqb S n)) ≡ (ltb S (suc n) && in_mask (get_or masks S 0) p)
      go (yes e) l =
          rw (le-ltb S n (omega arith), eq-eqb S n e, lt-ltb S (suc n) (omega arith))
          (alone (in_mask (get_or masks n 0) p) ∙ ap (λ (x : ℕ). in_mask (get_or masks x 0) p) (sym e))
      go (no e) (yes l) =
          rw (lt-ltb S n l, ne_eqb S n e, lt-ltb S (suc n) (omega arith)) (beside (in_mask (get_or masks S 0) p) (in_mask (get_or masks n 0) p))
      go (no e) (no l) =
          rw (le-ltb S n (omega arith), ne_eqb S n e, le-ltb S (suc n) (omega arith)) (beside false (in_mask (get_or masks n 0) p))

  sizes-low : (n S v : ℕ) → v < 3 → in_mask (size_bits masks p n) (4 * S + v) ≡ false
  unfolding size_bits
  sizes-low zero S v h = in-zero (4 * S + v)
  sizes-low (suc n) S v h =
      in-or (size_bits masks p n) (held_bit (get_or masks n 0) n p) (4 * S + v)
      ∙ ap₂ ◌||◌ (sizes-low n S v h) (held_low (get_or masks n 0) n p S v h)

-- the same of sets that hold the port as the masks do
same-holders : (n : ℕ) (k : Sets) (masks : List ℕ) (p : ℕ) → ((S : ℕ) → S < n → k S p ≡ in_masks masks S p) → (S : ℕ)
    → (ltb S n && in_masks masks S p) ≡ (ltb S n && k S p)
same-holders n k masks p H S = go (dec_lt S n)
  where
    go : Dec (S < n) → (ltb S n && in_masks masks S p) ≡ (ltb S n && k S p)
    go (yes l) = ap (λ (b : Bool). ltb S n && b) (sym (H S l))
    go (no l) = ap (λ (b : Bool). b && in_masks masks S p) e ∙ sym (ap (λ (b : Bool). b && k S p) e)
      where
        e : ltb S n ≡ false
        e = le-ltb S n (omega arith)

pub tells-test : (sets : ℕ) (masks : List ℕ) (p q word : ℕ) → q ≡ p → word ≡ size_bits masks p sets
    → TellsTest sets masks p record { p = q; q = q; psets = 0; qsets = 0; resized = word }
unfolding TellsTest test_change listed some_of
tells-test sets masks p q word e w P k s u H = record {
  order = omega arith;
  below = omega arith;
  at-p-is = λ S v a b. in-zero (4 * S + v);
  at-q-is = λ S v a b. in-zero (4 * S + v);
  others = λ S x a b. refl;
  resized-is = λ S a. ap (λ (x : ℕ). in_mask x (4 * S + 3)) w ∙ sizes-at masks p sets S ∙ same-holders sets k masks p H S
      ∙ ap (λ (n : ℕ). ltb S n && k S p) (sym s);
  p-high = λ S a. in-zero (4 * S + 3);
  q-high = λ S a. in-zero (4 * S + 3);
  resized-low = λ S v a b. ap (λ (x : ℕ). in_mask x (4 * S + v)) w ∙ sizes-low masks p sets S v b;
}
