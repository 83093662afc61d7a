-- Rows of 0: minima that are 0 stay so. Assumes nothing.
use Rattle.std.proofs.Common.{◌≡◌, ℕ, ◌+◌, ◌≤◌, Bool, false, List, [], ◌∷◌, get_or, sym, refl, ap, ◌∙◌, arith}
use native.Mathlib.Decide.{ℕ_discrete}
use native.Mathlib.Nat.{zero-min}
use lib.Bits.{bit_and, bit_or, and_le_l, and_le_r, or_add_and}
use Rattle.logic.specs.Change.{Renewal}
use Rattle.cells_sum.specs.inner.Walk.{taken, gathered}
use Rattle.cells_row.specs.inner.Row.{ZeroRow}

-- two numbers whose bits together are none
or-zero : (a b : ℕ) → bit_or a b ≡ 0 → (a ≡ 0) × (b ≡ 0)
or-zero a b h = go (bit_or a b) (bit_and a b) h (or_add_and a b) (and_le_l a b) (and_le_r a b)
  where
    go : (o m : ℕ) → o ≡ 0 → o + m ≡ a + b → m ≤ a → m ≤ b → (a ≡ 0) × (b ≡ 0)
    go o m h e l r = (omega arith, omega arith)

one_more : (row : List ℕ) (x : ℕ) → ZeroRow row x → get_or row x 0 ≡ 0 → ZeroRow row (x + 1)
unfolding ZeroRow
one_more row x H h y l = go (ℕ_discrete y x)
  where
    go : Dec (y ≡ x) → get_or row y 0 ≡ 0
    go (yes e) = ap (λ (z : ℕ). get_or row z 0) e ∙ h
    go (no e) = H y (omega arith)

pub zero_first : (row : List ℕ) → ZeroRow row 0
unfolding ZeroRow
zero_first row x l = absurd (omega arith)

pub zero_more : (row : List ℕ) (x seen next : ℕ) → (seen ≡ 0 → ZeroRow row x) → next ≡ bit_or seen (get_or row x 0) → next ≡ 0 → ZeroRow row (x + 1)
zero_more row x seen next H e h = let z = or-zero seen (get_or row x 0) (sym e ∙ h) in one_more row x (H z.0) z.1

-- a minimum that is 0
pub gathered-zero : (rs : List Renewal) → gathered false 0 rs ≡ 0
unfolding gathered taken
gathered-zero [] = refl
gathered-zero (r ∷ rs) = ap (λ (y : ℕ). gathered false y rs) (zero-min r.new) ∙ gathered-zero rs

pub gathered-done : (add : Bool) (acc : ℕ) (rs : List Renewal) → add ≡ false → acc ≡ 0 → acc ≡ gathered add acc rs
gathered-done add acc rs p q =
    q ∙ sym (gathered-zero rs) ∙ ap (λ (y : ℕ). gathered false y rs) (sym q) ∙ ap (λ (a : Bool). gathered a acc rs) (sym p)

pub zero-last : (row : List ℕ) (x u : ℕ) → ZeroRow row x → u ≤ x → ZeroRow row u
unfolding ZeroRow
zero-last row x u H h y l = H y (omega arith)
