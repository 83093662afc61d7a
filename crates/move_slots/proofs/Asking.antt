-- Which slots take an atom, and the sizes that they ask, by the slot's place among the four of its set. Assumes nothing.
use Rattle.std.proofs.Common.{◌≡◌, ℕ, ◌+◌, ◌-◌, ◌*◌, ◌/◌, ◌%◌, ◌<◌, ◌≤◌, Bool, true, false, cond, not, ◌&&◌, ◌≢◌, sym, ap, ◌∙◌, ap₂, arith, le-ltb, lt-ltb}
use native.Mathlib.Decide.{dec_lt}
use lib.Bits.{bit_or}
use Rattle.logic.specs.Configuration.{in_mask}
use Rattle.cells_touch.specs.inner.Hits.{meets, variable_bits, size_bit}
use Rattle.cells_touch.proofs.Bits.{meets-power}
use Rattle.move_shares.specs.inner.Shares.{set_bits}
use Rattle.move_slots.specs.inner.Taking.{takes_slot, asked_size}

pub asked-first : (size j : ℕ) → j < 3 → asked_size size j ≡ size + j - 1
unfolding asked_size
asked-first size j h = ap (λ (a : Bool). cond a (size + j - 1) size) (lt-ltb j 3 h)

pub asked-last : (size j : ℕ) → 3 ≤ j → asked_size size j ≡ size
unfolding asked_size
asked-last size j h = ap (λ (a : Bool). cond a (size + j - 1) size) (le-ltb j 3 h)

pub asked-same : (size j : ℕ) → j ≢ 0 → j ≢ 2 → asked_size size j ≡ size
asked-same size j h i = go (dec_lt j 3)
  where
    go : Dec (j < 3) → asked_size size j ≡ size
    go (yes l) = omega (arith, asked-first size j l)
    go (no l) = asked-last size j (omega arith)

-- one place, or the other
pub takes_first : (used slot : ℕ) → slot % 4 < 3 → takes_slot used slot ≡ in_mask used (4 * (slot / 4) + 3)
unfolding takes_slot
takes_first used slot h =
    let sized = in_mask used (4 * (slot / 4) + 3) in
    ap (λ (a : Bool). cond a sized (not sized && meets used (set_bits (slot / 4)))) (lt-ltb (slot % 4) 3 h)

pub takes-last : (used slot : ℕ) → 3 ≤ slot % 4
    → takes_slot used slot ≡ (not (in_mask used (4 * (slot / 4) + 3)) && meets used (set_bits (slot / 4)))
unfolding takes_slot
takes-last used slot h =
    let sized = in_mask used (4 * (slot / 4) + 3) in
    ap (λ (a : Bool). cond a sized (not sized && meets used (set_bits (slot / 4)))) (le-ltb (slot % 4) 3 h)

-- as the words tell it
told-sized : (used slot w : ℕ) (a : Bool) → w ≡ size_bit (slot / 4) → a ≡ meets w used → in_mask used (4 * (slot / 4) + 3) ≡ a
unfolding size_bit
told-sized used slot w a h e = sym (e ∙ ap (λ (m : ℕ). meets m used) h ∙ meets-power (4 * (slot / 4) + 3) used)

pub told-first : (used slot w : ℕ) (a : Bool) → w ≡ size_bit (slot / 4) → a ≡ meets w used → slot % 4 < 3 → a ≡ takes_slot used slot
told-first used slot w a h e l = sym (takes_first used slot l ∙ told-sized used slot w a h e)

pub told_none : (used slot w : ℕ) (a : Bool) → w ≡ size_bit (slot / 4) → a ≡ meets w used → 3 ≤ slot % 4 → a ≡ true → false ≡ takes_slot used slot
told_none used slot w a h e l i =
    sym (takes-last used slot l ∙ ap (λ (o : Bool). not o && meets used (set_bits (slot / 4))) (told-sized used slot w a h e ∙ i))

pub told-last : (used slot w v w' : ℕ) (a : Bool) → w ≡ size_bit (slot / 4) → a ≡ meets w used → 3 ≤ slot % 4 → a ≡ false
    → v ≡ variable_bits (slot / 4) → w' ≡ size_bit (slot / 4) → meets used (bit_or v w') ≡ takes_slot used slot
unfolding set_bits
told-last used slot w v w' a h e l i hv hw =
    ap₂ (λ (y z : ℕ). meets used (bit_or y z)) hv hw
    ∙ sym (takes-last used slot l ∙ ap (λ (o : Bool). not o && meets used (set_bits (slot / 4))) (told-sized used slot w a h e ∙ i))
