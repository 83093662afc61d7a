-- One slot's numbers put into the tables: the slot has them, and the others are as they were. Assumes nothing.
use Rattle.std.proofs.Common.{◌≡◌, ℕ, zero, suc, ◌+◌, ◌*◌, ◌%◌, ◌<◌, ◌≤◌, Bool, true, false, ◌≢◌, List, [], ◌∷◌, length, get_or, replicate, sym, refl, ap, ◌∙◌, true≢false, arith, get_or-set_other, get_or-set_same}
use native.Mathlib.Decide.{dec_lt}
use Rattle.logic.specs.Change.{modulus}
use Rattle.logic.proofs.Written.{written, written-before}
use Rattle.cells_walk.proofs.Wrote.{run_inside, run-behind}
use Rattle.move_shares.specs.inner.Shares.{flipped_share}
use Rattle.move_slots.specs.inner.Slots.{slot_at, SlotRoom}
use Rattle.move_slots.specs.inner.Taking.{takes_slot, added_at, SlotGives, SlotPut, SlotNumbers, SlotKept, SlotHas, SlotStep}
use Rattle.move_slots.proofs.Adding.{added}

-- a slot that is as it was
pub kept_same : (u k : ℕ) (mine own one still : List ℕ) → SlotKept u k mine own one still mine own one still
kept_same u k mine own one still = record { mine-kept = λ x l. refl; own-kept = refl; one_kept = λ x l. refl; still_kept = refl }

-- the slots but one, in a table where a row was written at that one
pub other-slot : (f : ℕ → ℕ) (u slot k x : ℕ) (xs : List ℕ) → u ≤ 64 → 64 * slot ≤ length xs → x < u → k ≢ slot
    → get_or (written f (64 * slot) u xs) (64 * k + x) 0 ≡ get_or xs (64 * k + x) 0
other-slot f u slot k x xs h l i n = go (dec_lt k slot)
  where
    go : Dec (k < slot) → get_or (written f (64 * slot) u xs) (64 * k + x) 0 ≡ get_or xs (64 * k + x) 0
    go (yes a) = written-before f (64 * slot) u (64 * k + x) xs (omega arith) l
    go (no a) = run-behind f (64 * slot) u (64 * k + x) xs (omega arith) l

-- sums of two numbers of which one is told modulo 2^32
sum_told : (a r g : ℕ) → r ≡ g % modulus → (a + r) % modulus ≡ (a + g) % modulus
unfolding modulus
sum_told a r g h = omega arith

zero-at : (n x : ℕ) → get_or {A = ℕ} (replicate n 0) x 0 ≡ 0
zero-at zero x = refl
zero-at (suc n) zero = refl
zero-at (suc n) (suc x) = zero-at n x

from_zero : (a : ℕ) → (0 + a) % modulus ≡ a % modulus
unfolding modulus
from_zero a = omega arith

module _ (u slot r : ℕ) (row mine own one still mine' own' one' still' : List ℕ) (put : SlotPut u slot r row mine own one still mine' own' one' still')
    (u64 : u ≤ 64) (low : slot < 64) (room : SlotRoom mine own one still) where
  pub put-others : (k : ℕ) → k ≢ slot → SlotKept u k mine own one still mine' own' one' still'
  unfolding slot_at added_at
  put-others k n = record {
    mine-kept = λ x l. ap (λ (ws : List ℕ). get_or ws (64 * k + x) 0) put.mine-is
        ∙ other-slot (λ y. get_or row y 0) u slot k x mine u64 (omega (arith, room.mine-long)) l n;
    own-kept = ap (λ (ws : List ℕ). get_or ws k 0) put.own_is ∙ get_or-set_other own slot k r 0 n;
    one_kept = λ x l. ap (λ (ws : List ℕ). get_or ws (64 * k + x) 0) put.one-is
        ∙ other-slot (added row (64 * slot) one) u slot k x one u64 (omega (arith, room.one-long)) l n;
    still_kept = ap (λ (ws : List ℕ). get_or ws k 0) put.still-is ∙ get_or-set_other still slot k ((get_or still slot 0 + r) % modulus) 0 n;
  }

  pub put-numbers : (g : ℕ) (h : ℕ → ℕ) → r ≡ g % modulus → ((x : ℕ) → x < u → get_or row x 0 ≡ h x % modulus)
      → SlotNumbers u slot g h one still mine' own' one' still'
  unfolding slot_at added_at
  put-numbers g h e H = record {
    mine-has = λ x l. ap (λ (ws : List ℕ). get_or ws (64 * slot + x) 0) put.mine-is
        ∙ run_inside (λ y. get_or row y 0) (64 * slot) u x mine l (omega (arith, room.mine-long)) ∙ H x l;
    own-has = ap (λ (ws : List ℕ). get_or ws slot 0) put.own_is ∙ get_or-set_same own slot r 0 (omega (arith, room.own-long)) ∙ e;
    one_has = λ x l. ap (λ (ws : List ℕ). get_or ws (64 * slot + x) 0) put.one-is
        ∙ run_inside (added row (64 * slot) one) (64 * slot) u x one l (omega (arith, room.one-long))
        ∙ sum_told (get_or one (64 * slot + x) 0) (get_or row x 0) (h x) (H x l);
    still-has = ap (λ (ws : List ℕ). get_or ws slot 0) put.still-is
        ∙ get_or-set_same still slot ((get_or still slot 0 + r) % modulus) 0 (omega (arith, room.still-long)) ∙ sum_told (get_or still slot 0) r g e;
  }

-- One slot of the tables: nothing is put where it does not take the atom, else the numbers of the sums for all ports.
module _ (u : ℕ) (bytes firsts ends uses masks sizes cells : List ℕ) (i d slot used : ℕ) (takes : Bool) (used-is : used ≡ get_or uses i 0)
    (takes-is : takes ≡ takes_slot used slot) (mine own one still : List ℕ) where
  told : takes_slot (get_or uses i 0) slot ≡ takes
  told = ap (λ (w : ℕ). takes_slot w slot) (sym used-is) ∙ sym takes-is

  pub step-none : takes ≡ false → SlotStep u bytes firsts ends uses masks sizes cells i d slot mine own one still mine own one still
  step-none h = record {
    others = λ k n. kept_same u k mine own one still;
    skipped = λ e. kept_same u slot mine own one still;
    taken = λ e. absurd (true≢false (sym e ∙ told ∙ h));
  }

  pub step-put : (r : ℕ) (before row mine' own' one' still' : List ℕ) → takes ≡ true
      → SlotGives u bytes firsts ends uses masks sizes cells i d slot before row r → before ≡ replicate 64 0
      → SlotPut u slot r row mine own one still mine' own' one' still' → u ≤ 64 → slot < 64 → SlotRoom mine own one still
      → SlotStep u bytes firsts ends uses masks sizes cells i d slot mine own one still mine' own' one' still'
  unfolding SlotGives SlotHas
  step-put r before row mine' own' one' still' h gives zeros put u64 low room = record {
    others = put-others u slot r row mine own one still mine' own' one' still' put u64 low room;
    skipped = λ e. absurd (true≢false (sym (sym e ∙ told ∙ h)));
    taken = λ e sets P n c s b g t l tl l2 q.
        let G = gives sets P n c s b g t l tl l2 q in
        put-numbers u slot r row mine own one still mine' own' one' still' put u64 low room _ _ G.0
        (λ x xu. G.1 x xu ∙ ap (λ (a : ℕ). (a + flipped_share u masks sizes cells ((t, l) ∷ []) x n c b d) % modulus) (ap (λ (ws : List ℕ). get_or ws x 0) zeros ∙ zero-at 64 x) ∙ from_zero _);
  }
