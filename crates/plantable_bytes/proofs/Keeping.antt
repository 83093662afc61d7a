-- What is kept of an input gives the same as the whole input. Assumes nothing.
use mathlib.Core.Path.{◌≡◌, refl, sym, ap, ◌∙◌}
use mathlib.Core.Bool.{Bool, true, false, ◌&&◌}
use mathlib.Core.List.{List, [], ◌∷◌, ◌++◌}
use Prim.Native.Nat.{ℕ, zero, suc, ◌+◌, ◌*◌, ◌-◌, ◌/◌, ◌≤◌, ◌<◌}
use native.Mathlib.Decide.{dec_le}
use native.Mathlib.Omega.{arith}
use lib.Dec.{eqb, leb}
use lib.ListN.{length, take, drop, take-append-drop}
use lib.Seq.{take_all, length-take-le}
use borrow.Author.Tests.{eqb-false, leb-true, ltb-true, not-true}
use Rattle.logic.proofs.Lists.{and_left, and_right, and-false}
use Rattle.text_tokens.specs.Tokens.{pick, is_digit, number_of}
use Rattle.contracts.specs.Read.{reads}
use Rattle.call_read.proofs.Reading.{longer-text}
use Rattle.planroot_input.specs.Lines.{line, behind, ends, digits_only, begins_well, value, is_run}
use Rattle.planroot_input.proofs.Runs.{number-grows}
use Rattle.planroot_input.proofs.Settling.{ends-kept, line_kept, behind-kept}
use Rattle.program_bytes.specs.Outcome.{refused, Kept}
use Rattle.plantable_bytes.specs.Table.{line_sound, read_table, input_table, input_room}

-- a number from which k digits more lead past 2^64
far : ℕ → ℕ
far zero = 18446744073709551616
far (suc k) = (far k + 9) / 10

digits-far : (k n : ℕ) (s : List ℕ) → digits_only s ≡ true → k ≤ length s → far k ≤ n → 18446744073709551616 ≤ number_of n s
unfolding far digits_only number_of
digits-far zero n s d h f = omega (arith, number-grows n [] s refl)
digits-far (suc k) n [] d h f = absurd (omega arith)
digits-far (suc k) n (b ∷ s) d h f =
    rw (and_left (is_digit b) _ d) (digits-far k (10 * n + (b - 48)) s (and_right (is_digit b) _ d) (omega arith) (omega arith))

-- a digit run of a number below 2^64 has at most 20 digits
long-value : (b c : ℕ) (s : List ℕ) → digits_only (b ∷ c ∷ s) ≡ true → begins_well (b ∷ c ∷ s) ≡ true → 20 ≤ length (c ∷ s) → 18446744073709551616 ≤ value (b ∷ c ∷ s)
unfolding digits_only begins_well value number_of far
long-value b c s d w h =
    let digit = and_left (is_digit b) _ d in
    let some : (b ≡ 48 → ⊥) = eqb-false b 48 (not-true _ w) in
    let low : 48 ≤ b = leb-true 48 b (and_left (leb 48 b) _ digit) in
    rw digit (digits-far 20 (10 * 0 + (b - 48)) (c ∷ s) (and_right (is_digit b) _ d) h (omega arith))

run_short : (w : List ℕ) → is_run w ≡ true → length w ≤ 20
unfolding is_run
run_short [] h = omega arith
run_short (b ∷ []) h = omega arith
run_short (b ∷ c ∷ s) h = go (dec_le (length (b ∷ c ∷ s)) 20)
  where
    w : List ℕ
    w = b ∷ c ∷ s

    go : Dec (length (b ∷ c ∷ s) ≤ 20) → length (b ∷ c ∷ s) ≤ 20
    go (yes k) = k
    go (no f) =
        let well = and_left (digits_only w && begins_well w) _ h in
        let small = ltb-true (value w) 18446744073709551616 (and_right (digits_only w && begins_well w) _ h) in
        absurd (omega (arith, long-value b c s (and_left (digits_only w) _ well) (and_right (digits_only w) _ well) (omega arith)))

no_run : (w : List ℕ) → 20 < length w → is_run w ≡ false
no_run w h = go (is_run w) refl
  where
    go : (t : Bool) → is_run w ≡ t → t ≡ false
    go true e = absurd (omega (arith, run_short w e))
    go false e = refl

-- line 1 and what stands behind it are the input, but for the line end
line-and-behind : (x : List ℕ) → length x ≤ length (line x) + suc (length (behind x))
unfolding line behind
line-and-behind [] = omega arith
line-and-behind (c ∷ x) = go (eqb c 10) (line-and-behind x)
  where
    go : (t : Bool) → length x ≤ length (line x) + suc (length (behind x))
        → suc (length x) ≤ length (pick t [] (c ∷ line x)) + suc (length (pick t x (behind x)))
    go true h = omega arith
    go false h = omega arith

-- a line 1 that is too long for a number is refused
long-line : (x B : List ℕ) → 20 < length (line x) → input_table x B ≡ refused 0
unfolding input_table line_sound
long-line x B h = ap (λ (t : Bool). pick t (read_table (reads (value (line x)) (behind x) B)) (refused 0)) (and-false (ends x) _ (λ _. no_run (line x) h))

module _ (more : List ℕ) where
  line-longer : (x : List ℕ) → length (line x) ≤ length (line (x ++ more))
  unfolding line
  line-longer [] = omega arith
  line-longer (c ∷ x) = go (eqb c 10) (line-longer x)
    where
      go : (t : Bool) → length (line x) ≤ length (line (x ++ more)) → length (pick t [] (c ∷ line x)) ≤ length (pick t [] (c ∷ line (x ++ more)))
      go true h = omega arith
      go false h = omega arith

  -- Nothing behind the first 4,118 bytes of an input plays a part: the program may stop there.
  pub settled : (x B : List ℕ) → input_room ≤ length x → input_table (x ++ more) B ≡ input_table x B
  unfolding input_table line_sound
  settled x B h = go (dec_le (length (line x)) 20)
    where
      go : Dec (length (line x) ≤ 20) → input_table (x ++ more) B ≡ input_table x B
      go (no f) = long-line (x ++ more) B (omega (arith, line-longer x)) ∙ sym (long-line x B (omega arith))
      go (yes k) =
          let text : 4096 < length (behind x) = omega (arith, line-and-behind x) in
          let some : 1 ≤ length (behind x) = omega arith in
          rw (ends-kept more x some, line_kept more x some, behind-kept more x some, longer-text (value (line x)) (behind x) more B text)

-- what is kept of an input gives the same as the whole input
pub same_kept : (input B : List ℕ) → input_table (take input_room input) B ≡ input_table input B
same_kept input B = go (dec_le (length input) input_room)
  where
    go : Dec (length input ≤ input_room) → input_table (take input_room input) B ≡ input_table input B
    go (yes h) = ap (λ (x : List ℕ). input_table x B) (take_all input_room input h)
    go (no f) =
        let long : length (take input_room input) ≡ input_room = length-take-le input_room input (omega arith) in
        sym (settled (drop input_room input) (take input_room input) B (omega arith)) ∙ ap (λ (x : List ℕ). input_table x B) (take-append-drop input_room input)

pub kept_table : (input kept : List ℕ) (n : ℕ) (B : List ℕ) → length kept ≡ input_room → Kept input n kept → input_table (take n kept) B ≡ input_table input B
kept_table input kept n B e K = ap (λ (x : List ℕ). input_table x B) (K.bytes-are ∙ ap (λ (k : ℕ). take k input) e) ∙ same_kept input B
