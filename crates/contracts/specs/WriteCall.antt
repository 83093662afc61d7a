-- Writing a plan as text. Paper 02, request 2026-02.
use Rattle.std.specs.Prelude.{◌≡◌, List, [], ◌∷◌, ◌++◌, ℕ, zero, suc, ltb, length, drop, Result}
use Rattle.logic.specs.Moves.{Ground, refusal}
use Rattle.text_form.specs.Spelling.{plan_text, unwritable}
use Rattle.logic.specs.declared.refusal.Refusal.{Refusal}
use Rattle.table_format.specs.Decode.{Decoded, broken, sound}
use Rattle.contracts.specs.Call.{plan_grounds}
use Rattle.contracts.specs.Counting.{CountValues, count_refused, count_accepted, count_values, CountTold}

-- 11, then "17, the text would meet refusal 1 or 4, before 12": the lent text has room for so many bytes.
unfoldable pub write_grounds : Decoded → ℕ → List Ground
write_grounds d room = plan_grounds d (λ P. (17, unwritable P) ∷ (12, ltb room (length (plan_text P))) ∷ [])

-- The answer, and every byte of the lent text afterwards, where the first ground that applies is given, 0 for none. A refused call
-- writes nothing; an accepted one writes the plan's text, and bytes past it stay. "It returns the text's length". A broken table
-- meets 11.
unfoldable pub write_or : ℕ → Decoded → List ℕ → CountValues × List ℕ
write_or (suc g) d before = (count_refused (suc g), before)
write_or zero broken before = (count_refused 11, before)
write_or zero (sound P) before = (count_accepted (length (plan_text P)), plan_text P ++ drop (length (plan_text P)) before)

-- What writing answers and leaves of the lent text, for every table and every text.
unfoldable pub writes : Decoded → List ℕ → CountValues × List ℕ
writes d before = write_or (refusal (write_grounds d (length before))) d before

-- What `write` promises: its answer by the number and the length, and every byte of the lent text afterwards.
pub record WritePromise (given : CountValues × List ℕ) (r : Result ℕ Refusal) (text' : List ℕ) : Type 0 where
  pub values-are : count_values r ≡ given.0
  pub told : CountTold r
  pub text-is : text' ≡ given.1
