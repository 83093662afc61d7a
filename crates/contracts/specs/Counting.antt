-- What the calls that count answer. Paper 02, requests 2026-01 and 2026-02.
use Rattle.std.specs.Prelude.{ℕ, Result, Ok, Err}
use Rattle.logic.specs.declared.refusal.Refusal.{Refusal}
use Rattle.logic.specs.Refusal.{refusal_number, Told}

-- The number, and how many: of the best moves (2026-01), of a text's bytes (2026-02).
pub record CountValues : Type 0 where
  pub number : ℕ
  pub count : ℕ

-- "The answer is the number with all other fields 0."
unfoldable pub count_refused : ℕ → CountValues
count_refused number = record { number = number; count = 0 }

-- "and returns how many"; "It returns the text's length".
unfoldable pub count_accepted : ℕ → CountValues
count_accepted count = record { number = 0; count = count }

-- The number and the values of each case of the enum.
unfoldable pub count_values : Result ℕ Refusal → CountValues
count_values (Ok count) = count_accepted count
count_values (Err g) = count_refused (refusal_number g)

-- No refusal has the number 0, so that the values tell the case.
abbrev pub CountTold : Result ℕ Refusal → Type 0
CountTold r = Told r
