-- What a program writes that is one call over bytes: paper 02, request 2026-02.
use Rattle.std.specs.Prelude.{◌≡◌, List, ℕ, ◌≤◌, min, length, take, Result, Ok, Err}
use Rattle.logic.specs.Refusal.{refusal_number}
use Rattle.program_bytes.specs.declared.Refused.{Refused}
use Rattle.program_bytes.specs.declared.Refused.TheVariants.{NoInput, Ground}

-- Bytes to standard output, or: "A refusal is `refused N` on standard error and nothing on standard output".
pub data Outcome : Type 0 where
  output : List ℕ → Outcome
  refused : ℕ → Outcome

-- "N is 0, before all else", or the ground's number.
unfoldable pub refused_number : Refused → ℕ
refused_number NoInput = 0
refused_number (Ground g) = refusal_number g

-- The same of each case of the result, over the lent table.
unfoldable pub outcome_of : Result ℕ Refused → List ℕ → Outcome
outcome_of (Ok n) table = output (take n table)
outcome_of (Err r) table = refused (refused_number r)

-- How many bytes of the lent table a case names.
unfoldable pub named_bytes : Result ℕ Refused → ℕ
named_bytes (Ok n) = n
named_bytes (Err r) = 0

-- What a program's call promises: the outcome, by its result and the lent table afterwards.
pub record Gives (expected : Outcome) (r : Result ℕ Refused) (table' : List ℕ) : Type 0 where
  pub outcome-is : outcome_of r table' ≡ expected
  pub within : named_bytes r ≤ length table'

-- The first bytes of an input, as many as a lent table has places for, stand at its front; n is their number.
pub record Kept (input : List ℕ) (n : ℕ) (table : List ℕ) : Type 0 where
  pub count-is : n ≡ min (length table) (length input)
  pub bytes-are : take n table ≡ take (length table) input
