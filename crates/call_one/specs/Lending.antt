-- What is lent to a list of calls.
use Rattle.std.specs.Prelude.{List, ℕ}
use Rattle.contracts.specs.Journal.{Journaled}

-- What is lent to a list of calls: the tables and the journal that its calls share, scratch, a list for the best moves, and the room for
-- the answers.
pub record Lent : Type 0 where
  pub tables : Journaled
  pub scratch : List ℕ
  pub list : List (List ℕ)
  pub answers : List ℕ

-- The same, one after the other.
abbrev pub lends : Journaled → List ℕ → List (List ℕ) → List ℕ → Lent
lends s scratch list answers = record { tables = s; scratch = scratch; list = list; answers = answers }
