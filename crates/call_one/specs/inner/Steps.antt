-- What working one call of a list gives.
use Rattle.std.specs.Prelude.{◌≡◌, Option, Some, None, List, ◌++◌, ℕ, ◌-◌, length, get_or, set, drop}
use Rattle.logic.specs.declared.Move.{Move}
use Rattle.logic.specs.Moves.{no_move}
use Rattle.table_format.specs.Decode.{decode}
use Rattle.contracts.specs.Lists.{Asked, step}
use Rattle.journal_rules.specs.inner.Counting.{place_of}
use Rattle.call_numbers.specs.Encoding.{Encodes, Unknown, answer_numbers, list_one}
use Rattle.call_one.specs.Scratch.{ScratchOne}
use Rattle.call_one.specs.Lending.{Lent}

-- One call was worked: the numbers say a call, which answered what the ten numbers say and left the tables and the journal as its
-- definition says.
pub record OneWorked (bytes call : List ℕ) (before after : Lent) : Type 0 where
  pub asked : Asked
  pub says : Encodes (length before.scratch) (length before.list) call asked
  pub tables-are : after.tables ≡ (step (decode bytes) before.tables asked).1
  pub scratch-step : ScratchOne (decode bytes) (step (decode bytes) before.tables asked).0 before.scratch after.scratch
  pub list-is : after.list ≡ list_one before.list (step (decode bytes) before.tables asked).0
  pub answer-is : after.answers ≡ answer_numbers (step (decode bytes) before.tables asked).0 ++ drop 10 before.answers

-- Nothing was written.
pub record NoneWorked (call : List ℕ) (before after : Lent) : Type 0 where
  pub unknown : Unknown call
  pub kept : after ≡ before

-- What is lent to one call of the journal, by value: its length and its newest record, beside the record count.
pub record JournalIs (records : List Move) (room count : ℕ) (newest : Move) : Type 0 where
  pub room-is : length records ≡ room
  pub newest-is : get_or records (count - 1) no_move ≡ newest

-- One call over every journal that these are of. Of a call that was worked with the record put where the two counts say; of an unknown
-- tag nothing was written, and no record is put.
unfoldable pub OneOver : Option Move → List ℕ → List ℕ → ℕ → Move → ℕ → (List Move → Lent) → ℕ → (List Move → Lent) → Type 0
OneOver (Some m) bytes call room newest count before count' after =
    (records : List Move) → JournalIs records room count newest → OneWorked bytes call (before records) (after (set records (place_of count count' room) m))
OneOver None bytes call room newest count before count' after =
    (records : List Move) → JournalIs records room count newest → NoneWorked call (before records) (after records)
