-- A move as a function of the tables and their journal: paper 01, sections One move and Grounds for refusal; paper 02, request 2026-03.
use Rattle.std.specs.Prelude.{◌≡◌, Bool, List, [], ◌∷◌, ◌++◌, ℕ, eqb, get_or, Result, Ok, Err}
use Rattle.logic.specs.declared.Move.{Move}
use Rattle.logic.specs.Formula.{Plan}
use Rattle.logic.specs.Configuration.{Sets, in_masks, spelled}
use Rattle.logic.specs.Moves.{Ground, move_grounds, move_masks, move_pairs}
use Rattle.logic.specs.Change.{pairs_change, new_cells, differing}
use Rattle.logic.specs.declared.refusal.Refusal.{Refusal}
use Rattle.logic.specs.Refusal.{refusal_number, Told}
use Rattle.table_format.specs.Decode.{Decoded}
use Rattle.contracts.specs.State.{State}
use Rattle.contracts.specs.Journal.{full, room_of, journal_after, Journaled}
use Rattle.contracts.specs.Call.{journal_grounds, call}
use Rattle.contracts.specs.declared.Moved.{Moved}

-- What a move, a trial, an undo and a port in test answer, by 01's number and values: "root before, root after, and how many cells differ from before".
pub record MoveValues : Type 0 where
  pub number : ℕ
  pub before : ℕ
  pub after : ℕ
  pub changed : ℕ

-- "The answer is the number with all other fields 0."
unfoldable pub move_refused : ℕ → MoveValues
move_refused number = record { number = number; before = 0; after = 0; changed = 0 }

-- An accepted move has the number 0 and "returns root before, root after, and how many cells differ from before".
unfoldable pub move_accepted : ℕ → ℕ → ℕ → MoveValues
move_accepted before after changed = record { number = 0; before = before; after = after; changed = changed }

-- The number and the values of each case of the enum.
unfoldable pub move_values : Result Moved Refusal → MoveValues
move_values (Ok r) = move_accepted r.before r.after r.changed
move_values (Err g) = move_refused (refusal_number g)

-- No refusal has the number 0, so that the values tell the case.
abbrev pub MoveTold : Result Moved Refusal → Type 0
MoveTold r = Told r

-- The answer of such a call is as given.
pub record MovedAs (given : MoveValues) (r : Result Moved Refusal) : Type 0 where
  pub values-are : move_values r ≡ given
  pub told : MoveTold r

-- 14 and 15, then "18, journal full [..], for a move that would else be accepted [..], last".
unfoldable pub made_grounds : Plan → Sets → ℕ → ℕ → Move → List Ground
made_grounds P k room count m = move_grounds P k m ++ (18, full room count) ∷ []

-- "The other calls try 11 to 15": a move, over a journal of some length and record count.
unfoldable pub move_call_grounds : Decoded → State → ℕ → ℕ → Move → List Ground
move_call_grounds d s room count m = journal_grounds d s room count [] (λ P k. made_grounds P k room count m)

-- "An accepted move writes its masks and touched cells": the plan's own cells afterwards, from its own masks and cells before.
unfoldable pub cells_after : Plan → Move → List ℕ → List ℕ → List ℕ
cells_after P m own before = new_cells P (spelled P (move_masks P m own)) (pairs_change (move_pairs P (in_masks own) m)) before

-- "root before, root after, and how many cells differ from before", of cells before and after.
abbrev pub three_numbers : List ℕ → List ℕ → MoveValues
three_numbers before after = move_accepted (get_or before 0 0) (get_or after 0 0) (differing before after)

-- "and returns root before, root after, and how many cells differ from before".
unfoldable pub move_answer : Plan → Move → List ℕ → List ℕ → MoveValues
move_answer P m own before = three_numbers before (cells_after P m own before)

-- "An accepted move writes its masks and touched cells": the plan's own tables afterwards.
unfoldable pub tables_after : Plan → Move → State → State
tables_after P m own = record { masks = move_masks P m own.masks; cells = cells_after P m own.masks own.cells }

-- An accepted move over the plan's own tables.
unfoldable pub moves_own : Move → Plan → State → MoveValues × State
moves_own m P own = (move_answer P m own.masks own.cells, tables_after P m own)

-- The move as a function of the tables and of the journal's length and record count: the answer, every mask and every cell afterwards.
unfoldable pub moves : Decoded → Move → State → ℕ → ℕ → MoveValues × State
moves d m s room count = call move_refused (move_call_grounds d s room count m) d (moves_own m) s

-- Whether a move was made: its answer is no refusal.
unfoldable pub move_made : MoveValues → Bool
move_made v = eqb v.number 0

-- The move as a function of the tables with their journal: the answer, every mask, cell and record and the record count afterwards.
unfoldable pub moves_journaled : Decoded → Move → Journaled → MoveValues × Journaled
moves_journaled d m x =
    let r = moves d m x.tables (room_of x.journal) x.journal.count in
    (r.0, record { tables = r.1; journal = journal_after (move_made r.0) m x.journal })

-- The answer, and every mask and every cell afterwards, of a call that answers these numbers: what `port_test` promises, which is lent no
-- journal.
pub record MadeAs (given : MoveValues × State) (r : Result Moved Refusal) (s' : State) : Type 0 where
  pub answers : MovedAs given.0 r
  pub tables-are : s' ≡ given.1

-- What `make_move` and `undo` promise, which are lent the journal's length and record count: the answer by 01's number and values, and
-- every mask, every cell and the record count afterwards, which goes by whether a move was made.
pub record MovePromise (counts : Bool → ℕ → ℕ) (given : MoveValues × State) (count : ℕ) (r : Result Moved Refusal) (s' : State) (count' : ℕ) : Type 0 where
  pub answers : MovedAs given.0 r
  pub tables-are : s' ≡ given.1
  pub count-is : count' ≡ counts (move_made given.0) count
