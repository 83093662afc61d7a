-- Undo as a function of the tables and their journal. Paper 02, request 2026-03: "Undo makes the opposite of the newest record, returns a
-- move's three numbers and lowers the record count by one".
use Rattle.std.specs.Prelude.{not, List, [], ◌∷◌, ℕ, eqb}
use Rattle.logic.specs.declared.Move.{Move}
use Rattle.logic.specs.Formula.{Plan}
use Rattle.logic.specs.Configuration.{Sets}
use Rattle.logic.specs.Moves.{Ground, known, legal}
use Rattle.table_format.specs.Decode.{Decoded}
use Rattle.contracts.specs.State.{State}
use Rattle.contracts.specs.Journal.{room_of, newest, journal_taken, opposite, Journaled}
use Rattle.contracts.specs.Call.{journal_grounds, call}
use Rattle.contracts.specs.MoveCall.{MoveValues, move_refused, move_made, moves_own}

-- "19, undo on an empty journal, after 13"; "A foreign record meets 14, and its opposite 15, as any move does".
unfoldable pub taken_grounds : Plan → Sets → ℕ → Move → List Ground
taken_grounds P k count m = (19, eqb count 0) ∷ (14, not (known P m)) ∷ (15, not (legal P k (opposite m))) ∷ []

-- Undo tries 11 to 13, over a journal of some length, record count and newest record, then these.
unfoldable pub undo_grounds : Decoded → State → ℕ → ℕ → Move → List Ground
undo_grounds d s room count m = journal_grounds d s room count [] (λ P k. taken_grounds P k count m)

-- Undo as a function of the tables and of the journal's length, record count and newest record: the answer, every mask and every cell
-- afterwards.
unfoldable pub undoes : Decoded → Move → State → ℕ → ℕ → MoveValues × State
undoes d m s room count = call move_refused (undo_grounds d s room count m) d (moves_own (opposite m)) s

-- Undo as a function of the tables with their journal: the answer, every mask, cell and record and the record count afterwards.
unfoldable pub undoes_journaled : Decoded → Journaled → MoveValues × Journaled
undoes_journaled d x =
    let r = undoes d (newest x.journal) x.tables (room_of x.journal) x.journal.count in
    (r.0, record { tables = r.1; journal = journal_taken (move_made r.0) x.journal })
