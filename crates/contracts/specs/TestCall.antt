-- A port put in test or taken out, as a function of the tables. Paper 02, request 2026-05: "Two calls put a port in test and take it
-- out, returning a move's three numbers".
use Rattle.std.specs.Prelude.{Bool, List, [], ℕ}
use Rattle.logic.specs.Formula.{Plan}
use Rattle.logic.specs.Configuration.{in_masks, spelled}
use Rattle.logic.specs.Moves.{Ground}
use Rattle.logic.specs.Change.{new_cells}
use Rattle.logic.specs.InTest.{test_grounds, test_masks, test_change}
use Rattle.table_format.specs.Decode.{Decoded}
use Rattle.contracts.specs.State.{State, tables}
use Rattle.contracts.specs.Journal.{Journaled}
use Rattle.contracts.specs.Call.{call_grounds, call}
use Rattle.contracts.specs.MoveCall.{MoveValues, move_refused, three_numbers}

-- 11 to 13, "13 covers the new mask", then 14 and 20; there is no journal, so never 18.
unfoldable pub test_call_grounds : Decoded → State → Bool → ℕ → List Ground
test_call_grounds d s into p = call_grounds d s [] (λ P k. test_grounds P k into p)

-- "they touch every size literal whose set holds it, and its ancestors": the plan's own cells afterwards, from its own masks and cells
-- before.
unfoldable pub tested_cells : Plan → Bool → ℕ → List ℕ → List ℕ → List ℕ
tested_cells P into p own before = new_cells P (spelled P (test_masks P into p own)) (test_change P (in_masks own) p) before

-- The plan's own tables afterwards: the one mask, and the touched cells.
unfoldable pub tested_tables : Plan → Bool → ℕ → State → State
tested_tables P into p own = tables (test_masks P into p own.masks) (tested_cells P into p own.masks own.cells)

-- An accepted call over the plan's own tables.
unfoldable pub tests_own : Bool → ℕ → Plan → State → MoveValues × State
tests_own into p P own = (three_numbers own.cells (tested_cells P into p own.masks own.cells), tested_tables P into p own)

-- The call as a function of the tables: the answer, every mask and every cell afterwards.
unfoldable pub tests : Decoded → Bool → ℕ → State → MoveValues × State
tests d into p s = call move_refused (test_call_grounds d s into p) d (tests_own into p) s

-- The same with the journal, which it neither reads nor writes.
unfoldable pub tests_journaled : Decoded → Bool → ℕ → Journaled → MoveValues × Journaled
tests_journaled d into p x =
    let r = tests d into p x.tables in
    (r.0, record { tables = r.1; journal = x.journal })
