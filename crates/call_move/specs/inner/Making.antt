-- A move as move and undo make it: the grounds of both in one list, of which each leaves one out.
use Rattle.std.specs.Prelude.{Bool, List, [], ◌∷◌, ◌++◌, ℕ}
use Rattle.logic.specs.declared.Move.{Move}
use Rattle.logic.specs.Formula.{Plan}
use Rattle.logic.specs.Configuration.{Sets}
use Rattle.logic.specs.Moves.{Ground, move_grounds}
use Rattle.table_format.specs.Decode.{Decoded}
use Rattle.contracts.specs.State.{State}
use Rattle.contracts.specs.Call.{journal_grounds, call}
use Rattle.contracts.specs.MoveCall.{MoveValues, move_refused, moves_own}

-- 19 where no record is left to take back, 14 and 15, and 18 where no place is free.
unfoldable pub making_grounds : Bool → Bool → Move → Plan → Sets → List Ground
making_grounds empty full m P k = (19, empty) ∷ move_grounds P k m ++ (18, full) ∷ []

-- The same after 11 to 13.
unfoldable pub try_grounds : Decoded → State → ℕ → ℕ → Bool → Bool → Move → List Ground
try_grounds d s room count empty full m = journal_grounds d s room count [] (making_grounds empty full m)

-- The answer, every mask and every cell afterwards.
unfoldable pub made : Decoded → Move → State → ℕ → ℕ → Bool → Bool → MoveValues × State
made d m s room count empty full = call move_refused (try_grounds d s room count empty full m) d (moves_own m) s
