-- What vk_move, vk_trial, vk_improve, vk_best_moves, vk_undo, vk_test_begin and vk_test_end give: the fields of the C structs by the answer
-- definitions of the calls, and the tables and the journal afterwards.
use Rattle.std.specs.Prelude.{◌≡◌, List, ◌++◌, map, ℕ, length, drop}
use Rattle.table_format.specs.Decode.{Decoded}
use Rattle.contracts.specs.State.{State}
use Rattle.contracts.specs.Journal.{Journaled}
use Rattle.contracts.specs.MoveCall.{MoveValues}
use Rattle.contracts.specs.TrialCall.{ScratchAfter}
use Rattle.contracts.specs.ImproveCall.{ImproveValues}
use Rattle.contracts.specs.BestCall.{Listing, move_record}
use Rattle.answers.specs.declared.MoveAnswer.{MoveAnswer}
use Rattle.answers.specs.declared.ImproveAnswer.{ImproveAnswer}
use Rattle.answers.specs.declared.CountAnswer.{CountAnswer}
use Rattle.answers.specs.Boundary.{CountFields}

-- "The answer is the number with all other fields 0", and the three numbers of an accepted move: each field by the call's own
-- definitions.
pub record MoveFields (v : MoveValues) (r : MoveAnswer) : Type 0 where
  pub number_is : r.number ≡ v.number
  pub before-is : r.before ≡ v.before
  pub after_is : r.after ≡ v.after
  pub changed-is : r.changed ≡ v.changed

-- The struct, every mask, cell and record and the record count afterwards, of a move and of an undo.
pub record MoveGives (given : MoveValues × Journaled) (r : MoveAnswer) (x' : Journaled) : Type 0 where
  pub fields : MoveFields given.0 r
  pub lent-are : x' ≡ given.1

-- The struct, and every mask and cell afterwards, of a port put in test or taken out.
pub record TestGives (given : MoveValues × State) (r : MoveAnswer) (s' : State) : Type 0 where
  pub fields : MoveFields given.0 r
  pub tables-are : s' ≡ given.1

-- The struct, and scratch afterwards: on refusal as it was, and never written past the plan's own cells.
pub record TrialGives (d : Decoded) (given : MoveValues) (r : MoveAnswer) (scratch scratch' : List ℕ) : Type 0 where
  pub fields : MoveFields given r
  pub scratch-is : ScratchAfter d r.number scratch scratch'

-- The same of improve: whether a move was made, and that move.
pub record ImproveFields (v : ImproveValues) (r : ImproveAnswer) : Type 0 where
  pub number_is : r.number ≡ v.number
  pub found-is : r.found ≡ v.found
  pub move-is : r.chosen ≡ v.chosen
  pub before-is : r.before ≡ v.before
  pub after_is : r.after ≡ v.after
  pub changed-is : r.changed ≡ v.changed

-- The struct, every mask, cell and record, the record count and scratch afterwards.
pub record ImproveGives (d : Decoded) (given : ImproveValues × Journaled) (r : ImproveAnswer) (x' : Journaled) (scratch scratch' : List ℕ) : Type 0 where
  pub fields : ImproveFields given.0 r
  pub lent-are : x' ≡ given.1
  pub scratch-is : ScratchAfter d r.number scratch scratch'

-- The struct, every record of the lent list and scratch afterwards.
pub record ListGives (d : Decoded) (given : Listing) (r : CountAnswer) (list list' : List (List ℕ)) (scratch scratch' : List ℕ) : Type 0 where
  pub fields : CountFields given.0 r
  pub list-is : list' ≡ map move_record given.1 ++ drop (length given.1) list
  pub scratch-is : ScratchAfter d r.number scratch scratch'
