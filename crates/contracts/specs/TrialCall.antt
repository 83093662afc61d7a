-- "Trial returns the same three numbers and writes only a scratch table of at least as many cells." (paper 01, section One move)
use Rattle.std.specs.Prelude.{◌≡◌, ◌≢◌, List, [], ◌∷◌, ℕ, length, drop}
use Rattle.logic.specs.declared.Move.{Move}
use Rattle.logic.specs.Formula.{Plan}
use Rattle.logic.specs.Cells.{own_cells}
use Rattle.logic.specs.Moves.{Ground, move_grounds}
use Rattle.table_format.specs.Decode.{Decoded, broken, sound}
use Rattle.contracts.specs.State.{State}
use Rattle.contracts.specs.Call.{call_grounds, call}
use Rattle.contracts.specs.MoveCall.{MoveValues, move_refused, move_answer}

-- An accepted trial over the plan's own tables: a move's answer, and the tables stay.
unfoldable pub trials_own : Move → Plan → State → MoveValues × State
trials_own m P own = (move_answer P m own.masks own.cells, own)

-- "The other calls try 11 to 15": a trial, which is lent scratch and no journal.
unfoldable pub trial_grounds : Decoded → State → ℕ → Move → List Ground
trial_grounds d s scratch-length m = call_grounds d s (scratch-length ∷ []) (λ P k. move_grounds P k m)

-- The answer over the tables and the length of scratch.
unfoldable pub trials : Decoded → Move → State → ℕ → MoveValues
trials d m s scratch-length = (call move_refused (trial_grounds d s scratch-length m) d (trials_own m) s).0

-- How many cells of scratch an accepted call may write.
unfoldable pub scratch_own : Decoded → ℕ
scratch_own broken = 0
scratch_own (sound P) = own_cells P

-- Scratch after a call that answers a number: "what scratch holds after an accepted call" is left free, but nothing past the
-- plan's own cells is written, and on refusal nothing at all.
pub record ScratchAfter (d : Decoded) (number : ℕ) (before after : List ℕ) : Type 0 where
  pub same_length : length after ≡ length before
  pub past : drop (scratch_own d) after ≡ drop (scratch_own d) before
  pub refused : number ≢ 0 → after ≡ before
