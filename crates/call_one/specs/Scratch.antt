-- The scratch table through a list of calls.
use Rattle.std.specs.Prelude.{◌≡◌, List, [], ◌∷◌, ℕ, length, take, drop}
use Rattle.table_format.specs.Decode.{Decoded}
use Rattle.contracts.specs.TrialCall.{ScratchAfter}
use Rattle.contracts.specs.Lists.{Exchange, move_call, trial_call, improve_call, best_call, undo_call, test_call}

-- What a call is lent of scratch: a move, an undo and a port in test none of it.
unfoldable pub lent_to : Exchange → List ℕ
lent_to (move_call m r) = []
lent_to (trial_call m scratch r) = scratch
lent_to (improve_call kinds scratch r) = scratch
lent_to (best_call kinds scratch room r) = scratch
lent_to (undo_call r) = []
lent_to (test_call into p r) = []

-- The paper's number of an answer.
unfoldable pub answer_number : Exchange → ℕ
answer_number (move_call m r) = r.number
answer_number (trial_call m scratch r) = r.number
answer_number (improve_call kinds scratch r) = r.number
answer_number (best_call kinds scratch room r) = r.0.number
answer_number (undo_call r) = r.number
answer_number (test_call into p r) = r.number

-- "Trial returns the same three numbers and writes only a scratch table of at least as many cells" (paper 01, section One move);
-- improve and the best moves likewise. One call: it is lent the front of scratch as the last call left it, writes of that what `ScratchAfter` allows,
-- and nothing behind it.
pub record ScratchOne (d : Decoded) (x : Exchange) (before after : List ℕ) : Type 0 where
  pub front : take (length (lent_to x)) before ≡ lent_to x
  pub written : ScratchAfter d (answer_number x) (lent_to x) (take (length (lent_to x)) after)
  pub behind : drop (length (lent_to x)) after ≡ drop (length (lent_to x)) before

-- Call after call.
pub data ScratchRun (d : Decoded) : List ℕ → List Exchange → List ℕ → Type 0 where
  kept : {s : List ℕ} → ScratchRun d s [] s
  passed : {s s' s'' : List ℕ} {x : Exchange} {xs : List Exchange} → ScratchOne d x s s' → ScratchRun d s' xs s'' → ScratchRun d s (x ∷ xs) s''
