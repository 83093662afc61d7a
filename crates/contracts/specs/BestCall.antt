-- The call that lists the best moves. Paper 02, request 2026-01.
use Rattle.std.specs.Prelude.{◌≡◌, not, List, [], ◌∷◌, ◌++◌, map, ℕ, ltb, length, drop, Result}
use Rattle.logic.specs.declared.Move.{Move}
use Rattle.logic.specs.Formula.{Plan}
use Rattle.logic.specs.Moves.{Ground, kinds_known}
use Rattle.logic.specs.declared.refusal.Refusal.{Refusal}
use Rattle.table_format.specs.Decode.{Decoded}
use Rattle.contracts.specs.State.{State, own_tables}
use Rattle.contracts.specs.Call.{call_grounds, call}
use Rattle.contracts.specs.Counting.{CountValues, count_refused, count_accepted, count_values, CountTold}
use Rattle.contracts.specs.ImproveCall.{best_moves}

-- Grounds 11 to 13, 14 of the kinds, then "16, the lent list is too short": the list has room for so many moves.
unfoldable pub best_grounds : Decoded → State → List ℕ → ℕ → ℕ → List Ground
best_grounds d s lengths kinds room =
    call_grounds d s lengths (λ P k. (14, not (kinds_known kinds)) ∷ (16, ltb room (length (best_moves P kinds (own_tables P s)))) ∷ [])

-- The answer with the moves that are listed: none on refusal.
abbrev pub Listing : Type 0
Listing = CountValues × List Move

-- A refused call lists nothing.
unfoldable pub list_refused : ℕ → Listing
list_refused number = (count_refused number, [])

-- An accepted call over the plan's own tables, which stay: "lists all legal moves [..] and returns how many (0 if none is legal)".
unfoldable pub lists_own : ℕ → Plan → State → Listing × State
lists_own kinds P own = ((count_accepted (length (best_moves P kinds own)), best_moves P kinds own), own)

-- The answer and the listed moves, over the tables, the length of scratch and the room of the list.
unfoldable pub lists : Decoded → ℕ → State → ℕ → ℕ → Listing
lists d kinds s scratch-length room = (call list_refused (best_grounds d s (scratch-length ∷ []) kinds room) d (lists_own kinds) s).0

-- A move record: "kind, set S, set T, port p, port q".
unfoldable pub move_record : Move → List ℕ
move_record m = m.kind ∷ m.s ∷ m.t ∷ m.p ∷ m.q ∷ []

-- What `best_moves` promises: its answer by the number and the count, and every record of the lent list afterwards: the moves in their
-- order, those past the count as they were, and on refusal all.
pub record ListPromise (given : Listing) (r : Result ℕ Refusal) (list list' : List (List ℕ)) : Type 0 where
  pub values-are : count_values r ≡ given.0
  pub told : CountTold r
  pub list-is : list' ≡ map move_record given.1 ++ drop (length given.1) list
