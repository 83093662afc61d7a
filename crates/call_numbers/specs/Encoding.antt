-- A list of calls and its answers as numbers of 32 bits. Paper 01, section Lists of calls; paper 02, request 2026-03: "Lists of calls [..]
-- include undo", and request 2026-05: "these two calls join the lists".
use Rattle.std.specs.Prelude.{◌≡◌, ◌≢◌, Bool, cond, List, [], ◌∷◌, ◌++◌, map, ℕ, min, length, get_or, drop}
use Rattle.logic.specs.declared.Move.{Move}
use Rattle.logic.specs.Moves.{no_move}
use Rattle.contracts.specs.MoveCall.{MoveValues}
use Rattle.contracts.specs.ImproveCall.{ImproveValues}
use Rattle.contracts.specs.Counting.{CountValues}
use Rattle.contracts.specs.BestCall.{move_record}
use Rattle.contracts.specs.Lists.{Asked, ask_move, ask_trial, ask_improve, ask_best, ask_undo, ask_test, Exchange, move_call, trial_call, improve_call, best_call, undo_call, test_call}

-- "a tag, five fields, and how much of the lent scratch this call gets"
unfoldable pub tag : List ℕ → ℕ
tag call = get_or call 0 0

-- The five fields of a move and of a trial: "kind, set S, set T, port p, port q".
unfoldable pub move_of : List ℕ → Move
move_of call = record { kind = get_or call 1 0; s = get_or call 2 0; t = get_or call 3 0; p = get_or call 4 0; q = get_or call 5 0 }

-- A kinds sum is the first field; what is not named here is not looked at.
unfoldable pub kinds_of : List ℕ → ℕ
kinds_of call = get_or call 1 0

-- How many cells of the lent scratch this call gets, "so that 'too short' occurs": at most all of it.
unfoldable pub cells_lent : List ℕ → ℕ → ℕ
cells_lent call scratch-length = min (get_or call 6 0) scratch-length

-- How many records of the lent list a call that lists the best moves gets, its second field: at most all of them.
unfoldable pub records_lent : List ℕ → ℕ → ℕ
records_lent call list_length = min (get_or call 2 0) list_length

-- The tag of a port put in test, and of one taken out. Which port is the fourth field, a move's port p.
unfoldable pub test_tag : Bool → ℕ
test_tag into = cond into 6 7

-- The call that seven numbers say: 1 a move, 2 a trial, 3 improve, 4 the best moves, 5 undo, 6 a port put in test, 7 one taken out. "Scratch
-- may be another table at every call, hold anything or be too short": only its length is said, and 1, 5, 6 and 7 are lent none.
unfoldable pub Encodes : ℕ → ℕ → List ℕ → Asked → Type 0
Encodes scratch-length list_length call (ask_move m) = (tag call ≡ 1) × (m ≡ move_of call)
Encodes scratch-length list_length call (ask_trial m scratch) = (tag call ≡ 2) × (m ≡ move_of call) × (length scratch ≡ cells_lent call scratch-length)
Encodes scratch-length list_length call (ask_improve kinds scratch) = (tag call ≡ 3) × (kinds ≡ kinds_of call) × (length scratch ≡ cells_lent call scratch-length)
Encodes scratch-length list_length call (ask_best kinds scratch room) =
    (tag call ≡ 4) × (kinds ≡ kinds_of call) × (length scratch ≡ cells_lent call scratch-length) × (room ≡ records_lent call list_length)
Encodes scratch-length list_length call ask_undo = tag call ≡ 5
Encodes scratch-length list_length call (ask_test into p) = (tag call ≡ test_tag into) × (p ≡ (move_of call).p)

-- A tag that says none of the seven.
pub record Unknown (call : List ℕ) : Type 0 where
  pub no_move : tag call ≢ 1
  pub no-trial : tag call ≢ 2
  pub no-improve : tag call ≢ 3
  pub no-best : tag call ≢ 4
  pub no-undo : tag call ≢ 5
  pub no_test : (into : Bool) → tag call ≢ test_tag into

-- Call after call, seven numbers each.
unfoldable pub SayAll : ℕ → ℕ → List ℕ → List Asked → Type 0
SayAll scratch-length list_length numbers [] = Unit {0}
SayAll scratch-length list_length numbers (c ∷ cs) = Encodes scratch-length list_length numbers c × SayAll scratch-length list_length (drop 7 numbers) cs

-- The ten numbers of an answer: number, found, the move's kind, s, t, p, q, before, after, changed.
unfoldable pub ten_numbers : ℕ → ℕ → Move → ℕ → ℕ → ℕ → List ℕ
ten_numbers number found m before after changed =
    number ∷ found ∷ m.kind ∷ m.s ∷ m.t ∷ m.p ∷ m.q ∷ before ∷ after ∷ changed ∷ []

-- A move, a trial, an undo and a port in test find nothing.
unfoldable pub moved_numbers : MoveValues → List ℕ
moved_numbers v = ten_numbers v.number 0 no_move v.before v.after v.changed

-- Improve tells the move that it made.
unfoldable pub improved_numbers : ImproveValues → List ℕ
improved_numbers v = ten_numbers v.number v.found v.chosen v.before v.after v.changed

-- Of the best moves, how many were found.
unfoldable pub counted_numbers : CountValues → List ℕ
counted_numbers v = ten_numbers v.number v.count no_move 0 0 0

-- The answer of each call.
unfoldable pub answer_numbers : Exchange → List ℕ
answer_numbers (move_call m r) = moved_numbers r
answer_numbers (trial_call m scratch r) = moved_numbers r
answer_numbers (improve_call kinds scratch r) = improved_numbers r
answer_numbers (best_call kinds scratch room r) = counted_numbers r.0
answer_numbers (undo_call r) = moved_numbers r
answer_numbers (test_call into p r) = moved_numbers r

-- Answer after answer, ten numbers each.
unfoldable pub all_numbers : List Exchange → List ℕ
all_numbers [] = []
all_numbers (x ∷ xs) = answer_numbers x ++ all_numbers xs

-- The lent list after a call: only the best moves are written into it, and what stood behind them stays.
unfoldable pub list_one : List (List ℕ) → Exchange → List (List ℕ)
list_one list (move_call m r) = list
list_one list (trial_call m scratch r) = list
list_one list (improve_call kinds scratch r) = list
list_one list (best_call kinds scratch room r) = map move_record r.1 ++ drop (length r.1) list
list_one list (undo_call r) = list
list_one list (test_call into p r) = list

-- The lent list after call after call.
unfoldable pub list_after : List (List ℕ) → List Exchange → List (List ℕ)
list_after list [] = list
list_after list (x ∷ xs) = list_after (list_one list x) xs
