-- Moves taken back, with ports put in test and taken out between: a list of calls without undo, and then as many undos as its calls made
-- moves. Paper 02, request 2026-03: "undo: masks and cells are those before the move"; request 2026-05: "Undo doesn't take
-- them back: it restores the set masks, and the cells are true for the present mask of ports in test".
use Rattle.std.specs.Prelude.{◌≡◌, Bool, true, false, cond, ◌||◌, List, [], ◌∷◌, ℕ}
use Rattle.contracts.specs.Journal.{Journaled, count_after}
use Rattle.contracts.specs.MoveCall.{move_made}
use Rattle.contracts.specs.ImproveCall.{improve_makes}
use Rattle.contracts.specs.Lists.{Asked, ask_move, ask_trial, ask_improve, ask_best, ask_undo, ask_test, Exchange, move_call, trial_call, improve_call, best_call, undo_call, test_call, SameJournal}
use Rattle.call_one.specs.Scratch.{answer_number}

-- Whether a call made a move: "Accepted moves, improve's too". An undo makes an opposite, which goes into no journal; nor does a port that
-- goes into test or out of it: "Undo doesn't take them back".
unfoldable pub made_one : Exchange → Bool
made_one (move_call m r) = move_made r
made_one (trial_call m scratch r) = false
made_one (improve_call kinds scratch r) = improve_makes r
made_one (best_call kinds scratch room r) = false
made_one (undo_call r) = false
made_one (test_call into p r) = false

-- How many moves the calls of a list made.
unfoldable pub made_moves : List Exchange → ℕ
made_moves [] = 0
made_moves (x ∷ xs) = count_after (made_one x) (made_moves xs)

-- Whether a call is an undo.
unfoldable pub is_undo : Asked → Bool
is_undo (ask_move m) = false
is_undo (ask_trial m scratch) = false
is_undo (ask_improve kinds scratch) = false
is_undo (ask_best kinds scratch room) = false
is_undo ask_undo = true
is_undo (ask_test into p) = false

-- "Two calls put a port in test and take it out": whether a call is one of the two.
unfoldable pub is_test : Asked → Bool
is_test (ask_move m) = false
is_test (ask_trial m scratch) = false
is_test (ask_improve kinds scratch) = false
is_test (ask_best kinds scratch room) = false
is_test ask_undo = false
is_test (ask_test into p) = true

-- A call that is no undo.
unfoldable pub OtherThanUndo : Asked → Type 0
OtherThanUndo c = is_undo c ≡ false

-- A list of calls without undo.
unfoldable pub NoUndo : List Asked → Type 0
NoUndo [] = Unit {0}
NoUndo (c ∷ cs) = OtherThanUndo c × NoUndo cs

-- A list of undos, with ports put in test and taken out between.
unfoldable pub UndosAndTests : List Asked → Type 0
UndosAndTests [] = Unit {0}
UndosAndTests (c ∷ cs) = ((is_undo c || is_test c) ≡ true) × UndosAndTests cs

-- How many undos a list has.
unfoldable pub undo_count : List Asked → ℕ
undo_count [] = 0
undo_count (c ∷ cs) = count_after (is_undo c) (undo_count cs)

-- Of a list of calls those that put a port in test or take it out, in order.
unfoldable pub test_calls : List Asked → List Asked
test_calls [] = []
test_calls (c ∷ cs) = cond (is_test c) (c ∷ test_calls cs) (test_calls cs)

-- Of an undo, that it was accepted; of any other call nothing.
unfoldable pub UndoAccepted : Exchange → Type 0
UndoAccepted (move_call m r) = Unit {0}
UndoAccepted (trial_call m scratch r) = Unit {0}
UndoAccepted (improve_call kinds scratch r) = Unit {0}
UndoAccepted (best_call kinds scratch room r) = Unit {0}
UndoAccepted (undo_call r) = answer_number (undo_call r) ≡ 0
UndoAccepted (test_call into p r) = Unit {0}

-- Every undo of a list was accepted.
unfoldable pub UndosAccepted : List Exchange → Type 0
UndosAccepted [] = Unit {0}
UndosAccepted (x ∷ xs) = UndoAccepted x × UndosAccepted xs

-- What undos, from wherever they began, leave of what was in x before the moves, where z is what the test calls alone leave of x: each
-- undo is accepted, every mask and every cell is as in z, so that the set masks are the first ones and the mask in test is the present
-- one, and the record count and the records below it are as in x.
pub record TakenBack (x z : Journaled) (u : List Exchange × Journaled) : Type 0 where
  pub accepted : UndosAccepted u.0
  pub tables-back : u.1.tables ≡ z.tables
  pub journal-back : SameJournal u.1.journal x.journal
