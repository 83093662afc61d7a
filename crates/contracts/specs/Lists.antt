-- Lists of calls, and demand 3 as one claim over every list. Paper 01, section Lists of calls; paper 02, request 2026-03: "Lists of calls
-- now begin with an empty journal, passed on as the tables are, and include undo"; request 2026-05: "these two calls join the lists".
use Rattle.std.specs.Prelude.{◌≡◌, ◌⊎◌, Bool, not, List, [], ◌∷◌, ◌++◌, ℕ, zero, suc, ◌≤◌, ◌<◌, ltb, length, take, drop}
use Rattle.logic.specs.declared.Move.{Move}
use Rattle.logic.specs.Formula.{Plan}
use Rattle.logic.specs.Configuration.{Sets, configuration, in_masks, own_masks}
use Rattle.logic.specs.Cells.{own_cells, cells as planCells, root_penalty}
use Rattle.logic.specs.Moves.{Ground, refusal, move_grounds, move_pairs, kinds_known}
use Rattle.logic.specs.Change.{Change, pairs_change, differing, touched_count}
use Rattle.logic.specs.InTest.{test_grounds, test_flip, test_change}
use Rattle.table_format.specs.Decode.{Decoded}
use Rattle.contracts.specs.State.{State}
use Rattle.contracts.specs.Journal.{Journal, Journaled, room_of, newest, opposite}
use Rattle.contracts.specs.MoveCall.{MoveValues, move_refused, moves_journaled}
use Rattle.contracts.specs.TrialCall.{trials}
use Rattle.contracts.specs.MoveOrder.{candidates, Candidate, best_of}
use Rattle.contracts.specs.ImproveCall.{ImproveValues, improve_refused, no_better, first_lowers, chosen_grounds, improves_journaled}
use Rattle.contracts.specs.UndoCall.{undoes_journaled}
use Rattle.contracts.specs.TestCall.{tests_journaled}
use Rattle.contracts.specs.Counting.{count_accepted}
use Rattle.contracts.specs.BestCall.{Listing, list_refused, lists}
use Rattle.contracts.specs.Least.{NoneBelow}
use Rattle.contracts.specs.Book.{Book, Fed, fed_move, fed_trial, fed_improve, fed_best, fed_undo, fed_test, book_made, book_grounds, book_taken, book_step}

-- A call of a list: its kind, its arguments, the scratch that it is lent, and how many records its list has. "Scratch may be another
-- table at every call, hold anything or be too short."
pub data Asked : Type 0 where
  ask_move : Move → Asked
  ask_trial : Move → List ℕ → Asked
  ask_improve : ℕ → List ℕ → Asked
  ask_best : ℕ → List ℕ → ℕ → Asked
  ask_undo : Asked
  ask_test : Bool → ℕ → Asked

-- A call with what it answered.
pub data Exchange : Type 0 where
  move_call : Move → MoveValues → Exchange
  trial_call : Move → List ℕ → MoveValues → Exchange
  improve_call : ℕ → List ℕ → ImproveValues → Exchange
  best_call : ℕ → List ℕ → ℕ → Listing → Exchange
  undo_call : MoveValues → Exchange
  test_call : Bool → ℕ → MoveValues → Exchange

-- One call over a plan table, the tables and the journal as the last call left them, by the very definitions that the calls' contracts
-- cite: what it answers, and the tables and the journal afterwards.
unfoldable pub step : Decoded → Journaled → Asked → Exchange × Journaled
step d x (ask_move m) =
    let r = moves_journaled d m x in
    (move_call m r.0, r.1)
step d x (ask_trial m scratch) = (trial_call m scratch (trials d m x.tables (length scratch)), x)
step d x (ask_improve kinds scratch) =
    let r = improves_journaled d kinds x (length scratch) in
    (improve_call kinds scratch r.0, r.1)
step d x (ask_best kinds scratch room) = (best_call kinds scratch room (lists d kinds x.tables (length scratch) room), x)
step d x ask_undo =
    let r = undoes_journaled d x in
    (undo_call r.0, r.1)
step d x (ask_test into p) =
    let r = tests_journaled d into p x in
    (test_call into p r.0, r.1)

-- Call after call: every list of calls has one list of answers, and leaves one pair of tables and one journal.
unfoldable pub run : Decoded → Journaled → List Asked → List Exchange × Journaled
run d x [] = ([], x)
run d x (c ∷ cs) =
    let r = step d x c in
    let rest = run d r.1 cs in
    (r.0 ∷ rest.0, rest.1)

-- "Lists of calls now begin with an empty journal": tables with lent records of which none is a move that was made.
unfoldable pub begun : State → List Move → Journaled
begun s records = record { tables = s; journal = record { records = records; count = 0 } }

-- What the book is fed of a call and its answer: improve's answer alone.
unfoldable pub feed : Exchange → Fed
feed (move_call m r) = fed_move m
feed (trial_call m scratch r) = fed_trial m
feed (improve_call kinds scratch r) = fed_improve kinds r
feed (best_call kinds scratch room r) = fed_best kinds
feed (undo_call r) = fed_undo
feed (test_call into p r) = fed_test into p

-- The book after a list.
unfoldable pub book_after : Plan → Book → List Exchange → Book
book_after P b [] = b
book_after P b (x ∷ xs) = book_after P (book_step P b (feed x)) xs

-- "Its roots are the root's penalties under the book's sets", and its cells the penalties of Definition 5.
unfoldable pub book_root : Plan → Sets → ℕ
book_root P k = root_penalty P (configuration P k)

-- The penalties of all cells under the book's sets.
unfoldable pub book_cells : Plan → Sets → List ℕ
book_cells P k = planCells P (configuration P k)

-- The three numbers of an accepted call, from the sets k to the sets k' by a change: the roots' penalties before and "after the move as
-- if it were made"; "A cell has changed if its own penalties under these two configurations differ"; and no more cells change than the
-- change touches.
pub record NumbersRight (P : Plan) (k k' : Sets) (ch : Change) (before after changed : ℕ) : Type 0 where
  pub before-right : before ≡ book_root P k
  pub after-right : after ≡ book_root P k'
  pub changed-right : changed ≡ differing (book_cells P k) (book_cells P k')
  pub changed-touched : changed ≤ touched_count P ch

-- A call that meets a ground answers its number; any other is accepted with right numbers.
unfoldable pub ChangedRight : ℕ → Plan → Sets → Sets → Change → MoveValues → Type 0
ChangedRight zero P k k' ch v = (v.number ≡ 0) × NumbersRight P k k' ch v.before v.after v.changed
ChangedRight (suc g) P k k' ch v = v ≡ move_refused (suc g)

-- Of a move or a trial.
abbrev pub MovedRight : ℕ → Plan → Sets → Move → MoveValues → Type 0
MovedRight g P k m v = ChangedRight g P k (book_made P m k) (pairs_change (move_pairs P k m)) v

-- Of a port that goes into test or out of it.
abbrev pub TestedRight : ℕ → Plan → Sets → ℕ → MoveValues → Type 0
TestedRight g P k p v = ChangedRight g P k (test_flip P p k) (test_change P k p) v

-- 12 for scratch that is too short.
unfoldable pub scratch_ground : Plan → List ℕ → Ground
scratch_ground P scratch = (12, ltb (length scratch) (own_cells P))

-- The legal moves of the kinds that leave the least root by Definition 5 under the book's sets, in the order of moves.
unfoldable pub book_best : Plan → Sets → ℕ → List Move
book_best P k kinds = best_of (λ m. book_root P (book_made P m k)) (candidates P kinds k)

-- Whether a legal move of the kinds lowers the root by Definition 5 under the book's sets.
unfoldable pub book_lowers : Plan → Sets → ℕ → Bool
book_lowers P k kinds = first_lowers (λ m. book_root P (book_made P m k)) (book_root P k) (book_best P k kinds)

-- A list's first move.
unfoldable pub FirstOf : List Move → Move → Type 0
FirstOf [] m = ⊥
FirstOf (n ∷ ms) m = m ≡ n

-- "'No better move' exactly when no legal move of the kinds lowers the root", with the root's penalty; else a legal move of the
-- kinds that lowers it, no other legal move of the kinds leaves a smaller root, and it is "the first of the best".
pub record BestMade (P : Plan) (k : Sets) (kinds : ℕ) (v : ImproveValues) : Type 0 where
  pub accepted : v.number ≡ 0
  pub found : v.found ≡ 1
  pub candidate : Candidate P kinds k v.chosen
  pub lowers : book_root P (book_made P v.chosen k) < book_root P k
  pub least : NoneBelow (Candidate P kinds k) (λ x. book_root P (book_made P x k)) (book_root P (book_made P v.chosen k))
  pub first : FirstOf (book_best P k kinds) v.chosen
  pub numbers : NumbersRight P k (book_made P v.chosen k) (pairs_change (move_pairs P k v.chosen)) v.before v.after v.changed

-- No legal move of the kinds lowers the root.
pub record NoneLowers (P : Plan) (k : Sets) (kinds : ℕ) (v : ImproveValues) : Type 0 where
  pub none : NoneBelow (Candidate P kinds k) (λ x. book_root P (book_made P x k)) (book_root P k)
  pub values-right : v ≡ no_better (book_root P k)

-- An improve that meets a ground answers its number; any other is one of the two.
unfoldable pub ImprovedRight : ℕ → Plan → Sets → ℕ → ImproveValues → Type 0
ImprovedRight zero P k kinds v = BestMade P k kinds v ⊎ NoneLowers P k kinds v
ImprovedRight (suc g) P k kinds v = v ≡ improve_refused (suc g)

-- The best moves are listed, with how many there are; or the first ground's number, and none.
unfoldable pub ListedRight : ℕ → Plan → Sets → ℕ → Listing → Type 0
ListedRight zero P k kinds r = r ≡ (count_accepted (length (book_best P k kinds)), book_best P k kinds)
ListedRight (suc g) P k kinds r = r ≡ list_refused (suc g)

-- An answer is right under the book before its call.
unfoldable pub Right : Plan → Book → Exchange → Type 0
Right P b (move_call m r) = MovedRight (refusal (book_grounds P b m)) P b.sets m r
Right P b (trial_call m scratch r) = MovedRight (refusal (scratch_ground P scratch ∷ move_grounds P b.sets m)) P b.sets m r
Right P b (improve_call kinds scratch r) =
    ImprovedRight (refusal (scratch_ground P scratch ∷ chosen_grounds kinds (book_lowers P b.sets kinds) (room_of b.journal) b.journal.count)) P b.sets kinds r
Right P b (best_call kinds scratch room r) =
    ListedRight (refusal (scratch_ground P scratch ∷ (14, not (kinds_known kinds)) ∷ (16, ltb room (length (book_best P b.sets kinds))) ∷ [])) P b.sets kinds r
Right P b (undo_call r) = MovedRight (refusal (book_taken P b)) P b.sets (opposite (newest b.journal)) r
Right P b (test_call into p r) = TestedRight (refusal (test_grounds P b.sets into p)) P b.sets p r

-- Each answer of a list is right under the book before its call.
unfoldable pub AllRight : Plan → Book → List Exchange → Type 0
AllRight P b [] = Unit {0}
AllRight P b (x ∷ xs) = Right P b x × AllRight P (book_step P b (feed x)) xs

-- The lent journal is the book's: its length, the record count, and the records below it.
pub record SameJournal (j book : Journal) : Type 0 where
  pub same-room : room_of j ≡ room_of book
  pub same_count : j.count ≡ book.count
  pub same-records : take j.count j.records ≡ take book.count book.records

-- "The masks of demand 3 are the book's sets", the tail as it was; every cell is the penalty under them, the tail as it was; the journal
-- is the book's.
pub record AsBook (P : Plan) (b : Book) (tail-masks tail-cells : List ℕ) (x : Journaled) : Type 0 where
  pub enough-masks : own_masks P ≤ length x.tables.masks
  pub masks-are : in_masks (take (own_masks P) x.tables.masks) ≡ b.sets
  pub masks-tail : drop (own_masks P) x.tables.masks ≡ tail-masks
  pub cells_are : x.tables.cells ≡ book_cells P b.sets ++ tail-cells
  pub journal-is : SameJournal x.journal b.journal
