-- The book: "says what the masks must be. It knows the plan and is fed each call's kind and arguments, but no masks or cells, and
-- improve's answers too, since improve chooses." (paper 01, section Lists of calls)
use Rattle.std.specs.Prelude.{Bool, cond, List, ℕ, eqb, replicate, take}
use Rattle.logic.specs.declared.Move.{Move}
use Rattle.logic.specs.Formula.{Plan}
use Rattle.logic.specs.Configuration.{Sets, in_masks, own_masks}
use Rattle.logic.specs.Moves.{Ground, no_move, refusal, move_pairs, flips}
use Rattle.logic.specs.InTest.{test_grounds, test_flip}
use Rattle.contracts.specs.Journal.{Journal, Journaled, room_of, newest, appended, removed, opposite}
use Rattle.contracts.specs.MoveCall.{made_grounds}
use Rattle.contracts.specs.ImproveCall.{ImproveValues, improve_makes}
use Rattle.contracts.specs.UndoCall.{taken_grounds}

-- "Its state is the n sets, at first the masks after the load", "the book holding this mask too" (paper 02, request 2026-05): the ports
-- in test are number n of `sets`. "The book keeps a journal of its own, of the same length, by the same rules." (paper 02, request
-- 2026-03)
pub record Book : Type 0 where
  pub sets : Sets
  pub journal : Journal

-- "Lists of calls now begin with an empty journal": one of some length.
unfoldable pub empty_journal : ℕ → Journal
empty_journal room = record { records = replicate room no_move; count = 0 }

-- The book at first: "the masks after the load", those of the plan's own, and an empty journal as long as the lent one.
unfoldable pub first_book : Plan → Journaled → Book
first_book P x = record { sets = in_masks (take (own_masks P) x.tables.masks); journal = empty_journal (room_of x.journal) }

-- What the book is fed of a call.
pub data Fed : Type 0 where
  fed_move : Move → Fed
  fed_trial : Move → Fed
  fed_improve : ℕ → ImproveValues → Fed
  fed_best : ℕ → Fed
  fed_undo : Fed
  fed_test : Bool → ℕ → Fed

-- "in each pair (set, port) that the move changes the port enters the set if it was out, and leaves it if it was in"
unfoldable pub book_made : Plan → Move → Sets → Sets
book_made P m k = flips (move_pairs P k m) k

-- The book with a move's pairs changed, and the move in its journal.
unfoldable pub moved_book : Plan → Move → Book → Book
moved_book P m b = record { sets = book_made P m b.sets; journal = appended m b.journal }

-- The book with the pairs of the newest record's opposite changed, and that record out of its journal.
unfoldable pub undone_book : Plan → Book → Book
undone_book P b = record { sets = book_made P (opposite (newest b.journal)) b.sets; journal = removed b.journal }

-- The book with a port in test that was not, or not in test that was. "Undo doesn't take them back": the journal stays.
unfoldable pub tested_book : Plan → ℕ → Book → Book
tested_book P p b = record { sets = test_flip P p b.sets; journal = b.journal }

-- "If improve answers a move, that move's pairs change likewise. Any other answer of improve changes nothing."
unfoldable pub chosen_step : Plan → Book → ImproveValues → Book
chosen_step P b answer = cond (improve_makes answer) (moved_book P answer.chosen b) b

-- The grounds of a move that look at the move, at the sets and at the journal; the others are of the tables, which the load accepted.
unfoldable pub book_grounds : Plan → Book → Move → List Ground
book_grounds P b m = made_grounds P b.sets (room_of b.journal) b.journal.count m

-- The same of an undo.
unfoldable pub book_taken : Plan → Book → List Ground
book_taken P b = taken_grounds P b.sets b.journal.count (newest b.journal)

-- "A move that meets a ground for refusal, the book's sets taken as the masks, changes nothing. For any other add, drop, transfer or
-- swap" its pairs change. "Trial changes nothing.", nor does listing the best moves. Undo takes the newest record back. A port goes into
-- test or out of it unless a ground applies.
unfoldable pub book_step : Plan → Book → Fed → Book
book_step P b (fed_move m) = cond (eqb (refusal (book_grounds P b m)) 0) (moved_book P m b) b
book_step P b (fed_trial m) = b
book_step P b (fed_improve kinds answer) = chosen_step P b answer
book_step P b (fed_best kinds) = b
book_step P b fed_undo = cond (eqb (refusal (book_taken P b)) 0) (undone_book P b) b
book_step P b (fed_test into p) = cond (eqb (refusal (test_grounds P b.sets into p)) 0) (tested_book P p b) b
