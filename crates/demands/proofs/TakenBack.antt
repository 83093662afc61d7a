-- The theorem of 2026-03 with the calls of 2026-05 anywhere between: a list of calls without undo, and then as many undos as its calls
-- made moves, with calls that put ports in test or take them out among both. Every undo is accepted, masks and cells are those that the
-- test calls alone would have left, and the journal is as it was. By induction over the calls, over two books: that of all calls, and that
-- of the test calls alone, which differ by the moves made and not taken back. Assumes nothing.
use mathlib.Core.Path.{◌≡◌, refl, sym, ap, ap₂, ◌∙◌, subst}
use mathlib.Core.Logic.{◌⊎◌, inl, inr}
use mathlib.Core.Bool.{Bool, true, false, cond, not, ◌&&◌, beq, true≢false, false≢true}
use mathlib.Core.List.{List, [], ◌∷◌, ◌++◌}
use Prim.Native.Nat.{ℕ, zero, suc, ◌+◌, ◌<◌}
use native.Mathlib.Numerals.{add-one}
use native.Mathlib.Omega.{arith}
use lib.Dec.{eqb, ltb}
use lib.ListN.{length, set, take, drop}
use borrow.Author.Tests.{eq-eqb, ne_eqb, lt-ltb}
use Rattle.logic.specs.declared.Move.{Move}
use Rattle.logic.specs.Formula.{Plan}
use Rattle.logic.specs.Configuration.{Sets, own_masks}
use Rattle.logic.specs.Cells.{own_cells}
use Rattle.logic.specs.Moves.{Ground, refusal, known, legal, move_pairs}
use Rattle.logic.specs.InTest.{test_grounds, test_masks, test_flip}
use Rattle.logic.proofs.Lists.{and_left, and_at}
use Rattle.logic.proofs.Moves.{known-pairs, flips-in-test}
use Rattle.logic.proofs.InTest.{flips-commute, legal-tested}
use Rattle.table_format.specs.Decode.{Decoded, sound, decode}
use Rattle.contracts.specs.State.{State, own_tables, with_rest}
use Rattle.contracts.specs.Journal.{Journaled, full, room_of, newest, appended, removed, opposite, count_after}
use Rattle.contracts.specs.Call.{call_or, call}
use Rattle.contracts.specs.Load.{loads}
use Rattle.contracts.specs.MoveCall.{MoveValues, move_refused, move_made, moves_journaled}
use Rattle.contracts.specs.ImproveCall.{ImproveValues, improve_refused, no_better, first_lowers, improve_makes}
use Rattle.contracts.specs.UndoCall.{taken_grounds, undoes_journaled}
use Rattle.contracts.specs.TestCall.{tested_tables, tests_own, tests, tests_journaled}
use Rattle.contracts.specs.Book.{Book, first_book, book_made, moved_book, undone_book, tested_book, chosen_step, book_grounds, book_taken, book_step, fed_test}
use Rattle.contracts.specs.Lists.{Asked, ask_move, ask_trial, ask_improve, ask_best, ask_undo, ask_test, Exchange, move_call, improve_call, step, run, begun, feed, book_after, book_root, book_best, book_lowers, FirstOf, ChangedRight, MovedRight, ImprovedRight, Right, SameJournal}
use Rattle.contracts.proofs.Journals.{same-itself, same_back, same_then, same-newest, same-appended, same-removed, back-newest, back-removed, not_full}
use Rattle.contracts.proofs.Opposites.{opposite-legal, opposite-back}
use Rattle.contracts.proofs.Steps.{StateHolds, after-scratch, made-free, chosen-free, step_right}
use Rattle.contracts.proofs.Lists.{load-decodes, load-holds, run-right, run-append}
use Rattle.contracts.proofs.Spelling.{kept_same}
use Rattle.call_one.specs.Scratch.{answer_number}
use Rattle.demands.specs.TakenBack.{made_one, made_moves, is_undo, is_test, OtherThanUndo, NoUndo, UndosAndTests, undo_count, test_calls, UndoAccepted, UndosAccepted, TakenBack}

-- A move and a port that goes into test or out of it: it is the same which comes first, and the move leaves the ports in test as they are.
made-tested : (P : Plan) (p : ℕ) (m : Move) (k : Sets) → book_made P m (test_flip P p k) ≡ test_flip P p (book_made P m k)
unfolding book_made move_pairs test_flip
made-tested P p m k = flips-commute (move_pairs P k m) (P.sets, p) k

made-in-test : (P : Plan) (m : Move) (k : Sets) → known P m ≡ true → book_made P m k P.sets ≡ k P.sets
unfolding book_made
made-in-test P m k h = flips-in-test P (move_pairs P k m) k (known-pairs P k m h)

-- Two books that say the same: the sets, and the journal below its count.
record SameBook (b b' : Book) : Type 0 where
  sets_same : b.sets ≡ b'.sets
  journal-same : SameJournal b.journal b'.journal

same-book : (b : Book) → SameBook b b
same-book b = record { sets_same = refl; journal-same = same-itself b.journal }

-- A move that a book makes: legal, with room for its record.
record MadeIn (P : Plan) (b : Book) (m : Move) : Type 0 where
  is-legal : legal P b.sets m ≡ true
  has_room : full (room_of b.journal) b.journal.count ≡ false

is_known : (P : Plan) (b : Book) (m : Move) → MadeIn P b m → known P m ≡ true
unfolding legal
is_known P b m h = and_left (known P m) _ h.is-legal

same-made : (P : Plan) (b b' : Book) (m : Move) → SameBook b b' → MadeIn P b m → MadeIn P b' m
same-made P b b' m s h = record {
  is-legal = ap (λ (k : Sets). legal P k m) (sym s.sets_same) ∙ h.is-legal;
  has_room = ap₂ full (sym s.journal-same.same-room) (sym s.journal-same.same_count) ∙ h.has_room;
}

same-moved : (P : Plan) (b b' : Book) (m : Move) → SameBook b b' → MadeIn P b' m → SameBook (moved_book P m b) (moved_book P m b')
unfolding moved_book
same-moved P b b' m s h = record {
  sets_same = ap (book_made P m) s.sets_same;
  journal-same = same-appended m b.journal b'.journal s.journal-same (not_full (room_of b'.journal) b'.journal.count h.has_room).0;
}

same-tested : (P : Plan) (b b' : Book) (p : ℕ) → SameBook b b' → SameBook (tested_book P p b) (tested_book P p b')
unfolding tested_book
same-tested P b b' p s = record { sets_same = ap (test_flip P p) s.sets_same; journal-same = s.journal-same }

-- Of a book that says what another says after such a move, an undo is accepted, and it leaves what the other said before.
module _ (P : Plan) (m : Move) (b b' : Book) (h : MadeIn P b m) (s : SameBook b' (moved_book P m b)) where
  after-sets : b'.sets ≡ book_made P m b.sets
  unfolding moved_book
  after-sets = s.sets_same

  after-journal : SameJournal b'.journal (appended m b.journal)
  unfolding moved_book
  after-journal = s.journal-same

  after-count : b'.journal.count ≡ suc b.journal.count
  unfolding appended
  after-count = after-journal.same_count

  after-newest : newest b'.journal ≡ m
  after-newest =
      same-newest b'.journal (appended m b.journal) after-journal (unfold appended in λ z. omega arith)
      ∙ back-newest m b.journal (not_full (room_of b.journal) b.journal.count h.has_room).0

  undo-free : refusal (book_taken P b') ≡ 0
  unfolding book_taken taken_grounds refusal
  undo-free =
      let o : legal P b'.sets (opposite m) ≡ true = ap (λ (k : Sets). legal P k (opposite m)) after-sets ∙ opposite-legal P m b.sets h.is-legal in
      let k : known P m ≡ true = is_known P b m h in
      rw (after-newest, ne_eqb b'.journal.count 0 (λ z. omega (arith, after-count, z)), k, o)

  undo-same : SameBook (undone_book P b') b
  unfolding undone_book
  undo-same = record {
    sets_same =
        (λ i. book_made P (opposite (after-newest i)) (after-sets i)) ∙ opposite-back P m b.sets;
    journal-same =
        same_then (removed b'.journal) (removed (appended m b.journal)) b.journal
        (same-removed b'.journal (appended m b.journal) after-journal) (back-removed m b.journal);
  }

-- The book after some moves, the newest first,
unfoldable after_moves : Plan → List Move → Book → Book
after_moves P [] b = b
after_moves P (m ∷ ms) b = moved_book P m (after_moves P ms b)

-- each of which is made where the ones before it lead.
unfoldable AllMade : Plan → List Move → Book → Type 0
AllMade P [] b = Unit {0}
AllMade P (m ∷ ms) b = MadeIn P (after_moves P ms b) m × AllMade P ms b

-- A port that goes into test or out of it after these moves, or before them.
tested-made : (P : Plan) (p : ℕ) (b : Book) (m : Move) → MadeIn P b m → MadeIn P (tested_book P p b) m
unfolding tested_book
tested-made P p b m h = record { is-legal = legal-tested P p m b.sets (is_known P b m h) ∙ h.is-legal; has_room = h.has_room }

tested-moved : (P : Plan) (p : ℕ) (m : Move) (b : Book) → tested_book P p (moved_book P m b) ≡ moved_book P m (tested_book P p b)
unfolding tested_book moved_book
tested-moved P p m b = λ i. record { sets = sym (made-tested P p m b.sets) i; journal = appended m b.journal }

tested-after : (P : Plan) (p : ℕ) (ms : List Move) (b : Book) → tested_book P p (after_moves P ms b) ≡ after_moves P ms (tested_book P p b)
unfolding after_moves
tested-after P p [] b = refl
tested-after P p (m ∷ ms) b = tested-moved P p m (after_moves P ms b) ∙ ap (moved_book P m) (tested-after P p ms b)

tested-all : (P : Plan) (p : ℕ) (ms : List Move) (b : Book) → AllMade P ms b → AllMade P ms (tested_book P p b)
unfolding AllMade
tested-all P p [] b h = tt
tested-all P p (m ∷ ms) b h =
    (subst (λ (c : Book). MadeIn P c m) (tested-after P p ms b) (tested-made P p (after_moves P ms b) m h.0), tested-all P p ms b h.1)

after-in-test : (P : Plan) (ms : List Move) (b : Book) → AllMade P ms b → (after_moves P ms b).sets P.sets ≡ b.sets P.sets
unfolding AllMade after_moves moved_book
after-in-test P [] b h = refl
after-in-test P (m ∷ ms) b h =
    made-in-test P m (after_moves P ms b).sets (is_known P (after_moves P ms b) m h.0) ∙ after-in-test P ms b h.1

-- What a book b says is what another, t, says after some moves, the newest first: those made and not taken back.
record Over (P : Plan) (ms : List Move) (t b : Book) : Type 0 where
  all_made : AllMade P ms t
  same : SameBook b (after_moves P ms t)

module _ (P : Plan) (t b : Book) where
  over_none : Over P [] t b → SameBook b t
  unfolding after_moves
  over_none o = o.same

  over-made : (ms : List Move) (m : Move) → Over P ms t b → MadeIn P b m → Over P (m ∷ ms) t (moved_book P m b)
  unfolding AllMade after_moves
  over-made ms m o h =
      let made = same-made P b (after_moves P ms t) m o.same h in
      record { all_made = (made, o.all_made); same = same-moved P b (after_moves P ms t) m o.same made }

  over-free : (ms : List Move) (m : Move) → Over P (m ∷ ms) t b → refusal (book_taken P b) ≡ 0
  unfolding AllMade after_moves
  over-free ms m o = undo-free P m (after_moves P ms t) b o.all_made.0 o.same

  over-undone : (ms : List Move) (m : Move) → Over P (m ∷ ms) t b → Over P ms t (undone_book P b)
  unfolding AllMade after_moves
  over-undone ms m o = record { all_made = o.all_made.1; same = undo-same P m (after_moves P ms t) b o.all_made.0 o.same }

  over-tested : (ms : List Move) (p : ℕ) → Over P ms t b → Over P ms (tested_book P p t) (tested_book P p b)
  over-tested ms p o = record {
    all_made = tested-all P p ms t o.all_made;
    same = subst (SameBook (tested_book P p b)) (tested-after P p ms t) (same-tested P b (after_moves P ms t) p o.same);
  }

  -- the same port is refused by both, on the same ground
  over-grounds : (ms : List Move) (into : Bool) (p : ℕ) → Over P ms t b → test_grounds P b.sets into p ≡ test_grounds P t.sets into p
  unfolding test_grounds
  over-grounds ms into p o =
      ap (λ (s : ℕ → Bool). (14, not (ltb p P.ports)) ∷ (20, beq (s p) into) ∷ [])
      (ap (λ (k : Sets). k P.sets) o.same.sets_same ∙ after-in-test P ms t o.all_made)

  over-either : (ms : List Move) (p : ℕ) → Over P ms t b → (accepted : Bool) → Over P ms (cond accepted (tested_book P p t) t) (cond accepted (tested_book P p b) b)
  over-either ms p o true = over-tested ms p o
  over-either ms p o false = o

  over-test : (ms : List Move) (into : Bool) (p : ℕ) → Over P ms t b → Over P ms (book_step P t (fed_test into p)) (book_step P b (fed_test into p))
  unfolding book_step
  over-test ms into p o =
      subst (λ (gs : List Ground). Over P ms (book_step P t (fed_test into p)) (cond (eqb (refusal gs) 0) (tested_book P p b) b)) (sym (over-grounds ms into p o))
      (over-either ms p o (eqb (refusal (test_grounds P t.sets into p)) 0))

-- A call that is no undo and no test call leaves the book as it is, or makes a move in it; in the second case it counts.
record Stays (P : Plan) (b : Book) (e : Exchange) : Type 0 where
  not_made : made_one e ≡ false
  book-is : book_step P b (feed e) ≡ b

record Makes (P : Plan) (b : Book) (e : Exchange) : Type 0 where
  move : Move
  made : made_one e ≡ true
  in-book : MadeIn P b move
  book-is : book_step P b (feed e) ≡ moved_book P move b

StaysOrMakes : Plan → Book → Exchange → Type 0
StaysOrMakes P b e = Stays P b e ⊎ Makes P b e

module _ (P : Plan) (b : Book) where
  by_move : (m : Move) (r : MoveValues) (g : ℕ) → refusal (book_grounds P b m) ≡ g → MovedRight g P b.sets m r → StaysOrMakes P b (move_call m r)
  unfolding ChangedRight StaysOrMakes
  by_move m r zero e h =
      let f : (legal P b.sets m ≡ true) × (full (room_of b.journal) b.journal.count ≡ false) =
      unfold book_grounds in made-free P b.sets (room_of b.journal) b.journal.count m e in
      inr record {
        move = m;
        made = unfold made_one move_made in eq-eqb r.number 0 h.0;
        in-book = record { is-legal = f.0; has_room = f.1 };
        book-is = unfold book_step feed in rw (e) refl;
      }
  by_move m r (suc g) e h = inl record {
    not_made = unfold made_one move_made in ap move_made h ∙ (unfold move_refused move_made in ne_eqb (suc g) 0 (λ z. omega arith));
    book-is = unfold book_step feed in rw (e, ne_eqb (suc g) 0 (λ z. omega arith)) refl;
  }

  stays-improve : (kinds : ℕ) (scratch : List ℕ) (r : ImproveValues) → improve_makes r ≡ false → StaysOrMakes P b (improve_call kinds scratch r)
  unfolding StaysOrMakes
  stays-improve kinds scratch r e = inl record { not_made = unfold made_one in e; book-is = unfold book_step feed chosen_step in rw (e) refl }

  -- the first of the best lowers the root
  first-lowers : (kinds : ℕ) (m : Move) (ms : List Move) → FirstOf ms m → book_root P (book_made P m b.sets) < book_root P b.sets
      → first_lowers (λ n. book_root P (book_made P n b.sets)) (book_root P b.sets) ms ≡ true
  unfolding FirstOf first_lowers
  first-lowers kinds m [] f l = absurd f
  first-lowers kinds m (n ∷ ms) f l =
      lt-ltb _ _ (subst (λ (x : Move). book_root P (book_made P x b.sets) < book_root P b.sets) f l)

  by-improve : (kinds : ℕ) (scratch : List ℕ) (r : ImproveValues) (g : ℕ)
      → (g ≡ 0 → (book_lowers P b.sets kinds && full (room_of b.journal) b.journal.count) ≡ false)
      → ImprovedRight g P b.sets kinds r → StaysOrMakes P b (improve_call kinds scratch r)
  unfolding ImprovedRight StaysOrMakes
  by-improve kinds scratch r zero room (inl v) = inr record {
    move = r.chosen;
    made = unfold made_one in made;
    in-book = record {
      is-legal = v.candidate.is-legal;
      has_room =
          and_at (book_lowers P b.sets kinds) _ (room refl)
          (unfold book_lowers in first-lowers kinds r.chosen (book_best P b.sets kinds) v.first v.lowers);
    };
    book-is = unfold book_step feed chosen_step in rw (made) refl;
  }
    where
      made : improve_makes r ≡ true
      made = unfold improve_makes in rw v.found refl
  by-improve kinds scratch r zero room (inr v) = stays-improve kinds scratch r (ap improve_makes v.values-right ∙ (unfold improve_makes no_better in refl))
  by-improve kinds scratch r (suc g) room v = stays-improve kinds scratch r (ap improve_makes v ∙ (unfold improve_makes improve_refused in refl))

-- The test calls of two lists, one after the other.
test-append : (cs ds : List Asked) → test_calls (cs ++ ds) ≡ test_calls cs ++ test_calls ds
unfolding test_calls
test-append [] ds = refl
test-append (c ∷ cs) ds = go (is_test c) (test-append cs ds)
  where
    go : (b : Bool) → test_calls (cs ++ ds) ≡ test_calls cs ++ test_calls ds
        → cond b (c ∷ test_calls (cs ++ ds)) (test_calls (cs ++ ds)) ≡ cond b (c ∷ test_calls cs) (test_calls cs) ++ test_calls ds
    go true e = ap (λ (l : List Asked). c ∷ l) e
    go false e = e

-- What the test calls of a list, run alone, leave.
unfoldable tests_alone : Decoded → Journaled → List Asked → Journaled
tests_alone d z cs = (run d z (test_calls cs)).1

alone-first : (d : Decoded) (z : Journaled) (c : Asked) (cs : List Asked) → tests_alone d z (c ∷ cs) ≡ tests_alone d (tests_alone d z (c ∷ [])) cs
unfolding tests_alone test_calls run
alone-first d z c cs = go (is_test c)
  where
    go : (b : Bool) → (run d z (cond b (c ∷ test_calls cs) (test_calls cs))).1 ≡ (run d (run d z (cond b (c ∷ []) [])).1 (test_calls cs)).1
    go true = refl
    go false = refl

alone-append : (d : Decoded) (z : Journaled) (cs ds : List Asked) → tests_alone d z (cs ++ ds) ≡ tests_alone d (tests_alone d z cs) ds
unfolding tests_alone
alone-append d z cs ds =
    ap (λ (l : List Asked). (run d z l).1) (test-append cs ds)
    ∙ ap (λ (r : List Exchange × Journaled). r.1) (run-append d z (test_calls cs) (test_calls ds))

count-moved : (made : Bool) (k n : ℕ) → k + count_after made n ≡ count_after made k + n
unfolding count_after
count-moved true k n = omega arith
count-moved false k n = refl

module _ (bytes : List ℕ) (P : Plan) (d : decode bytes ≡ sound P) (tail-masks tail-cells : List ℕ) where
  abbrev Holds : Book → Journaled → Type 0
  Holds b x = StateHolds P b tail-masks tail-cells x

  -- All calls have led to x and the test calls alone to z, and n moves are made and not taken back.
  record SideBySide (n : ℕ) (x z : Journaled) : Type 0 where
    moves : List Move
    how-many : length moves ≡ n
    book : Book
    book-alone : Book
    holds : Holds book x
    holds-alone : Holds book-alone z
    over : Over P moves book-alone book

  -- a call that is no undo and no test call
  side-other : (n : ℕ) (x z : Journaled) (c : Asked) (s : SideBySide n x z) → (let r = step (sound P) x c in
      StaysOrMakes P s.book r.0 → SideBySide (count_after (made_one r.0) n) r.1 z)
  unfolding StaysOrMakes
  side-other n x z c s (inl v) =
      let r = step (sound P) x c in
      subst (λ (made : Bool). SideBySide (count_after made n) r.1 z) (sym v.not_made)
      (unfold count_after in record {
        moves = s.moves;
        how-many = s.how-many;
        book = s.book;
        book-alone = s.book-alone;
        holds = subst (λ (b : Book). Holds b r.1) v.book-is (step_right bytes P d s.book tail-masks tail-cells x s.holds c).1;
        holds-alone = s.holds-alone;
        over = s.over;
      })
  side-other n x z c s (inr v) =
      let r = step (sound P) x c in
      subst (λ (made : Bool). SideBySide (count_after made n) r.1 z) (sym v.made)
      (unfold count_after in record {
        moves = v.move ∷ s.moves;
        how-many = ap suc s.how-many;
        book = moved_book P v.move s.book;
        book-alone = s.book-alone;
        holds = subst (λ (b : Book). Holds b r.1) v.book-is (step_right bytes P d s.book tail-masks tail-cells x s.holds c).1;
        holds-alone = s.holds-alone;
        over = over-made P s.book-alone s.book s.moves v.move s.over v.in-book;
      })

  -- a test call
  side-test : (n : ℕ) (x z : Journaled) (into : Bool) (p : ℕ) → SideBySide n x z
      → SideBySide n (step (sound P) x (ask_test into p)).1 (step (sound P) z (ask_test into p)).1
  unfolding step feed
  side-test n x z into p s = record {
    moves = s.moves;
    how-many = s.how-many;
    book = book_step P s.book (fed_test into p);
    book-alone = book_step P s.book-alone (fed_test into p);
    holds = (step_right bytes P d s.book tail-masks tail-cells x s.holds (ask_test into p)).1;
    holds-alone = (step_right bytes P d s.book-alone tail-masks tail-cells z s.holds-alone (ask_test into p)).1;
    over = over-test P s.book-alone s.book s.moves into p s.over;
  }

  -- an undo
  side-undo : (n : ℕ) (x z : Journaled) → SideBySide (suc n) x z
      → (let r = step (sound P) x ask_undo in UndoAccepted r.0 × SideBySide n r.1 z)
  unfolding step feed Right book_step ChangedRight UndoAccepted answer_number
  side-undo n x z s = go s.moves s.how-many s.over
    where
      b : Book
      b = s.book

      r : MoveValues × Journaled
      r = undoes_journaled (sound P) x

      go : (ms : List Move) → length ms ≡ suc n → Over P ms s.book-alone b → (r.0.number ≡ 0) × SideBySide n r.1 z
      go [] e o = absurd (omega arith)
      go (m ∷ ms) e o =
          let q = step_right bytes P d b tail-masks tail-cells x s.holds ask_undo in
          let free = over-free P s.book-alone b ms m o in (
            (subst (λ (g : ℕ). MovedRight g P b.sets (opposite (newest b.journal)) r.0) free q.0).0,
            record {
              moves = ms;
              how-many = omega arith;
              book = undone_book P b;
              book-alone = s.book-alone;
              holds = subst (λ (g : ℕ). Holds (cond (eqb g 0) (undone_book P b) b) r.1) free q.1;
              holds-alone = s.holds-alone;
              over = over-undone P s.book-alone b ms m o;
            },
          )

  -- a call that is no undo
  side-step : (c : Asked) → OtherThanUndo c → (n : ℕ) (x z : Journaled) → SideBySide n x z
      → (let r = step (sound P) x c in SideBySide (count_after (made_one r.0) n) r.1 (tests_alone (sound P) z (c ∷ [])))
  unfolding OtherThanUndo is_undo is_test tests_alone test_calls run
  side-step (ask_move m) o n x z s =
      side-other n x z (ask_move m) s
      (unfold step Right in by_move P s.book m _ _ refl (step_right bytes P d s.book tail-masks tail-cells x s.holds (ask_move m)).0)
  side-step (ask_trial m scratch) o n x z s =
      side-other n x z (ask_trial m scratch) s (unfold StaysOrMakes step made_one book_step feed in inl record { not_made = refl; book-is = refl })
  side-step (ask_improve kinds scratch) o n x z s =
      let b = s.book in
      side-other n x z (ask_improve kinds scratch) s
      (unfold step Right in by-improve P b kinds scratch _ _
      (λ e. chosen-free kinds (book_lowers P b.sets kinds) (room_of b.journal) b.journal.count (after-scratch P scratch _ e))
      (step_right bytes P d b tail-masks tail-cells x s.holds (ask_improve kinds scratch)).0)
  side-step (ask_best kinds scratch room) o n x z s =
      side-other n x z (ask_best kinds scratch room) s (unfold StaysOrMakes step made_one book_step feed in inl record { not_made = refl; book-is = refl })
  side-step ask_undo o n x z s = absurd (true≢false o)
  side-step (ask_test into p) o n x z s = unfold step made_one count_after in side-test n x z into p s

  -- a list of calls without undo
  side-calls : (cs : List Asked) → NoUndo cs → (n : ℕ) (x z : Journaled) → SideBySide n x z
      → (let r = run (sound P) x cs in SideBySide (made_moves r.0 + n) r.1 (tests_alone (sound P) z cs))
  unfolding NoUndo run made_moves
  side-calls [] o n x z s =
      let e : n ≡ 0 + n = omega arith in
      subst (λ (k : ℕ). SideBySide k x (tests_alone (sound P) z [])) e (unfold tests_alone test_calls in s)
  side-calls (c ∷ cs) o n x z s =
      let r = step (sound P) x c in
      let rest = run (sound P) r.1 cs in
      let z' = tests_alone (sound P) z (c ∷ []) in
      subst (λ (y : Journaled). SideBySide (count_after (made_one r.0) (made_moves rest.0) + n) rest.1 y) (sym (alone-first (sound P) z c cs))
      (subst (λ (k : ℕ). SideBySide k rest.1 (tests_alone (sound P) z' cs)) (count-moved (made_one r.0) (made_moves rest.0) n)
      (side-calls cs o.1 (count_after (made_one r.0) n) r.1 z' (side-step c o.0 n x z s)))

  -- as many undos as moves are left, with test calls between
  side-undos : (us : List Asked) → UndosAndTests us → (x z : Journaled) → SideBySide (undo_count us) x z
      → (let u = run (sound P) x us in UndosAccepted u.0 × SideBySide 0 u.1 (tests_alone (sound P) z us))
  unfolding UndosAndTests is_undo is_test undo_count count_after run tests_alone test_calls UndosAccepted
  side-undos [] o x z s = (tt, s)
  side-undos (ask_move m ∷ us) o x z s = absurd (false≢true o.0)
  side-undos (ask_trial m scratch ∷ us) o x z s = absurd (false≢true o.0)
  side-undos (ask_improve kinds scratch ∷ us) o x z s = absurd (false≢true o.0)
  side-undos (ask_best kinds scratch room ∷ us) o x z s = absurd (false≢true o.0)
  side-undos (ask_undo ∷ us) o x z s =
      let r = step (sound P) x ask_undo in
      let t = side-undo (undo_count us) x z s in
      let w = side-undos us o.1 r.1 z t.1 in
      ((t.0, w.0), w.1)
  side-undos (ask_test into p ∷ us) o x z s =
      let w = side-undos us o.1 _ _ (side-test (undo_count us) x z into p s) in
      ((unfold step UndoAccepted in tt, w.0), w.1)

-- Test calls leave the journal as it is,
tests-journal : (d : Decoded) (cs : List Asked) (z : Journaled) → (tests_alone d z cs).journal ≡ z.journal
unfolding tests_alone test_calls is_test run
tests-journal d [] z = refl
tests-journal d (ask_move m ∷ cs) z = tests-journal d cs z
tests-journal d (ask_trial m scratch ∷ cs) z = tests-journal d cs z
tests-journal d (ask_improve kinds scratch ∷ cs) z = tests-journal d cs z
tests-journal d (ask_best kinds scratch room ∷ cs) z = tests-journal d cs z
tests-journal d (ask_undo ∷ cs) z = tests-journal d cs z
tests-journal d (ask_test into p ∷ cs) z = tests-journal d cs (step d z (ask_test into p)).1 ∙ (unfold step tests_journaled in refl)

-- and the masks of the sets:
front_kept : (n v : ℕ) (ms : List ℕ) → take n (set (take (suc n) ms) n v ++ drop (suc n) ms) ≡ take n ms
front_kept zero v ms = refl
front_kept (suc n) v [] = refl
front_kept (suc n) v (m ∷ ms) = ap (λ (l : List ℕ). m ∷ l) (front_kept n v ms)

-- one call writes the mask after them, or nothing
one-test-sets : (P : Plan) (into : Bool) (p : ℕ) (s : State) (g : ℕ)
    → take P.sets (call_or move_refused g (sound P) (tests_own into p) s).1.masks ≡ take P.sets s.masks
unfolding call_or tests_own tested_tables test_masks with_rest own_tables own_masks
one-test-sets P into p s zero = rw (add-one P.sets) (front_kept P.sets _ s.masks)
one-test-sets P into p s (suc g) = refl

tests-sets : (P : Plan) (cs : List Asked) (z : Journaled) → take P.sets (tests_alone (sound P) z cs).tables.masks ≡ take P.sets z.tables.masks
unfolding tests_alone test_calls is_test run
tests-sets P [] z = refl
tests-sets P (ask_move m ∷ cs) z = tests-sets P cs z
tests-sets P (ask_trial m scratch ∷ cs) z = tests-sets P cs z
tests-sets P (ask_improve kinds scratch ∷ cs) z = tests-sets P cs z
tests-sets P (ask_best kinds scratch room ∷ cs) z = tests-sets P cs z
tests-sets P (ask_undo ∷ cs) z = tests-sets P cs z
tests-sets P (ask_test into p ∷ cs) z =
    tests-sets P cs (step (sound P) z (ask_test into p)).1 ∙ (unfold step tests_journaled tests call in one-test-sets P into p z.tables _)

-- Over a plan that has a table, from tables and journal that hold what they must.
taken-from : (bytes : List ℕ) (P : Plan) → decode bytes ≡ sound P → (b : Book) (tail-masks tail-cells : List ℕ) (x : Journaled)
    → StateHolds P b tail-masks tail-cells x → (cs us : List Asked) → NoUndo cs → UndosAndTests us → (let r = run (sound P) x cs in
    undo_count us ≡ made_moves r.0 → TakenBack x (run (sound P) x (test_calls (cs ++ us))).1 (run (sound P) r.1 us))
taken-from bytes P d b tail-masks tail-cells x held cs us no-undo undos-tests e = record {
  accepted = back.0;
  tables-back =
      kept_same P end.book end.book-alone tail-masks tail-cells y (tests_alone (sound P) z us) end.holds.kept end.holds-alone.kept same.sets_same
      ∙ ap (λ (j : Journaled). j.tables) alone;
  journal-back =
      same_then y.journal end.book.journal x.journal end.holds.kept.journal-is
      (same_then end.book.journal end.book-alone.journal x.journal same.journal-same
      (subst (SameJournal end.book-alone.journal) (tests-journal (sound P) us z ∙ tests-journal (sound P) cs x)
      (same_back _ end.book-alone.journal end.holds-alone.kept.journal-is)));
}
  where
    r : List Exchange × Journaled
    r = run (sound P) x cs

    z : Journaled
    z = tests_alone (sound P) x cs

    begin : SideBySide bytes P d tail-masks tail-cells 0 x x
    begin = record {
      moves = [];
      how-many = refl;
      book = b;
      book-alone = b;
      holds = held;
      holds-alone = held;
      over = record { all_made = unfold AllMade in tt; same = unfold after_moves in same-book b };
    }

    made : SideBySide bytes P d tail-masks tail-cells (undo_count us) r.1 z
    made =
        let n : made_moves r.0 + 0 ≡ undo_count us = omega arith in
        subst (λ (k : ℕ). SideBySide bytes P d tail-masks tail-cells k r.1 z) n
        (side-calls bytes P d tail-masks tail-cells cs no-undo 0 x x begin)

    back : UndosAccepted (run (sound P) r.1 us).0 × SideBySide bytes P d tail-masks tail-cells 0 (run (sound P) r.1 us).1 (tests_alone (sound P) z us)
    back = side-undos bytes P d tail-masks tail-cells us undos-tests r.1 z made

    y : Journaled
    y = (run (sound P) r.1 us).1

    end : SideBySide bytes P d tail-masks tail-cells 0 y (tests_alone (sound P) z us)
    end = back.1

    none : (ms : List Move) → length ms ≡ 0 → Over P ms end.book-alone end.book → SameBook end.book end.book-alone
    none [] l o = over_none P end.book-alone end.book o
    none (m ∷ ms) l o = absurd (omega arith)

    same : SameBook end.book end.book-alone
    same = none end.moves end.how-many end.over

    alone : tests_alone (sound P) z us ≡ (run (sound P) x (test_calls (cs ++ us))).1
    alone = sym (alone-append (sound P) x cs us) ∙ (unfold tests_alone in refl)

-- From any tables and journal that a list of calls leaves after an accepted load: a list without undo, and then as many undos as its
-- calls made moves, improve's too, with test calls anywhere in the first list and between the undos. Each undo is accepted, every mask
-- and every cell is as the test calls alone would have left it, and the journal is as it was.
pub taken_back : (bytes : List ℕ) (before : State) → (loads (decode bytes) before).0.number ≡ 0
    → (records : List Move) (first cs us : List Asked) → NoUndo cs → UndosAndTests us
    → (let x = (run (decode bytes) (begun (loads (decode bytes) before).1 records) first).1 in
    let r = run (decode bytes) x cs in
    undo_count us ≡ made_moves r.0 → TakenBack x (run (decode bytes) x (test_calls (cs ++ us))).1 (run (decode bytes) r.1 us))
taken_back bytes before h records first cs us no-undo undos-tests =
    subst (λ (e : Decoded). (let x = (run e (begun (loads e before).1 records) first).1 in
    let r = run e x cs in
    undo_count us ≡ made_moves r.0 → TakenBack x (run e x (test_calls (cs ++ us))).1 (run e r.1 us))) (sym d)
    (taken-from bytes P d b tail-masks tail-cells x held cs us no-undo undos-tests)
  where
    P : Plan
    P = (load-decodes bytes before h).0

    d : decode bytes ≡ sound P
    d = (load-decodes bytes before h).1

    tail-masks : List ℕ
    tail-masks = drop (own_masks P) before.masks

    tail-cells : List ℕ
    tail-cells = drop (own_cells P) before.cells

    begin : Journaled
    begin = begun (loads (sound P) before).1 records

    x : Journaled
    x = (run (sound P) begin first).1

    b : Book
    b = book_after P (first_book P begin) (run (sound P) begin first).0

    held : StateHolds P b tail-masks tail-cells x
    held =
        (run-right bytes P d (first_book P begin) tail-masks tail-cells begin first
        (load-holds P before (sym (ap (λ (e : Decoded). (loads e before).0.number) d) ∙ h) records)).1

-- Of the plan's n sets every mask is as it was.
pub sets-back : (bytes : List ℕ) (before : State) → (loads (decode bytes) before).0.number ≡ 0 → (P : Plan) → decode bytes ≡ sound P
    → (records : List Move) (first cs us : List Asked) → NoUndo cs → UndosAndTests us
    → (let x = (run (decode bytes) (begun (loads (decode bytes) before).1 records) first).1 in
    let r = run (decode bytes) x cs in
    undo_count us ≡ made_moves r.0 → take P.sets (run (decode bytes) r.1 us).1.tables.masks ≡ take P.sets x.tables.masks)
sets-back bytes before h P d records first cs us no-undo undos-tests e =
    let x = (run (decode bytes) (begun (loads (decode bytes) before).1 records) first).1 in
    ap (λ (s : State). take P.sets s.masks) (taken_back bytes before h records first cs us no-undo undos-tests e).tables-back
    ∙ subst (λ (c : Decoded). take P.sets (run c x (test_calls (cs ++ us))).1.tables.masks ≡ take P.sets x.tables.masks) (sym d)
    (unfold tests_alone in tests-sets P (cs ++ us) x)

-- The same as one list: the calls, and then the undos.
pub taken-back-list : (bytes : List ℕ) (before : State) → (loads (decode bytes) before).0.number ≡ 0
    → (records : List Move) (first cs us : List Asked) → NoUndo cs → UndosAndTests us
    → (let x = (run (decode bytes) (begun (loads (decode bytes) before).1 records) first).1 in
    let y = (run (decode bytes) x (cs ++ us)).1 in
    let z = (run (decode bytes) x (test_calls (cs ++ us))).1 in
    undo_count us ≡ made_moves (run (decode bytes) x cs).0 → (y.tables ≡ z.tables) × SameJournal y.journal x.journal)
taken-back-list bytes before h records first cs us no-undo undos-tests e =
    let x = (run (decode bytes) (begun (loads (decode bytes) before).1 records) first).1 in
    let z = (run (decode bytes) x (test_calls (cs ++ us))).1 in
    let t = taken_back bytes before h records first cs us no-undo undos-tests e in
    subst (λ (y : List Exchange × Journaled). (y.1.tables ≡ z.tables) × SameJournal y.1.journal x.journal)
    (sym (run-append (decode bytes) x cs us)) (t.tables-back, t.journal-back)

-- An accepted move, and then an undo: the undo is accepted, and masks, cells and record count are as they were.
pub move-undone : (bytes : List ℕ) (before : State) → (loads (decode bytes) before).0.number ≡ 0
    → (records : List Move) (first : List Asked) (m : Move) → (let x = (run (decode bytes) (begun (loads (decode bytes) before).1 records) first).1 in
    let r = moves_journaled (decode bytes) m x in
    let u = undoes_journaled (decode bytes) r.1 in
    r.0.number ≡ 0 → (u.0.number ≡ 0) × (u.1.tables ≡ x.tables) × (u.1.journal.count ≡ x.journal.count))
unfolding run step made_moves made_one move_made is_undo is_test NoUndo OtherThanUndo UndosAndTests undo_count test_calls UndosAccepted UndoAccepted answer_number
move-undone bytes before h records first m a =
    let x = (run (decode bytes) (begun (loads (decode bytes) before).1 records) first).1 in
    let r = moves_journaled (decode bytes) m x in
    let t = taken_back bytes before h records first (ask_move m ∷ []) (ask_undo ∷ []) (refl, tt) (refl, tt)
    (sym (ap (λ (made : Bool). count_after made 0) (eq-eqb r.0.number 0 a))) in
    (t.accepted.0, t.tables-back, t.journal-back.same_count)

-- An accepted move, then a port put in test or taken out, or refused, and then an undo: the undo is accepted, masks and cells are those
-- after the test call alone, and the record count is as it was.
pub move-tested-undone : (bytes : List ℕ) (before : State) → (loads (decode bytes) before).0.number ≡ 0
    → (records : List Move) (first : List Asked) (m : Move) (into : Bool) (p : ℕ)
    → (let x = (run (decode bytes) (begun (loads (decode bytes) before).1 records) first).1 in
    let r = moves_journaled (decode bytes) m x in
    let t = tests_journaled (decode bytes) into p r.1 in
    let u = undoes_journaled (decode bytes) t.1 in
    r.0.number ≡ 0
    → (u.0.number ≡ 0) × (u.1.tables ≡ (tests_journaled (decode bytes) into p x).1.tables) × (u.1.journal.count ≡ x.journal.count))
unfolding run step made_moves made_one count_after move_made is_undo is_test NoUndo OtherThanUndo UndosAndTests undo_count test_calls UndosAccepted UndoAccepted answer_number
move-tested-undone bytes before h records first m into p a =
    let x = (run (decode bytes) (begun (loads (decode bytes) before).1 records) first).1 in
    let r = moves_journaled (decode bytes) m x in
    let t = taken_back bytes before h records first (ask_move m ∷ []) (ask_test into p ∷ ask_undo ∷ []) (refl, tt) (refl, (refl, tt))
    (sym (ap (λ (made : Bool). count_after made 0) (eq-eqb r.0.number 0 a))) in
    (t.accepted.1.0, t.tables-back, t.journal-back.same_count)
