-- Laws of the journal: a record more and a record less keep the lent journal the book's, and the record count is past neither the
-- journal's length nor 1,024. Assumes nothing.
use mathlib.Core.Path.{◌≡◌, refl, sym, ap, ap₂, ◌∙◌}
use mathlib.Core.Logic.{◌≢◌}
use mathlib.Core.Bool.{Bool, true, false}
use mathlib.Core.List.{List, [], ◌∷◌, ◌++◌}
use Prim.Native.Nat.{ℕ, suc, ◌-◌, ◌≤◌, ◌<◌}
use native.Mathlib.Omega.{arith}
use lib.Dec.{leb}
use lib.ListN.{length, get_or, set, take, length-set, length-replicate}
use lib.Seq.{get_or-take, take-take, take-suc-set, get_or-set_same, take-set-le}
use borrow.Author.Tests.{leb-false, le-ltb}
use Rattle.logic.specs.declared.Move.{Move}
use Rattle.logic.specs.Moves.{no_move}
use Rattle.logic.proofs.Lists.{or_left, or_right, or-false}
use Rattle.contracts.specs.Journal.{Journal, most_records, count_past, full, room_of, newest, appended, removed, count_after, journal_after, count_taken, journal_taken}
use Rattle.contracts.specs.Book.{empty_journal}
use Rattle.contracts.specs.Lists.{SameJournal}

-- What stands before and after each call of a list: the lent journal is the book's, whose count is past neither its length nor 1,024.
pub record JournalHolds (book j : Journal) : Type 0 where
  pub same : SameJournal j book
  pub in-room : book.count ≤ room_of book
  pub few : book.count ≤ most_records

pub same-itself : (j : Journal) → SameJournal j j
same-itself j = record { same-room = refl; same_count = refl; same-records = refl }

pub same_back : (i j : Journal) → SameJournal i j → SameJournal j i
same_back i j s = record { same-room = sym s.same-room; same_count = sym s.same_count; same-records = sym s.same-records }

pub same_then : (i j l : Journal) → SameJournal i j → SameJournal j l → SameJournal i l
same_then i j l s t = record {
  same-room = s.same-room ∙ t.same-room;
  same_count = s.same_count ∙ t.same_count;
  same-records = s.same-records ∙ t.same-records;
}

-- "Lists of calls now begin with an empty journal", whatever the lent records are.
pub empty_holds : (records : List Move) → JournalHolds (empty_journal (length records)) (record { records = records; count = 0 })
unfolding empty_journal room_of
empty_holds records = record {
  same = record { same-room = sym (length-replicate (length records) no_move); same_count = refl; same-records = refl };
  in-room = omega arith;
  few = omega arith;
}

-- 12 of the count never applies in a list.
pub never-past : (book j : Journal) → JournalHolds book j → count_past (room_of j) j.count ≡ false
unfolding count_past
never-past book j h =
    rw (h.same.same-room, h.same.same_count)
    (or-false _ _ (le-ltb (room_of book) book.count h.in-room) (le-ltb most_records book.count h.few))

-- the newest record of a journal that is not empty is among those below the count
newest-below : (j : Journal) → j.count ≢ 0 → newest j ≡ get_or (take j.count j.records) (j.count - 1) no_move
unfolding newest
newest-below j n = sym (get_or-take j.count j.records (j.count - 1) no_move (omega arith))

pub same-newest : (j book : Journal) → SameJournal j book → book.count ≢ 0 → newest j ≡ newest book
same-newest j book s n =
    newest-below j (λ z. n (sym s.same_count ∙ z))
    ∙ ap₂ (λ (l : List Move) (c : ℕ). get_or l (c - 1) no_move) s.same-records s.same_count
    ∙ sym (newest-below book n)

-- A record more, where there is room for it,
pub same-appended : (m : Move) (j book : Journal) → SameJournal j book → book.count < room_of book → SameJournal (appended m j) (appended m book)
unfolding appended room_of
same-appended m j book s h = record {
  same-room = length-set {A = Move} j.records j.count m ∙ s.same-room ∙ sym (length-set {A = Move} book.records book.count m);
  same_count = ap suc s.same_count;
  same-records =
      take-suc-set j.records j.count m (omega (arith, s.same-room, s.same_count))
      ∙ ap (λ (l : List Move). l ++ (m ∷ [])) s.same-records
      ∙ sym (take-suc-set book.records book.count m h);
}

-- and a record less.
pub same-removed : (j book : Journal) → SameJournal j book → SameJournal (removed j) (removed book)
unfolding removed room_of
same-removed j book s = record {
  same-room = s.same-room;
  same_count = ap (λ (c : ℕ). c - 1) s.same_count;
  same-records =
      sym (take-take (j.count - 1) j.count j.records (omega arith))
      ∙ ap₂ (λ (l : List Move) (c : ℕ). take (c - 1) l) s.same-records s.same_count
      ∙ take-take (book.count - 1) book.count book.records (omega arith);
}

one_less : (n : ℕ) → suc n - 1 ≡ n
one_less n = omega arith

-- A record more and then one less: the journal as it was, but for a record past the count.
pub back-newest : (m : Move) (j : Journal) → j.count < room_of j → newest (appended m j) ≡ m
unfolding newest appended room_of
back-newest m j h = ap (λ (i : ℕ). get_or (set j.records j.count m) i no_move) (one_less j.count) ∙ get_or-set_same j.records j.count m no_move h

pub back-removed : (m : Move) (j : Journal) → SameJournal (removed (appended m j)) j
unfolding appended removed room_of
back-removed m j = record {
  same-room = length-set {A = Move} j.records j.count m;
  same_count = one_less j.count;
  same-records =
      ap (λ (c : ℕ). take c (set j.records j.count m)) (one_less j.count) ∙ take-set-le j.count j.records j.count m (omega arith);
}

-- The record count that a call promises is its journal's: a record more where a move was made, and one less where it was taken back.
pub after-count : (made : Bool) (m : Move) (j : Journal) → (journal_after made m j).count ≡ count_after made j.count
unfolding journal_after count_after appended
after-count true m j = refl
after-count false m j = refl

pub taken-count : (made : Bool) (j : Journal) → (journal_taken made j).count ≡ count_taken made j.count
unfolding journal_taken removed count_taken
taken-count true j = refl
taken-count false j = refl

-- 18 does not apply: there is room for a record.
pub not_full : (room count : ℕ) → full room count ≡ false → (count < room) × (count < most_records)
unfolding full
not_full room count e =
    (leb-false room count (or_left (leb room count) _ e), leb-false most_records count (or_right (leb room count) _ e))

pub appended-holds : (m : Move) (book j : Journal) → JournalHolds book j → full (room_of book) book.count ≡ false → JournalHolds (appended m book) (appended m j)
appended-holds m book j h e =
    let r = not_full (room_of book) book.count e in
    record {
      same = same-appended m j book h.same r.0;
      in-room = unfold appended room_of in rw (length-set {A = Move} book.records book.count m) (unfold room_of in r.0);
      few = unfold appended in r.1;
    }

pub removed-holds : (book j : Journal) → JournalHolds book j → JournalHolds (removed book) (removed j)
unfolding removed room_of
removed-holds book j h = record { same = same-removed j book h.same; in-room = omega (arith, h.in-room); few = omega (arith, h.few) }
