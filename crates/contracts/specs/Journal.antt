-- The journal of made moves. Paper 02, request 2026-03: "Accepted moves, improve's too, go into a lent journal of move records, at most
-- 1,024."
use Rattle.std.specs.Prelude.{Bool, cond, ◌||◌, List, ℕ, suc, ◌-◌, leb, ltb, length, get_or, set}
use Rattle.logic.specs.declared.Move.{Move}
use Rattle.logic.specs.Moves.{no_move, MoveKind, add, drop, transfer, swap, unknown, move_kind}
use Rattle.contracts.specs.State.{State, tables}

-- The lent records, and how many of them, from the first, are moves that were made: the record count.
pub record Journal : Type 0 where
  pub records : List Move
  pub count : ℕ

-- "at most 1,024"
unfoldable pub most_records : ℕ
most_records = 1024

-- "a record count past the journal's length or past 1,024 is 12"
unfoldable pub count_past : ℕ → ℕ → Bool
count_past room count = ltb room count || ltb most_records count

-- "18, journal full (its length or 1,024 reached)"
unfoldable pub full : ℕ → ℕ → Bool
full room count = leb room count || leb most_records count

-- The journal's length, which a list of calls never changes.
unfoldable pub room_of : Journal → ℕ
room_of j = length j.records

-- "the newest record": the one below the count. Of an empty journal it is any record, since 19 is tried before it is looked at.
unfoldable pub newest : Journal → Move
newest j = get_or j.records (j.count - 1) no_move

-- A record more: at the old count, every other record as it was, those past the count too.
unfoldable pub appended : Move → Journal → Journal
appended m j = record { records = set j.records j.count m; count = suc j.count }

-- "lowers the record count by one; the freed place is unwritten until used again"
unfoldable pub removed : Journal → Journal
removed j = record { records = j.records; count = j.count - 1 }

-- The record count after a call, by whether it made a move.
unfoldable pub count_after : Bool → ℕ → ℕ
count_after made count = cond made (suc count) count

-- "Accepted moves, improve's too, go into a lent journal": the journal after a call, by whether it made the move.
unfoldable pub journal_after : Bool → Move → Journal → Journal
journal_after made m j = cond made (appended m j) j

-- The record count after an undo, by whether it made a move.
unfoldable pub count_taken : Bool → ℕ → ℕ
count_taken made count = cond made (count - 1) count

-- The journal after an undo, by whether it made a move.
unfoldable pub journal_taken : Bool → Journal → Journal
journal_taken made j = cond made (removed j) j

-- "the opposite of the newest record": an add is taken back by a drop and a drop by an add, a transfer by one the other way, a swap by
-- one with p and q exchanged. An unknown kind has none; 14 applies to it.
unfoldable pub kind_opposite : MoveKind → Move → Move
kind_opposite add m = record { kind = 2; s = m.s; t = m.t; p = m.p; q = m.q }
kind_opposite drop m = record { kind = 1; s = m.s; t = m.t; p = m.p; q = m.q }
kind_opposite transfer m = record { kind = 3; s = m.t; t = m.s; p = m.p; q = m.q }
kind_opposite swap m = record { kind = 4; s = m.s; t = m.t; p = m.q; q = m.p }
kind_opposite unknown m = m

-- The opposite of a move, by its kind.
unfoldable pub opposite : Move → Move
opposite m = kind_opposite (move_kind m.kind) m

-- The tables with their journal: "passed on as the tables are".
pub record Journaled : Type 0 where
  pub tables : State
  pub journal : Journal

-- The same as a call is lent them, one after the other.
abbrev pub journaled : List ℕ → List ℕ → List Move → ℕ → Journaled
journaled masks cells records count = record { tables = tables masks cells; journal = record { records = records; count = count } }
