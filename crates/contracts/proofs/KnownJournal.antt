-- The journal computed: opposites, a record more and a record less, and the grounds in their order, over two sets of two ports with port 0
-- in the first set. Assumes nothing.
use mathlib.Core.Path.{◌≡◌, refl}
use mathlib.Core.Bool.{true, false}
use mathlib.Core.List.{[], ◌∷◌}
use Prim.Native.Nat.{ℕ}
use Rattle.logic.specs.declared.Move.{Move}
use Rattle.logic.specs.Formula.{Plan, none}
use Rattle.logic.specs.Configuration.{Sets, in_mask, in_masks}
use Rattle.logic.specs.Moves.{no_move, move_kind, fields_known, fields_fit, known, fits, legal, refusal, move_grounds, kinds_known}
use Rattle.contracts.specs.Journal.{Journal, most_records, count_past, full, newest, appended, removed, kind_opposite, opposite, count_after, journal_after}
use Rattle.contracts.specs.MoveOrder.{fields_are}
use Rattle.contracts.specs.MoveCall.{made_grounds}
use Rattle.contracts.specs.ImproveCall.{chosen_grounds}
use Rattle.contracts.specs.UndoCall.{taken_grounds}

-- an add and a drop of each other, a transfer the other way, a swap with p and q exchanged; kind 5 has none
pub known-opposites : (opposite (fields_are 1 1 0 2 0) ≡ fields_are 2 1 0 2 0)
    × (opposite (fields_are 2 1 0 2 0) ≡ fields_are 1 1 0 2 0)
    × (opposite (fields_are 3 1 2 3 0) ≡ fields_are 3 2 1 3 0)
    × (opposite (fields_are 4 1 0 2 3) ≡ fields_are 4 1 0 3 2)
    × (opposite (fields_are 5 1 2 3 4) ≡ fields_are 5 1 2 3 4)
unfolding opposite kind_opposite move_kind fields_are
known-opposites = (refl, refl, refl, refl, refl)

abbrev m : Move
m = fields_are 1 0 0 1 0

abbrev other : Move
other = fields_are 9 9 9 9 9

abbrev records : Move → Move → ℕ → Journal
records x y count = record { records = x ∷ y ∷ []; count = count }

-- the record is written at the old count; a freed place stays as it is
pub known-records : (appended m (records other other 0) ≡ records m other 1)
    × (appended m (records other other 1) ≡ records other m 2)
    × (removed (records other m 2) ≡ records other m 1)
    × (newest (records other m 2) ≡ m)
    × (newest (records m other 1) ≡ m)
unfolding appended removed newest no_move
known-records = (refl, refl, refl, refl, refl)

-- a call that makes no move leaves the count and the records
pub known-after : (journal_after true m (records other other 1) ≡ records other m 2)
    × (journal_after false m (records other other 1) ≡ records other other 1)
    × (count_after true 1 ≡ 2)
    × (count_after false 1 ≡ 1)
unfolding journal_after count_after appended
known-after = (refl, refl, refl, refl)

-- a count past the length, past 1,024, and past neither; a journal whose length is reached, 1,024 of a longer one, one of length 0, and
-- one with room
pub known-counts : (count_past 2 3 ≡ true)
    × (count_past 2000 1025 ≡ true)
    × (count_past 2 2 ≡ false)
    × (count_past 2000 1024 ≡ false)
    × (full 2 2 ≡ true)
    × (full 2000 1024 ≡ true)
    × (full 0 0 ≡ true)
    × (full 2 1 ≡ false)
    × (full 2000 1023 ≡ false)
unfolding count_past full most_records
known-counts = (refl, refl, refl, refl, refl, refl, refl, refl, refl)

abbrev two : Plan
two = record { ports = 2; sets = 2; formula = none }

abbrev k : Sets
k = in_masks (1 ∷ 0 ∷ [])

-- of a move: 14, 15 and then 18
pub known-made : (refusal (made_grounds two k 2 2 other) ≡ 14)
    × (refusal (made_grounds two k 2 2 (fields_are 1 0 0 0 0)) ≡ 15)
    × (refusal (made_grounds two k 2 2 m) ≡ 18)
    × (refusal (made_grounds two k 2 1 m) ≡ 0)
unfolding made_grounds move_grounds refusal full most_records legal known fits move_kind fields_known fields_fit in_masks in_mask fields_are
known-made = (refl, refl, refl, refl)

-- of improve: 14, and 18 only where it would make a move
pub known-chosen : (refusal (chosen_grounds 0 true 2 2) ≡ 14)
    × (refusal (chosen_grounds 15 true 2 2) ≡ 18)
    × (refusal (chosen_grounds 15 true 2 1) ≡ 0)
    × (refusal (chosen_grounds 15 false 2 2) ≡ 0)
unfolding chosen_grounds refusal full most_records kinds_known
known-chosen = (refl, refl, refl, refl)

-- of undo: 19, 14 of the record, 15 of its opposite
pub known-taken : (refusal (taken_grounds two k 0 other) ≡ 19)
    × (refusal (taken_grounds two k 1 other) ≡ 14)
    × (refusal (taken_grounds two k 1 m) ≡ 15)
    × (refusal (taken_grounds two k 1 (fields_are 1 0 0 0 0)) ≡ 0)
unfolding taken_grounds opposite kind_opposite refusal legal known fits move_kind fields_known fields_fit in_masks in_mask fields_are
known-taken = (refl, refl, refl, refl)
