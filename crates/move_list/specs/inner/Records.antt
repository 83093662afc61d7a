-- What a list of move records is after one move more.
use Rattle.std.specs.Prelude.{◌≡◌, cond, List, ℕ, ◌+◌, ◌<◌, eqb, length, set}
use Rattle.logic.specs.declared.Move.{Move}
use Rattle.contracts.specs.BestCall.{move_record}

-- The list has a place for the record of a move that leaves the least root.
unfoldable pub RoomFor : ℕ → ℕ → ℕ → List (List ℕ) → Type 0
RoomFor value least at list = value ≡ least → at < length list

-- The list afterwards, and the place of the next record.
pub record Put (m : Move) (value least at : ℕ) (list list' : List (List ℕ)) (next : ℕ) : Type 0 where
  pub list-is : list' ≡ cond (eqb value least) (set list at (move_record m)) list
  pub next-is : next ≡ cond (eqb value least) (at + 1) at
