-- A legal move over open tables, and the three numbers that it would come to. Paper 01, section One move.
use Rattle.std.specs.Prelude.{◌≡◌, true, List, ℕ, length, take}
use Rattle.logic.specs.declared.Move.{Move}
use Rattle.logic.specs.Formula.{Plan}
use Rattle.logic.specs.Configuration.{in_masks, mask_count, own_masks}
use Rattle.logic.specs.Cells.{own_cells}
use Rattle.logic.specs.Moves.{legal}
use Rattle.logic.specs.Change.{differing}
use Rattle.table_format.specs.Decode.{sound, decode}
use Rattle.cells_sum.specs.declared.After.{After}
use Rattle.call_open.specs.inner.Opening.{OpenTables}
use Rattle.contracts.specs.MoveCall.{cells_after}
use Rattle.contracts.specs.ImproveCall.{root_now, root_after}

-- A move that is legal in the plan of open tables.
pub record LegalMove (ports sets : ℕ) (bytes firsts ends uses masks cells : List ℕ) (m : Move) : Type 0 where
  pub tables-open : OpenTables ports sets bytes firsts ends uses masks cells
  pub is-legal : legal tables-open.opened.plan (in_masks (take (own_masks tables-open.opened.plan) masks)) m ≡ true

-- The same with room for the masks after it.
pub record TryReady (ports sets : ℕ) (bytes firsts ends uses masks cells : List ℕ) (m : Move) (work : List ℕ) : Type 0 where
  pub legal-move : LegalMove ports sets bytes firsts ends uses masks cells m
  pub work-long : length work ≡ mask_count sets

-- "root before, root after, and how many cells differ from before": the three numbers that the move call would answer.
pub record NumbersAre (P : Plan) (own before : List ℕ) (m : Move) (a : After) : Type 0 where
  pub before-is : a.old ≡ root_now before
  pub after_is : a.value ≡ root_after P m own before
  pub changed-is : a.changed ≡ differing before (cells_after P m own before)

unfoldable pub GivesNumbers : List ℕ → List ℕ → List ℕ → Move → After → Type 0
GivesNumbers bytes masks cells m a = (P : Plan) → decode bytes ≡ sound P → NumbersAre P (take (own_masks P) masks) (take (own_cells P) cells) m a
