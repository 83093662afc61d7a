-- A port put in test or taken out, over open tables. Paper 02, request 2026-05.
use Rattle.std.specs.Prelude.{◌≡◌, List, ◌++◌, ℕ, ◌<◌, get_or, set, take, drop}
use Rattle.logic.specs.Formula.{Plan}
use Rattle.logic.specs.Configuration.{in_masks, own_masks, spelled}
use Rattle.logic.specs.Cells.{own_cells}
use Rattle.logic.specs.Change.{new_cells, differing}
use Rattle.logic.specs.InTest.{test_change}
use Rattle.logic.specs.inner.Flip.{flip_port}
use Rattle.table_format.specs.Decode.{sound, decode}
use Rattle.cells_sum.specs.declared.After.{After}
use Rattle.call_open.specs.inner.Opening.{OpenTables}

-- A port of the plan of open tables.
pub record PortReady (ports sets : ℕ) (bytes firsts ends uses masks cells : List ℕ) (p : ℕ) : Type 0 where
  pub tables-open : OpenTables ports sets bytes firsts ends uses masks cells
  pub below : p < ports

-- The plan's own masks with the port in test if it was not, and not if it was.
unfoldable pub flipped_masks : Plan → ℕ → List ℕ → List ℕ
flipped_masks P p own = set own P.sets (flip_port (get_or own P.sets 0) p)

-- Its own cells then.
unfoldable pub flipped_cells : Plan → ℕ → List ℕ → List ℕ → List ℕ
flipped_cells P p own before = new_cells P (spelled P (flipped_masks P p own)) (test_change P (in_masks own) p) before

-- The three numbers, every mask and every cell.
pub record Put (P : Plan) (p : ℕ) (masks cells : List ℕ) (r : After) (masks' cells' : List ℕ) : Type 0 where
  pub before-is : r.old ≡ get_or (take (own_cells P) cells) 0 0
  pub after_is : r.value ≡ get_or (flipped_cells P p (take (own_masks P) masks) (take (own_cells P) cells)) 0 0
  pub changed-is : r.changed ≡ differing (take (own_cells P) cells) (flipped_cells P p (take (own_masks P) masks) (take (own_cells P) cells))
  pub masks-are : masks' ≡ flipped_masks P p (take (own_masks P) masks) ++ drop (own_masks P) masks
  pub cells_are : cells' ≡ flipped_cells P p (take (own_masks P) masks) (take (own_cells P) cells) ++ drop (own_cells P) cells

unfoldable pub Puts : List ℕ → List ℕ → List ℕ → ℕ → After → List ℕ → List ℕ → Type 0
Puts bytes masks cells p r masks' cells' = (P : Plan) → decode bytes ≡ sound P → Put P p masks cells r masks' cells'
