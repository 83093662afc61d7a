-- What an accepted reading and an accepted load leave, by the logic alone: the letter, demand 2.
use Rattle.std.specs.Prelude.{◌≡◌, ◌↔◌, List, ◌++◌, ℕ, take, drop}
use Rattle.logic.specs.Formula.{Plan}
use Rattle.logic.specs.Configuration.{own_masks, spelled}
use Rattle.logic.specs.Truth.{PlanTrue}
use Rattle.logic.specs.Cells.{own_cells, cells as planCells, root_penalty}
use Rattle.table_format.specs.Decode.{sound, decode}
use Rattle.contracts.specs.State.{State}
use Rattle.contracts.specs.Read.{reads}
use Rattle.contracts.specs.Admitted.{TextTrue}

-- "its stored core formula is true under the same configurations as the text": the bytes that reading leaves are the table of a plan,
-- and under all masks that plan is true exactly when the text is.
pub record StoredTrue (u : ℕ) (s before : List ℕ) : Type 0 where
  pub plan : Plan
  pub decodes : decode (reads u s before).1 ≡ sound plan
  pub same_truth : (masks : List ℕ) → PlanTrue plan (spelled plan (take (own_masks plan) masks)) ↔ TextTrue u masks s

-- "After a load each cell holds the penalty of Definition 5 as 01 completes it, and the root is 0 exactly when the formula is true.":
-- the answer and the tables of an accepted load of a plan.
pub record LoadedTrue (P : Plan) (before : State) (root total : ℕ) (after : State) : Type 0 where
  pub zero-when-true : root ≡ 0 ↔ PlanTrue P (spelled P (take (own_masks P) before.masks))
  pub root_is : root ≡ root_penalty P (spelled P (take (own_masks P) before.masks))
  pub total-is : total ≡ own_cells P
  pub cells_are : after.cells ≡ planCells P (spelled P (take (own_masks P) before.masks)) ++ drop (own_cells P) before.cells
  pub masks-kept : after.masks ≡ before.masks
