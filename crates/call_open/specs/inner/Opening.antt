-- Grounds 11 to 13, which every call over a plan's tables tries first. Paper 01, section Grounds for refusal.
use Rattle.std.specs.Prelude.{◌≡◌, true, List, [], ◌∷◌, ℕ, ◌≤◌, ltb, length, take, Result, Ok}
use Rattle.logic.specs.Formula.{Plan, node_count}
use Rattle.logic.specs.Configuration.{own_masks, all_within}
use Rattle.logic.specs.Cells.{own_cells}
use Rattle.logic.specs.Moves.{refusal}
use Rattle.logic.specs.declared.refusal.Refusal.{Refusal}
use Rattle.logic.specs.Refusal.{answer_number}
use Rattle.table_format.specs.Decode.{Decoded, sound, decode}
use Rattle.cells_walk.specs.inner.Visit.{CellsFit}
use Rattle.cells_walk.specs.inner.Root.{PlanIndex}
use Rattle.contracts.specs.Call.{plan_grounds, table_grounds}
use Rattle.table_check.specs.declared.Info.{Info}

-- 11, and 12 of the cell tables, the shortest of which is so long.
unfoldable pub cells_number : Decoded → ℕ → ℕ
cells_number d shortest = refusal (plan_grounds d (λ P. (12, ltb shortest (own_cells P)) ∷ []))

-- 11 to 13.
unfoldable pub open_number : Decoded → List ℕ → ℕ → ℕ
open_number d masks shortest = refusal (plan_grounds d (λ P. table_grounds P (take (own_masks P) masks) (length masks) (shortest ∷ [])))

-- What 11 and 12 of the cell tables leave: the plan of a table, its four numbers, its index tables, and room for its cells in the
-- shortest cell table.
pub record IndexedPlan (r : Info) (bytes : List ℕ) (shortest : ℕ) (firsts ends uses : List ℕ) : Type 0 where
  pub plan : Plan
  pub decodes : decode bytes ≡ sound plan
  pub ports-are : r.ports ≡ plan.ports
  pub sets-are : r.sets ≡ plan.sets
  pub nodes-are : r.nodes ≡ node_count plan.formula
  pub cells_are : r.cells ≡ own_cells plan
  pub indexed : PlanIndex plan firsts ends uses
  pub own-cells : own_cells plan ≤ shortest

-- The ground that is refused is the first of these that applies; where none does, the plan is open.
pub record OpensCells (bytes : List ℕ) (shortest : ℕ) (r : Result Info Refusal) (firsts ends uses : List ℕ) : Type 0 where
  pub number_is : answer_number r ≡ cells_number (decode bytes) shortest
  pub opens : (o : Info) → r ≡ Ok o → IndexedPlan o bytes shortest firsts ends uses

-- What 11 to 13 leave: the plan of a table, its numbers of ports and sets, its index tables, its own masks, and room for its cells in
-- the shortest cell table.
pub record OpenPlan (ports sets : ℕ) (bytes masks : List ℕ) (shortest : ℕ) (firsts ends uses : List ℕ) : Type 0 where
  pub plan : Plan
  pub decodes : decode bytes ≡ sound plan
  pub ports-are : ports ≡ plan.ports
  pub sets-are : sets ≡ plan.sets
  pub indexed : PlanIndex plan firsts ends uses
  pub own-masks : own_masks plan ≤ length masks
  pub own-cells : own_cells plan ≤ shortest
  pub within : all_within plan.ports (take (own_masks plan) masks) ≡ true

-- The same of 11 to 13.
pub record Opens (bytes masks : List ℕ) (shortest : ℕ) (r : Result Info Refusal) (firsts ends uses : List ℕ) : Type 0 where
  pub number_is : answer_number r ≡ open_number (decode bytes) masks shortest
  pub opens : (o : Info) → r ≡ Ok o → OpenPlan o.ports o.sets bytes masks shortest firsts ends uses
  pub nodes-are : (o : Info) → r ≡ Ok o → (P : Plan) → decode bytes ≡ sound P → o.nodes ≡ node_count P.formula
  pub cells_are : (o : Info) → r ≡ Ok o → (P : Plan) → decode bytes ≡ sound P → o.cells ≡ own_cells P

-- Open tables with cells of 32 bits: what a walk over them asks.
pub record OpenTables (ports sets : ℕ) (bytes firsts ends uses masks cells : List ℕ) : Type 0 where
  pub opened : OpenPlan ports sets bytes masks (length cells) firsts ends uses
  pub cells_fit : CellsFit cells
