-- The walk of a whole plan: where it begins, and what the root comes to.
use Rattle.std.specs.Prelude.{◌≡◌, List, ◌++◌, ℕ, ◌≤◌, length, get_or, take, drop}
use Rattle.logic.specs.Formula.{Plan}
use Rattle.logic.specs.Configuration.{spelled}
use Rattle.logic.specs.Change.{Change, new_cells, differing}
use Rattle.logic.specs.Cells.{own_cells, first_cells}
use Rattle.table_format.specs.Decode.{sound, decode}
use Rattle.table_format.specs.inner.Index.{ends, uses_table, laid}
use Rattle.cells_touch.specs.declared.Changed.{Changed}
use Rattle.cells_touch.specs.inner.Hits.{Describes}
use Rattle.cells_sum.specs.declared.After.{After}
use Rattle.cells_walk.specs.inner.Visit.{MasksSettled, CellsFit}

-- The index tables of a plan, as its check leaves them in tables of any numbers.
pub record PlanIndex (P : Plan) (firsts ends' uses : List ℕ) : Type 0 where
  pub firsts₀ : List ℕ
  pub ends₀ : List ℕ
  pub uses₀ : List ℕ
  pub firsts-are : firsts ≡ laid firsts₀ 0 (first_cells P.ports P.formula 0 0)
  pub ends-are : ends' ≡ laid ends₀ 0 (ends P.formula 0)
  pub uses-are : uses ≡ laid uses₀ 0 (uses_table P.formula)

-- A plan that passed its check, a change, and masks that are settled: what a walk from the root asks.
pub record RootReady (u sets : ℕ) (c : Changed) (bytes firsts ends' uses masks cells : List ℕ) : Type 0 where
  pub plan : Plan
  pub decodes : decode bytes ≡ sound plan
  pub ports-are : u ≡ plan.ports
  pub sets-are : sets ≡ plan.sets
  pub indexed : PlanIndex plan firsts ends' uses
  pub change : Change
  pub says : Describes u change c
  pub masks-settled : MasksSettled u sets masks
  pub cells_fit : CellsFit cells
  pub own-cells : own_cells plan ≤ length cells

-- "root before, root after, and how many cells differ from before", under the masks after the change.
pub record RootAfter (P : Plan) (ch : Change) (masks cells : List ℕ) (r : After) : Type 0 where
  pub old-is : r.old ≡ get_or (take (own_cells P) cells) 0 0
  pub new_is : r.value ≡ get_or (new_cells P (spelled P masks) ch (take (own_cells P) cells)) 0 0
  pub changed-is : r.changed ≡ differing (take (own_cells P) cells) (new_cells P (spelled P masks) ch (take (own_cells P) cells))

unfoldable pub RootGives : ℕ → Changed → List ℕ → List ℕ → List ℕ → After → Type 0
RootGives u c bytes masks cells r = (P : Plan) (ch : Change) → decode bytes ≡ sound P → Describes u ch c → RootAfter P ch masks cells r

-- A walk that writes: the plan's own cells are the new ones, and the rest of the table is as it was.
unfoldable pub RootWrites : ℕ → Changed → List ℕ → List ℕ → List ℕ → List ℕ → Type 0
RootWrites u c bytes masks old new =
    (P : Plan) (ch : Change) → decode bytes ≡ sound P → Describes u ch c
    → new ≡ new_cells P (spelled P masks) ch (take (own_cells P) old) ++ drop (own_cells P) old
