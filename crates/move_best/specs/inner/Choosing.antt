-- The best of all candidates, by the root that each would leave. Paper 01, section One move; paper 02, request 2026-01.
use Rattle.std.specs.Prelude.{◌≡◌, Bool, not, ◌&&◌, List, [], ◌∷◌, ◌++◌, map, ℕ, suc, ◌≤◌, eqb, ltb, length, drop}
use Rattle.logic.specs.declared.Move.{Move}
use Rattle.logic.specs.Formula.{Plan}
use Rattle.logic.specs.Configuration.{mask_count}
use Rattle.logic.specs.Cells.{own_cells}
use Rattle.table_format.specs.Decode.{sound, decode}
use Rattle.call_open.specs.inner.Opening.{OpenTables}
use Rattle.contracts.specs.State.{State, tables, own_tables}
use Rattle.contracts.specs.ImproveCall.{root_after, best_moves}
use Rattle.contracts.specs.BestCall.{move_record}
use Rattle.move_rank.specs.declared.Choice.{Choice}
use Rattle.move_root.specs.inner.Telling.{Told}
use Rattle.move_tables.specs.declared.Left.{Left}

-- Tables that tell of the moves, and room for the masks after one.
pub record SearchRoom (ports sets : ℕ) (bytes firsts ends uses masks cells : List ℕ) (kinds : ℕ) (one still joint lists : List ℕ) (left : Left) (work : List ℕ) : Type 0 where
  pub told : Told ports sets bytes firsts ends uses masks cells kinds one still joint lists left
  pub work-long : length work ≡ mask_count sets

-- Open tables, and how many cells are the plan's own.
pub record BestAsked (ports sets : ℕ) (bytes firsts ends uses masks cells : List ℕ) (own : ℕ) : Type 0 where
  pub tables-open : OpenTables ports sets bytes firsts ends uses masks cells
  pub cells-own : (P : Plan) → decode bytes ≡ sound P → own ≡ own_cells P

-- The choice is the first of these moves, with how many they are and the root that it leaves.
unfoldable pub BestIs : List Move → Plan → State → Choice → Type 0
BestIs [] P own r = r.count ≡ 0
BestIs (m ∷ ms) P own r = (r.count ≡ suc (length ms)) × (r.m ≡ m) × (r.value ≡ root_after P m own.masks own.cells)

-- The first of the best, if there is one, leaves a smaller root than now.
unfoldable pub lowers_by : Choice → ℕ → Bool
lowers_by c root = not (eqb c.count 0) && ltb c.value root

-- The choice among the candidates.
unfoldable pub Chooses : List ℕ → List ℕ → List ℕ → ℕ → Choice → Type 0
Chooses bytes masks cells kinds r =
    (P : Plan) → decode bytes ≡ sound P → (let own = own_tables P (tables masks cells) in BestIs (best_moves P kinds own) P own r)

-- Tables that tell of the moves, the choice among the candidates, and a list with room for the best.
pub record ListRoom (ports sets : ℕ) (bytes firsts ends uses masks cells : List ℕ) (kinds : ℕ) (one still joint lists : List ℕ) (left : Left) (best : Choice) (list : List (List ℕ)) : Type 0 where
  pub told : Told ports sets bytes firsts ends uses masks cells kinds one still joint lists left
  pub chooses : Chooses bytes masks cells kinds best
  pub list-long : best.count ≤ length list

-- The same with room for the masks after a move.
pub record WriteRoom (ports sets : ℕ) (bytes firsts ends uses masks cells : List ℕ) (kinds : ℕ) (one still joint lists : List ℕ) (left : Left) (best : Choice) (work : List ℕ)
    (list : List (List ℕ)) : Type 0 where
  pub room : ListRoom ports sets bytes firsts ends uses masks cells kinds one still joint lists left best list
  pub work-long : length work ≡ mask_count sets

-- The list afterwards: the records of the best moves in their order, and behind them what stood there.
unfoldable pub Lists : List ℕ → List ℕ → List ℕ → ℕ → List (List ℕ) → List (List ℕ) → Type 0
Lists bytes masks cells kinds list list' =
    (P : Plan) → decode bytes ≡ sound P → (let best = best_moves P kinds (own_tables P (tables masks cells)) in list' ≡ map move_record best ++ drop (length best) list)
