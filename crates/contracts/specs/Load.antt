-- Load: "Load checks the tables and fills every cell. It returns root and cell total." (paper 01, sections Penalty and Grounds)
use Rattle.std.specs.Prelude.{◌≡◌, List, [], ℕ, Result, Ok, Err}
use Rattle.logic.specs.Formula.{Plan}
use Rattle.logic.specs.Configuration.{spelled}
use Rattle.logic.specs.Cells.{own_cells, cells as planCells, root_penalty}
use Rattle.logic.specs.Moves.{Ground}
use Rattle.logic.specs.declared.refusal.Refusal.{Refusal}
use Rattle.logic.specs.Refusal.{refusal_number, Told}
use Rattle.table_format.specs.Decode.{Decoded}
use Rattle.contracts.specs.State.{State}
use Rattle.contracts.specs.Call.{call_grounds, call}
use Rattle.contracts.specs.declared.Loaded.{Loaded}

-- What load answers, by 01's number and values: "It returns root and cell total."
pub record LoadValues : Type 0 where
  pub number : ℕ
  pub root : ℕ
  pub cells : ℕ

-- "The answer is the number with all other fields 0."
unfoldable pub load_refused : ℕ → LoadValues
load_refused number = record { number = number; root = 0; cells = 0 }

-- The number and the values of each case of the enum.
unfoldable pub load_values : Result Loaded Refusal → LoadValues
load_values (Ok r) = record { number = 0; root = r.root; cells = r.cells }
load_values (Err g) = load_refused (refusal_number g)

-- No refusal has the number 0, so that the values tell the case.
abbrev pub LoadTold : Result Loaded Refusal → Type 0
LoadTold r = Told r

-- Load tries 11 to 13.
unfoldable pub load_grounds : Decoded → State → List Ground
load_grounds d s = call_grounds d s [] (λ P k. [])

-- The plan's own masks after an accepted load: as they were.
unfoldable pub loaded_masks : Plan → List ℕ → List ℕ
loaded_masks P own = own

-- "fills every cell": the plan's own tables after an accepted load.
unfoldable pub loaded_tables : Plan → State → State
loaded_tables P own = record { masks = loaded_masks P own.masks; cells = planCells P (spelled P (loaded_masks P own.masks)) }

-- An accepted load over the plan's own tables.
unfoldable pub loads_own : Plan → State → LoadValues × State
loads_own P own =
    (record { number = 0; root = root_penalty P (spelled P (loaded_masks P own.masks)); cells = own_cells P }, loaded_tables P own)

-- Load as a function of the tables: the answer, every mask and every cell afterwards.
unfoldable pub loads : Decoded → State → LoadValues × State
loads d s = call load_refused (load_grounds d s) d loads_own s

-- What `load` promises: its answer by 01's number and values, and every mask and every cell afterwards.
pub record LoadPromise (given : LoadValues × State) (r : Result Loaded Refusal) (s' : State) : Type 0 where
  pub values-are : load_values r ≡ given.0
  pub told : LoadTold r
  pub tables-are : s' ≡ given.1
