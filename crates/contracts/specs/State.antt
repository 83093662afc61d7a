-- The tables that the calls of a list share: "Each call is lent these tables as the last call left them, and nobody else writes them
-- until the list ends." (paper 01, section Lists of calls)
use Rattle.std.specs.Prelude.{List, ◌++◌, ℕ, take, drop}
use Rattle.logic.specs.Formula.{Plan}
use Rattle.logic.specs.Configuration.{own_masks}
use Rattle.logic.specs.Cells.{own_cells}

pub record State : Type 0 where
  pub masks : List ℕ
  pub cells : List ℕ

-- The tables as a call is lent them, one after the other.
abbrev pub tables : List ℕ → List ℕ → State
tables masks cells = record { masks = masks; cells = cells }

-- "Bytes, masks and cells past a plan's own are never written or read": the plan's own part of the tables.
unfoldable pub own_tables : Plan → State → State
own_tables P s = record { masks = take (own_masks P) s.masks; cells = take (own_cells P) s.cells }

-- The plan's own part written anew, with what is past it.
unfoldable pub with_rest : Plan → State → State → State
with_rest P own s = record { masks = own.masks ++ drop (own_masks P) s.masks; cells = own.cells ++ drop (own_cells P) s.cells }
