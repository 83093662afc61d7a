-- "Bytes, masks and cells past a plan's own are never written or read" (paper 01, section Plan table): two calls whose own parts agree.
use Rattle.std.specs.Prelude.{◌≡◌, List, ℕ, ltb, length, take}
use Rattle.logic.specs.Formula.{Plan}
use Rattle.logic.specs.Configuration.{own_masks}
use Rattle.logic.specs.Cells.{own_cells}
use Rattle.contracts.specs.State.{State}

-- The first n entries of two lists are the same, and both lists have so many or neither.
pub record SameFirst (n : ℕ) (l l' : List ℕ) : Type 0 where
  pub entries : take n l ≡ take n l'
  pub enough : ltb (length l) n ≡ ltb (length l') n

-- The tables of two calls that agree on the plan's own masks and cells and on being long enough for them.
pub record SameTables (P : Plan) (s s' : State) : Type 0 where
  pub same-masks : SameFirst (own_masks P) s.masks s'.masks
  pub same-cells : SameFirst (own_cells P) s.cells s'.cells

-- The tables of two calls that are lent scratch: of scratch only that both have enough or neither has.
pub record SameLent (P : Plan) (s s' : State) (scratch scratch' : List ℕ) : Type 0 where
  pub same : SameTables P s s'
  pub enough : ltb (length scratch) (own_cells P) ≡ ltb (length scratch') (own_cells P)
