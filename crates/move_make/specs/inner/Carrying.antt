-- A legal move made over open tables. Paper 01, section One move.
use Rattle.std.specs.Prelude.{◌≡◌, List, ◌++◌, take, drop, ℕ}
use Rattle.logic.specs.declared.Move.{Move}
use Rattle.logic.specs.Formula.{Plan}
use Rattle.logic.specs.Configuration.{own_masks}
use Rattle.logic.specs.Cells.{own_cells}
use Rattle.logic.specs.Moves.{move_masks}
use Rattle.table_format.specs.Decode.{sound, decode}
use Rattle.cells_sum.specs.declared.After.{After}
use Rattle.contracts.specs.MoveCall.{cells_after}
use Rattle.move_try.specs.inner.Trying.{NumbersAre}

-- "An accepted move writes its masks and touched cells": its three numbers, every mask and every cell.
pub record Carried (P : Plan) (m : Move) (masks cells : List ℕ) (r : After) (masks' cells' : List ℕ) : Type 0 where
  pub numbers : NumbersAre P (take (own_masks P) masks) (take (own_cells P) cells) m r
  pub masks-are : masks' ≡ move_masks P m (take (own_masks P) masks) ++ drop (own_masks P) masks
  pub cells_are : cells' ≡ cells_after P m (take (own_masks P) masks) (take (own_cells P) cells) ++ drop (own_cells P) cells

unfoldable pub Carries : List ℕ → List ℕ → List ℕ → Move → After → List ℕ → List ℕ → Type 0
Carries bytes masks cells m r masks' cells' = (P : Plan) → decode bytes ≡ sound P → Carried P m masks cells r masks' cells'
