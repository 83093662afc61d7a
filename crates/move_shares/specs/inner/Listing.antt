-- Atoms without quantifiers in a list: those that test some set by more than one variable, for which a swap has a correction.
use Rattle.std.specs.Prelude.{◌≡◌, List, [], ◌∷◌, ℕ, length}
use Rattle.logic.specs.declared.Move.{Move}
use Rattle.logic.specs.Formula.{none, tree, Plan}
use Rattle.logic.specs.Moves.{MoveKind, add, drop, transfer, swap, unknown}
use Rattle.cells_atoms.specs.inner.Atoms.{AllRegular}
use Rattle.cells_flip.specs.inner.Flips.{Flat}
use Rattle.cells_share.specs.inner.Listed.{Listed, ListStands, of_listed}
use Rattle.move_shares.specs.inner.Shares.{both_share}

-- Each atom of a list by itself, without quantifiers.
unfoldable pub AllFlat : List Listed → Type 0
AllFlat [] = Unit {0}
AllFlat (a ∷ xs) =
    (a.siblings ≡ none) × Flat (tree a.node a.children none) a.depth × AllRegular (tree a.node a.children none) a.depth × AllFlat xs

-- A list has these atoms, so many of them.
pub record FlatListed (u sets : ℕ) (bytes firsts ends uses cells list : List ℕ) (count : ℕ) (xs : List Listed) : Type 0 where
  pub stands : ListStands u sets bytes firsts ends uses cells list xs
  pub flat : AllFlat xs
  pub count-is : count ≡ length xs

-- What a move of a kind brings to them beyond what the tables say: a swap what both flips bring beyond each.
unfoldable pub cross_read : MoveKind → Plan → List ℕ → List ℕ → List ℕ → Move → List Listed → ℕ
cross_read add P own sizes before m xs = 0
cross_read drop P own sizes before m xs = 0
cross_read transfer P own sizes before m xs = 0
cross_read swap P own sizes before m xs = of_listed (both_share P own sizes before m) xs
cross_read unknown P own sizes before m xs = 0
