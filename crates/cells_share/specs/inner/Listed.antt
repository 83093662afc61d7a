-- Atoms in a list of node numbers and depths, and what a change adds to all of them.
use Rattle.std.specs.Prelude.{◌≡◌, ℕ, ◌+◌, ◌*◌, ◌%◌, ◌≤◌, List, [], ◌∷◌, length, slice_index}
use Rattle.logic.specs.Formula.{Node, Forest}
use Rattle.logic.specs.Configuration.{configured, in_masks}
use Rattle.logic.specs.Change.{Change, modulus, cell_of}
use Rattle.cells_touch.specs.declared.Changed.{Changed}
use Rattle.cells_visit.specs.inner.Walking.{WalkReady}
use Rattle.cells_atoms.specs.inner.Atoms.{over_tuples, difference}
use Rattle.cells_zero.specs.inner.Zero.{TreeStands}

-- An atom: its node's number, its depth, and what stands there.
pub record Listed : Type 0 where
  pub at : ℕ
  pub depth : ℕ
  pub node : Node
  pub children : Forest
  pub siblings : Forest
  pub first : ℕ

-- A list has these atoms, the last of them first: a number each, of the node's number and the depth.
unfoldable pub ListStands : ℕ → ℕ → List ℕ → List ℕ → List ℕ → List ℕ → List ℕ → List ℕ → List Listed → Type 0
ListStands u sets bytes firsts ends uses cells list [] = Unit {0}
ListStands u sets bytes firsts ends uses cells list (a ∷ xs) =
    (slice_index list (length xs) ≡ 4 * a.at + a.depth)
    × TreeStands u sets bytes firsts ends uses cells a.at a.node a.children a.siblings a.first a.depth
    × ListStands u sets bytes firsts ends uses cells list xs

-- A number for each of them, summed.
unfoldable pub of_listed : (Node → Forest → ℕ → ℕ → ℕ) → List Listed → ℕ
of_listed g [] = 0
of_listed g (a ∷ xs) = g a.node a.children a.first a.depth + of_listed g xs

-- Before a list of so many atoms, with the masks after a change.
pub record ListReady (u sets : ℕ) (c : Changed) (bytes firsts ends uses masks cells list : List ℕ) (count : ℕ) : Type 0 where
  pub change : Change
  pub atoms : List Listed
  pub ready : WalkReady u sets c masks cells change
  pub stands : ListStands u sets bytes firsts ends uses cells list atoms
  pub count-is : count ≡ length atoms
  pub room : count ≤ length list

unfoldable pub ListGives : ℕ → ℕ → Changed → List ℕ → List ℕ → List ℕ → List ℕ → List ℕ → List ℕ → List ℕ → ℕ → ℕ → Type 0
ListGives u sets c bytes firsts ends uses masks cells list count r =
    (ch : Change) (xs : List Listed) → WalkReady u sets c masks cells ch → ListStands u sets bytes firsts ends uses cells list xs → count ≡ length xs
    → r ≡ of_listed (λ n f b d. over_tuples u d (difference u (configured u sets (in_masks masks)) ch (cell_of u cells) n f b d) []) xs % modulus

-- The same added to a number, for the first atoms of the list.
unfoldable pub ListAdds : ℕ → ℕ → Changed → List ℕ → List ℕ → List ℕ → List ℕ → List ℕ → List ℕ → List ℕ → ℕ → ℕ → ℕ → Type 0
ListAdds u sets c bytes firsts ends uses masks cells list count acc r =
    (ch : Change) (xs : List Listed) → WalkReady u sets c masks cells ch → ListStands u sets bytes firsts ends uses cells list xs → count ≡ length xs
    → r ≡ (acc + of_listed (λ n f b d. over_tuples u d (difference u (configured u sets (in_masks masks)) ch (cell_of u cells) n f b d) []) xs) % modulus
