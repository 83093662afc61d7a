-- What flips at two ports bring to a tree without quantifiers beyond the flip at each: where both ports stand in one tuple.
use Rattle.std.specs.Prelude.{◌≡◌, ℕ, ◌+◌, ◌-◌, ◌%◌, ◌<◌, Bool, ◌&&◌, ◌||◌, ◌≢◌, List, [], ◌==◌, slice_index}
use Rattle.logic.specs.Formula.{Node, Forest, tree}
use Rattle.logic.specs.Configuration.{Sets, Configuration}
use Rattle.logic.specs.Cells.{CellRule}
use Rattle.logic.specs.Change.{Change, modulus, OldCells, cell_of, new_cell}
use Rattle.cells_atoms.specs.inner.Atoms.{over_tuples}
use Rattle.cells_atoms.specs.inner.Ports.{Lists}
use Rattle.cells_flip.specs.inner.Flips.{Flipped, FlipSettled}
use Rattle.cells_ports.specs.inner.Ports.{Words, Resizes, FlipsAt}
use Rattle.cells_tuples.specs.inner.Tuples.{FlatTree}

-- Some sets at two ports.
unfoldable pub at_two : (ℕ → Bool) → ℕ → ℕ → Sets
at_two sets p q S x = sets S && (x == p || x == q)

-- A change that flips some sets at both ports, and resizes some.
unfoldable pub FlipsBoth : (ℕ → Bool) → (ℕ → Bool) → ℕ → ℕ → Change → Type 0
FlipsBoth flips resizes p q ch = Lists (at_two flips p q) resizes ch

-- Configurations and changes: the resizing alone, with the flip at p, with the flip at q, and with both.
pub record FourChanges : Type 0 where
  pub k₀ : Configuration
  pub base : Change
  pub kp : Configuration
  pub atp : Change
  pub kq : Configuration
  pub atq : Change
  pub kb : Configuration
  pub both : Change

pub record FourAre (used : ℕ) (masks sizes : List ℕ) (flips resizes : ℕ → Bool) (p q : ℕ) (f : FourChanges) : Type 0 where
  pub base-is : Resizes resizes f.base
  pub p-is : FlipsAt flips resizes p f.atp
  pub q-is : FlipsAt flips resizes q f.atq
  pub both_is : FlipsBoth flips resizes p q f.both
  pub base-flipped : Flipped used masks sizes f.base f.k₀
  pub p-flipped : Flipped used masks sizes f.atp f.kp
  pub q-flipped : Flipped used masks sizes f.atq f.kq
  pub both-flipped : Flipped used masks sizes f.both f.kb

-- Of a cell: both, less each alone, and the resizing alone; modulo 2^32, so that the modulus is added.
unfoldable pub both_by : ℕ → FourChanges → OldCells → CellRule
both_by u f t n c b d e =
    new_cell u f.kb f.both t n c b d e + (modulus - new_cell u f.kp f.atp t n c b d e)
    + (new_cell u f.k₀ f.base t n c b d e + (modulus - new_cell u f.kq f.atq t n c b d e))

-- Before one tree, whose siblings may be any.
pub record BothReady (u : ℕ) (bytes firsts ends uses masks sizes cells : List ℕ) (i d members resized p q : ℕ) : Type 0 where
  pub sets : ℕ
  pub node : Node
  pub children : Forest
  pub siblings : Forest
  pub first : ℕ
  pub flips : ℕ → Bool
  pub resizes : ℕ → Bool
  pub settled : FlipSettled u sets masks sizes cells
  pub stands : FlatTree u sets bytes firsts ends uses cells i (tree node children siblings) first d
  pub words : Words flips resizes members resized
  pub p-low : p < u
  pub q-low : q < u
  pub differ : p ≢ q

unfoldable pub BothGives : ℕ → List ℕ → List ℕ → List ℕ → List ℕ → List ℕ → List ℕ → List ℕ → ℕ → ℕ → ℕ → ℕ → ℕ → ℕ → ℕ → Type 0
BothGives u bytes firsts ends uses masks sizes cells i d members resized p q r =
    (sets : ℕ) (n : Node) (c s : Forest) (b : ℕ) (flips resizes : ℕ → Bool)
    → FlipSettled u sets masks sizes cells
    → FlatTree u sets bytes firsts ends uses cells i (tree n c s) b d
    → Words flips resizes members resized → p ≢ q
    → (f : FourChanges) → FourAre (slice_index uses i) masks sizes flips resizes p q f
    → r ≡ over_tuples u d (both_by u f (cell_of u cells) n c b d) [] % modulus
