-- What flips of some sets bring to all cells of a tree without quantifiers, for each port at which they may flip.
use Rattle.std.specs.Prelude.{◌≡◌, ℕ, ◌+◌, ◌%◌, ◌<◌, ◌≤◌, Bool, List, [], length, slice_index}
use Rattle.logic.specs.Formula.{Node, Forest, tree, node_count}
use Rattle.logic.specs.Configuration.{Configuration}
use Rattle.logic.specs.Cells.{cell_count}
use Rattle.logic.specs.Change.{Change, modulus, cell_of}
use Rattle.cells_walk.specs.inner.Nodes.{IndexHolds, Fitting}
use Rattle.cells_atoms.specs.inner.Atoms.{over_tuples}
use Rattle.cells_flip.specs.inner.Flips.{Flat, Flipped, FlipSettled}
use Rattle.cells_ports.specs.inner.Ports.{Words, Resizes, FlipsAt, resized_by, flipped_by}

-- A forest without quantifiers at depth d, as the tables have it.
pub record FlatTree (u sets : ℕ) (bytes firsts ends uses cells : List ℕ) (i : ℕ) (f : Forest) (b d : ℕ) : Type 0 where
  pub holds : IndexHolds u bytes firsts ends uses i f b d
  pub fitting : Fitting sets f d
  pub flat : Flat f d
  pub room : b + cell_count u f d ≤ length cells
  pub nodes : i + node_count f ≤ 512

-- Before one of its trees, whose siblings may be any.
pub record AllPortsReady (u : ℕ) (bytes firsts ends uses masks sizes cells : List ℕ) (i d members resized : ℕ) (out : List ℕ) : Type 0 where
  pub sets : ℕ
  pub node : Node
  pub children : Forest
  pub siblings : Forest
  pub first : ℕ
  pub flips : ℕ → Bool
  pub resizes : ℕ → Bool
  pub settled : FlipSettled u sets masks sizes cells
  pub stands : FlatTree u sets bytes firsts ends uses cells i (tree node children siblings) first d
  pub words : Words flips resizes members resized
  pub room : u ≤ length out

-- The resizing's differences over all its cells, and in `out`, port by port, what the flip there adds.
pub record AllPortsAre (u : ℕ) (uses masks sizes cells : List ℕ) (i d : ℕ) (flips resizes : ℕ → Bool) (n : Node) (c : Forest) (b : ℕ)
    (k₀ : Configuration) (base : Change) (before after : List ℕ) (r : ℕ) : Type 0 where
  pub resized-is : r ≡ over_tuples u d (resized_by u k₀ base (cell_of u cells) n c b d) [] % modulus
  pub flipped-is : (x : ℕ) → x < u → (ch : Change) (k : Configuration) → FlipsAt flips resizes x ch → Flipped (slice_index uses i) masks sizes ch k
      → slice_index after x ≡ (slice_index before x + over_tuples u d (flipped_by u k₀ base k ch (cell_of u cells) n c b d) []) % modulus

unfoldable pub AllPortsGive : ℕ → List ℕ → List ℕ → List ℕ → List ℕ → List ℕ → List ℕ → List ℕ → ℕ → ℕ → ℕ → ℕ → List ℕ → List ℕ → ℕ → Type 0
AllPortsGive u bytes firsts ends uses masks sizes cells i d members resized before after r =
    (sets : ℕ) (n : Node) (c s : Forest) (b : ℕ) (flips resizes : ℕ → Bool)
    → FlipSettled u sets masks sizes cells
    → FlatTree u sets bytes firsts ends uses cells i (tree n c s) b d
    → Words flips resizes members resized
    → (k₀ : Configuration) (base : Change) → Resizes resizes base → Flipped (slice_index uses i) masks sizes base k₀
    → AllPortsAre u uses masks sizes cells i d flips resizes n c b k₀ base before after r
