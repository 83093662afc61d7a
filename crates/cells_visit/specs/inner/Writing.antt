-- What the walk that writes in place leaves in the table, beside what the reading walk gives.
use Rattle.std.specs.Prelude.{◌≡◌, List, ℕ, suc, ◌+◌, ◌≤◌, length}
use Rattle.logic.specs.Formula.{Node, Forest, none, tree, node_count}
use Rattle.logic.specs.Configuration.{configured, in_masks}
use Rattle.logic.specs.Truth.{Tuple}
use Rattle.logic.specs.Change.{Change}
use Rattle.cells_touch.specs.declared.Changed.{Changed}
use Rattle.table_format.specs.Rules.{tree_count}
use Rattle.cells_walk.specs.inner.Below.{Only, Row, Wrote}
use Rattle.cells_walk.specs.inner.Visit.{Visit, RowVisit}
use Rattle.cells_visit.specs.inner.Walking.{WalkReady, OldRow, RowReady}

-- The walk stands before a node's row, has room for its new numbers, and has kept the old ones.
pub record RowWriteReady (u sets : ℕ) (c : Changed) (bytes firsts ends uses masks cells : List ℕ) (i d row digits word : ℕ) (old out : List ℕ) : Type 0 where
  pub begins : RowReady u sets c bytes firsts ends uses masks cells i d row digits word out
  pub old_row : OldRow u firsts cells i row old
  pub old-room : u ≤ length old

-- The cells at or below one cell hold their new numbers, and no other place is written: `old` is the table before, `new` after.
unfoldable pub CellWrites : ℕ → ℕ → Changed → List ℕ → List ℕ → List ℕ → List ℕ → List ℕ → List ℕ → ℕ → ℕ → ℕ → ℕ → ℕ → List ℕ → Type 0
CellWrites u sets c bytes firsts ends uses masks old i d place digits word new =
    (ch : Change) (n : Node) (f s : Forest) (b : ℕ) (e : Tuple) → WalkReady u sets c masks old ch
    → Visit u sets ch bytes firsts ends uses old i (tree n f s) b d e place digits word
    → Wrote u (configured u sets (in_masks masks)) ch (tree n f none) b d (Only e) old new

-- The same of the trees of a forest, which end at node `until`.
unfoldable pub TreesWrite : ℕ → ℕ → Changed → List ℕ → List ℕ → List ℕ → List ℕ → List ℕ → List ℕ → ℕ → ℕ → ℕ → ℕ → ℕ → ℕ → List ℕ → Type 0
TreesWrite u sets c bytes firsts ends uses masks old i until d place digits word new =
    (ch : Change) (f : Forest) (b : ℕ) (e : Tuple) → WalkReady u sets c masks old ch
    → Visit u sets ch bytes firsts ends uses old i f b d e place digits word → until ≡ i + node_count f
    → Wrote u (configured u sets (in_masks masks)) ch f b d (Only e) old new

-- The same of the tree below a quantifier at depth d, at each port.
unfoldable pub PortsWrite : ℕ → ℕ → Changed → List ℕ → List ℕ → List ℕ → List ℕ → List ℕ → List ℕ → ℕ → ℕ → ℕ → ℕ → ℕ → List ℕ → Type 0
PortsWrite u sets c bytes firsts ends uses masks old i d row digits word new =
    (ch : Change) (f : Forest) (b : ℕ) (e : Tuple) → WalkReady u sets c masks old ch
    → RowVisit u sets ch bytes firsts ends uses old i f b d e row digits word → tree_count f ≡ 1
    → Wrote u (configured u sets (in_masks masks)) ch f b (suc d) (Row u e) old new

-- The same of a node's row, and of the rows of a forest's trees.
unfoldable pub RowWrites : ℕ → ℕ → Changed → List ℕ → List ℕ → List ℕ → List ℕ → List ℕ → List ℕ → ℕ → ℕ → ℕ → ℕ → ℕ → List ℕ → Type 0
RowWrites u sets c bytes firsts ends uses masks old i d row digits word new =
    (ch : Change) (n : Node) (f s : Forest) (b : ℕ) (e : Tuple) → WalkReady u sets c masks old ch
    → RowVisit u sets ch bytes firsts ends uses old i (tree n f s) b d e row digits word
    → Wrote u (configured u sets (in_masks masks)) ch (tree n f none) b (suc d) (Row u e) old new

unfoldable pub RowTreesWrite : ℕ → ℕ → Changed → List ℕ → List ℕ → List ℕ → List ℕ → List ℕ → List ℕ → ℕ → ℕ → ℕ → ℕ → ℕ → ℕ → List ℕ → Type 0
RowTreesWrite u sets c bytes firsts ends uses masks old i until d row digits word new =
    (ch : Change) (f : Forest) (b : ℕ) (e : Tuple) → WalkReady u sets c masks old ch
    → RowVisit u sets ch bytes firsts ends uses old i f b d e row digits word → until ≡ i + node_count f
    → Wrote u (configured u sets (in_masks masks)) ch f b (suc d) (Row u e) old new
