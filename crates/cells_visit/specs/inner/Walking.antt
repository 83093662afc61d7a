-- What the walk that only reads asks and gives; the one that writes asks and gives the same, and more.
use Rattle.std.specs.Prelude.{◌≡◌, Bool, true, false, ◌&&◌, List, ℕ, ◌+◌, ◌≤◌, ◌<◌, leb, length, get_or}
use Rattle.logic.specs.Formula.{Node, Forest, tree, node_count}
use Rattle.logic.specs.Configuration.{configured, in_masks}
use Rattle.logic.specs.Truth.{Tuple}
use Rattle.logic.specs.Change.{Change, modulus, cell_of}
use Rattle.table_format.specs.Bytes.{kind_field, record_at}
use Rattle.table_format.specs.Rules.{tree_count}
use Rattle.cells_touch.specs.declared.Changed.{Changed}
use Rattle.cells_touch.specs.inner.Hits.{Describes, meets, rest_word}
use Rattle.cells_sum.specs.declared.After.{After}
use Rattle.cells_sum.specs.declared.Sum.{Sum}
use Rattle.cells_walk.specs.inner.Visit.{Visit, MasksSettled, CellsFit, CellAfter, TreesAfter, RowVisit, PortsAfter, RowAfter, RowJoined, RowTreesAfter}

-- The change, the masks after it, and the cells before it.
pub record WalkReady (u sets : ℕ) (c : Changed) (masks cells : List ℕ) (change : Change) : Type 0 where
  pub says : Describes u change c
  pub masks-settled : MasksSettled u sets masks
  pub cells_fit : CellsFit cells

-- The walk stands before a node's cell.
pub record CellReady (u sets : ℕ) (c : Changed) (bytes firsts ends uses masks cells : List ℕ) (i d place digits word : ℕ) : Type 0 where
  pub change : Change
  pub node : Node
  pub children : Forest
  pub siblings : Forest
  pub first : ℕ
  pub tuple : Tuple
  pub ready : WalkReady u sets c masks cells change
  pub visit : Visit u sets change bytes firsts ends uses cells i (tree node children siblings) first d tuple place digits word

unfoldable pub CellGives : ℕ → ℕ → Changed → List ℕ → List ℕ → List ℕ → List ℕ → List ℕ → List ℕ → ℕ → ℕ → ℕ → ℕ → ℕ → After → Type 0
CellGives u sets c bytes firsts ends uses masks cells i d place digits word r =
    (ch : Change) (n : Node) (f s : Forest) (b : ℕ) (e : Tuple) → WalkReady u sets c masks cells ch
    → Visit u sets ch bytes firsts ends uses cells i (tree n f s) b d e place digits word
    → CellAfter u (configured u sets (in_masks masks)) ch (cell_of u cells) n f b d e r

-- The cell is touched.
pub record CellTouched (u sets : ℕ) (c : Changed) (bytes firsts ends uses masks cells : List ℕ) (i d place digits word : ℕ) : Type 0 where
  pub begins : CellReady u sets c bytes firsts ends uses masks cells i d place digits word
  pub touched : meets (get_or uses i 0) word ≡ true

-- The cell is touched, and its node binds a variable.
pub record QuantifierReady (u sets : ℕ) (c : Changed) (bytes firsts ends uses masks cells : List ℕ) (i d place digits word : ℕ) : Type 0 where
  pub cell : CellTouched u sets c bytes firsts ends uses masks cells i d place digits word
  pub quantifier : (leb 1 (kind_field (record_at bytes i)) && leb (kind_field (record_at bytes i)) 2) ≡ true

-- The walk stands before the trees of a forest, which end at node `until`.
pub record TreesReady (u sets : ℕ) (c : Changed) (bytes firsts ends uses masks cells : List ℕ) (i until d place digits word : ℕ) (acc : Sum) : Type 0 where
  pub change : Change
  pub forest : Forest
  pub first : ℕ
  pub tuple : Tuple
  pub ready : WalkReady u sets c masks cells change
  pub visit : Visit u sets change bytes firsts ends uses cells i forest first d tuple place digits word
  pub ends_at : until ≡ i + node_count forest
  pub few : acc.changed < modulus

unfoldable pub TreesGive : ℕ → ℕ → Changed → List ℕ → List ℕ → List ℕ → List ℕ → List ℕ → List ℕ → ℕ → ℕ → ℕ → ℕ → ℕ → ℕ → Bool → Sum → Sum → Type 0
TreesGive u sets c bytes firsts ends uses masks cells i until d place digits word add acc r =
    (ch : Change) (f : Forest) (b : ℕ) (e : Tuple) → WalkReady u sets c masks cells ch
    → Visit u sets ch bytes firsts ends uses cells i f b d e place digits word → until ≡ i + node_count f
    → TreesAfter u (configured u sets (in_masks masks)) ch (cell_of u cells) add f b d e acc r

-- The walk stands below a quantifier at depth d, before the tree of its one child at each port.
pub record PortsReady (u sets : ℕ) (c : Changed) (bytes firsts ends uses masks cells : List ℕ) (i d row digits word : ℕ) (acc : Sum) : Type 0 where
  pub change : Change
  pub forest : Forest
  pub first : ℕ
  pub tuple : Tuple
  pub ready : WalkReady u sets c masks cells change
  pub visit : RowVisit u sets change bytes firsts ends uses cells i forest first d tuple row digits word
  pub one : tree_count forest ≡ 1
  pub low : acc.value < modulus
  pub few : acc.changed < modulus

unfoldable pub PortsSo : ℕ → ℕ → Changed → List ℕ → List ℕ → List ℕ → List ℕ → List ℕ → List ℕ → ℕ → ℕ → ℕ → ℕ → ℕ → Bool → ℕ → Sum → Sum → Type 0
PortsSo u sets c bytes firsts ends uses masks cells i d row digits word add m acc r =
    (ch : Change) (f : Forest) (b : ℕ) (e : Tuple) → WalkReady u sets c masks cells ch
    → RowVisit u sets ch bytes firsts ends uses cells i f b d e row digits word → tree_count f ≡ 1
    → PortsAfter u (configured u sets (in_masks masks)) ch (cell_of u cells) add f b d e m acc r

-- The same where only the ports of the change can be touched.
pub record PairReady (u sets : ℕ) (c : Changed) (bytes firsts ends uses masks cells : List ℕ) (i d row digits word : ℕ) (acc : Sum) : Type 0 where
  pub ports : PortsReady u sets c bytes firsts ends uses masks cells i d row digits word acc
  pub few : meets (get_or uses i 0) (rest_word word d) ≡ false

-- Numbers that are a node's row before the change.
pub record OldRow (u : ℕ) (firsts cells : List ℕ) (i row : ℕ) (old : List ℕ) : Type 0 where
  pub is : (x : ℕ) → x < u → get_or old x 0 ≡ get_or cells (get_or firsts i 0 + (row + x)) 0

-- The walk stands before a node's row, and has room for its new numbers.
pub record RowReady (u sets : ℕ) (c : Changed) (bytes firsts ends uses masks cells : List ℕ) (i d row digits word : ℕ) (out : List ℕ) : Type 0 where
  pub change : Change
  pub node : Node
  pub children : Forest
  pub siblings : Forest
  pub first : ℕ
  pub tuple : Tuple
  pub ready : WalkReady u sets c masks cells change
  pub visit : RowVisit u sets change bytes firsts ends uses cells i (tree node children siblings) first d tuple row digits word
  pub room : u ≤ length out

unfoldable pub RowGives : ℕ → ℕ → Changed → List ℕ → List ℕ → List ℕ → List ℕ → List ℕ → List ℕ → ℕ → ℕ → ℕ → ℕ → ℕ → List ℕ → ℕ → Type 0
RowGives u sets c bytes firsts ends uses masks cells i d row digits word out changed =
    (ch : Change) (n : Node) (f s : Forest) (b : ℕ) (e : Tuple) → WalkReady u sets c masks cells ch
    → RowVisit u sets ch bytes firsts ends uses cells i (tree n f s) b d e row digits word
    → RowAfter u (configured u sets (in_masks masks)) ch (cell_of u cells) n f b d e out changed

-- The same where the row holds the old numbers and is renewed cell by cell: at every port, or at those of the change where no
-- other can be touched.
pub record RowCellsReady (u sets : ℕ) (c : Changed) (bytes firsts ends uses masks cells : List ℕ) (i d row digits word : ℕ) (every : Bool) (out : List ℕ) : Type 0 where
  pub begins : RowReady u sets c bytes firsts ends uses masks cells i d row digits word out
  pub old_row : OldRow u firsts cells i row out
  pub few : every ≡ false → meets (get_or uses i 0) (rest_word word d) ≡ false

-- The walk stands before a node's row, which goes into a row of sums or minima.
pub record RowJoinReady (u sets : ℕ) (c : Changed) (bytes firsts ends uses masks cells : List ℕ) (i d row digits word : ℕ) (out : List ℕ) : Type 0 where
  pub begins : RowReady u sets c bytes firsts ends uses masks cells i d row digits word out
  pub low : (x : ℕ) → x < u → get_or out x 0 < modulus

unfoldable pub RowJoins : ℕ → ℕ → Changed → List ℕ → List ℕ → List ℕ → List ℕ → List ℕ → List ℕ → ℕ → ℕ → ℕ → ℕ → ℕ → Bool → List ℕ → List ℕ → ℕ → Type 0
RowJoins u sets c bytes firsts ends uses masks cells i d row digits word add acc out changed =
    (ch : Change) (n : Node) (f s : Forest) (b : ℕ) (e : Tuple) → WalkReady u sets c masks cells ch
    → RowVisit u sets ch bytes firsts ends uses cells i (tree n f s) b d e row digits word
    → RowJoined u (configured u sets (in_masks masks)) ch (cell_of u cells) add n f b d e acc out changed

-- The walk stands before the rows of a forest's trees, which end at node `until`.
pub record RowTreesReady (u sets : ℕ) (c : Changed) (bytes firsts ends uses masks cells : List ℕ) (i until d row digits word : ℕ) (out : List ℕ) (before : ℕ) : Type 0 where
  pub change : Change
  pub forest : Forest
  pub first : ℕ
  pub tuple : Tuple
  pub ready : WalkReady u sets c masks cells change
  pub visit : RowVisit u sets change bytes firsts ends uses cells i forest first d tuple row digits word
  pub ends_at : until ≡ i + node_count forest
  pub room : u ≤ length out
  pub low : (x : ℕ) → x < u → get_or out x 0 < modulus
  pub few : before < modulus

unfoldable pub RowTreesGive : ℕ → ℕ → Changed → List ℕ → List ℕ → List ℕ → List ℕ → List ℕ → List ℕ → ℕ → ℕ → ℕ → ℕ → ℕ → ℕ → Bool → List ℕ → ℕ → List ℕ → ℕ → Type 0
RowTreesGive u sets c bytes firsts ends uses masks cells i until d row digits word add acc before out changed =
    (ch : Change) (f : Forest) (b : ℕ) (e : Tuple) → WalkReady u sets c masks cells ch
    → RowVisit u sets ch bytes firsts ends uses cells i f b d e row digits word → until ≡ i + node_count f
    → RowTreesAfter u (configured u sets (in_masks masks)) ch (cell_of u cells) add f b d e acc before out changed
