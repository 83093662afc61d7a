-- What filling the cells of some trees asks and gives: internal to the crate.
use Rattle.std.specs.Prelude.{◌≡◌, true, ◌⊎◌, List, [], ◌∷◌, ◌++◌, ℕ, ◌+◌, ◌-◌, ◌*◌, ◌^◌, ◌≤◌, min, eqb, length, get_or, take}
use Rattle.logic.specs.Formula.{Node, Forest, none, tree, Plan, kind_number, node_count, child_depth}
use Rattle.logic.specs.Configuration.{Configuration, configured, in_masks, mask_count, own_masks, spelled, all_within}
use Rattle.logic.specs.Truth.{Tuple}
use Rattle.logic.specs.Penalty.{below, penalty}
use Rattle.logic.specs.Cells.{cell_count, tuple_at, tabulate, layout, own_cells, cells as planCells}
use Rattle.table_format.specs.Bytes.{record_length, records}
use Rattle.table_format.specs.Rules.{tree_count, every_node, node_rule}
use Rattle.table_format.specs.Decode.{sound, decode}
use Rattle.cells_join.specs.inner.Joined.{join_into, join_of, spread_of}

-- The numbers directly below a cell, tree after tree.
unfoldable pub treewise : ℕ → Configuration → Node → Forest → Tuple → List ℕ
treewise u k n none e = []
treewise u k n (tree m c s) e = below u n e (λ x. penalty u k m c x ∷ []) ++ treewise u k n s e

abbrev pub config : ℕ → ℕ → List ℕ → Configuration
config u n masks = configured u n (in_masks masks)

-- The cells of a forest's nodes.
unfoldable pub table : ℕ → Configuration → Forest → ℕ → List ℕ
table u k f d = layout u (λ n c b i e. penalty u k n c e) f 0 d

-- Where the records of some trees stand, and their cells from place `at` on.
pub record TreesPlaced (l : List ℕ) (i ports sets depth width at : ℕ) (masks cells : List ℕ) : Type 0 where
  pub forest : Forest
  pub up : ℕ
  pub width_is : width ≡ ports ^ depth
  pub is : l ≡ records forest i up
  pub rules : every_node (node_rule sets) forest depth ≡ true
  pub few : cell_count ports forest 0 ≤ 1048576
  pub nodes : record_length * i + length l ≤ record_length * 512
  pub ports1 : 1 ≤ ports
  pub ports64 : ports ≤ 64
  pub depth4 : depth ≤ 4
  pub sets-masks : mask_count sets ≤ length masks
  pub within : all_within ports masks ≡ true
  pub room : at + cell_count ports forest depth ≤ length cells

-- The same below a node `parent`, whose cells are the first `over`. Below a quantifier stands one tree, right behind them.
pub record FillPlaced (l : List ℕ) (i above ports sets depth width over at : ℕ) (masks cells : List ℕ) : Type 0 where
  pub trees : TreesPlaced l i ports sets depth width at masks cells
  pub parent : Node
  pub outer : ℕ
  pub kind-is : kind_number parent ≡ above
  pub depth_is : depth ≡ child_depth parent outer
  pub over-is : over ≡ ports ^ outer
  pub after : over ≤ at
  pub alone : (spread_of above ports ≡ 1) ⊎ (tree_count trees.forest + min 1 (at - over) ≤ 1)

-- One tree's cells afterwards, r of them: the node's own and those below it, each its penalty; the rest as it was.
pub record TreeFilled (ports sets depth at : ℕ) (m : Node) (c : Forest) (masks before after : List ℕ) (r : ℕ) : Type 0 where
  pub count : r ≡ ports ^ depth + cell_count ports c (child_depth m depth)
  pub cells_are : (C X R : List ℕ) → before ≡ C ++ (X ++ R) → length C ≡ at → length X ≡ r
      → after ≡ C ++ (tabulate (ports ^ depth) (λ t. penalty ports (config ports sets masks) m c (tuple_at ports depth t)) ++ (table ports (config ports sets masks) c (child_depth m depth) ++ R))

unfoldable pub FillsTree : List ℕ → ℕ → ℕ → ℕ → ℕ → ℕ → List ℕ → List ℕ → List ℕ → ℕ → Type 0
FillsTree l i ports sets depth at masks before after r =
    (m : Node) (c s : Forest) (up : ℕ) → l ≡ records (tree m c s) i up → TreeFilled ports sets depth at m c masks before after r

-- The cells afterwards: the parent's joined with those of the trees, or written from them where the first of them is its first
-- child; what stood between as it was, the trees' own, and the rest as it was.
pub record Filled (above ports sets depth over at outer : ℕ) (n : Node) (f : Forest) (masks before after : List ℕ) (r : ℕ) : Type 0 where
  pub ends_at : r ≡ at + cell_count ports f depth
  pub cells_are : (A G X R : List ℕ) → before ≡ A ++ (G ++ (X ++ R)) → length A ≡ over → length A + length G ≡ at → length X ≡ cell_count ports f depth
      → after ≡ tabulate over (λ t. join_into (join_of above) (eqb at over) (get_or A t 0) (treewise ports (config ports sets masks) n f (tuple_at ports outer t)))
      ++ (G ++ (table ports (config ports sets masks) f depth ++ R))

unfoldable pub Fills : List ℕ → ℕ → ℕ → ℕ → ℕ → ℕ → ℕ → ℕ → List ℕ → List ℕ → List ℕ → ℕ → Type 0
Fills l i above ports sets depth over at masks before after r =
    (n : Node) (outer : ℕ) (f : Forest) (up : ℕ) → kind_number n ≡ above → depth ≡ child_depth n outer → over ≡ ports ^ outer → l ≡ records f i up
    → Filled above ports sets depth over at outer n f masks before after r

-- A table that passed its check, masks within the ports, and the plan's own cells.
pub record FillReady (bytes : List ℕ) (ports sets nodes : ℕ) (masks cells : List ℕ) : Type 0 where
  pub plan : Plan
  pub decodes : decode bytes ≡ sound plan
  pub ports-are : ports ≡ plan.ports
  pub sets-are : sets ≡ plan.sets
  pub nodes-are : nodes ≡ node_count plan.formula
  pub own-masks : mask_count sets ≤ length masks
  pub within : all_within ports (take (mask_count sets) masks) ≡ true
  pub own-cells : length cells ≡ own_cells plan

-- Every cell is Definition 5's penalty under the plan's own masks.
unfoldable pub FillsPlan : List ℕ → List ℕ → List ℕ → Type 0
FillsPlan bytes masks after =
    (P : Plan) → decode bytes ≡ sound P → after ≡ planCells P (spelled P (take (own_masks P) masks))
