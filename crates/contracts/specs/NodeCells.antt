-- "One more call hands back a node's cells as a part of the caller's cell table. It is never refused and has no number: an empty
-- part means that 11, 12 or a node past the count applies." (paper 01, section One move)
use Rattle.std.specs.Prelude.{◌≡◌, cond, ◌||◌, List, [], ◌∷◌, ◌++◌, ℕ, ◌+◌, ◌^◌, ◌≤◌, leb, ltb, length, get_or, take, drop}
use Rattle.logic.specs.Formula.{Forest, none, tree, Plan, node_count, child_depth}
use Rattle.logic.specs.Cells.{own_cells, first_cells}
use Rattle.table_format.specs.Decode.{Decoded, broken, sound}
use Rattle.contracts.specs.declared.Part.{Part}

-- "A node of depth d has u^d cells", for each node in the table's order.
unfoldable pub widths : ℕ → Forest → ℕ → List ℕ
widths u none d = []
widths u (tree n c s) d = u ^ d ∷ (widths u c (child_depth n d) ++ widths u s d)

-- "the cells of one node stand together from its first cell": where a node's cells begin in a table of so many cells and how many
-- they are. (0, 0) where 12 or a node past the count applies.
unfoldable pub plan_bounds : Plan → ℕ → ℕ → ℕ × ℕ
plan_bounds P cells-length node =
    cond (ltb cells-length (own_cells P) || leb (node_count P.formula) node) (0, 0)
    (get_or (first_cells P.ports P.formula 0 0) node 0, get_or (widths P.ports P.formula 0) node 0)

-- The same of the bytes of a table: (0, 0) where 11 applies.
abbrev pub node_bounds : Decoded → ℕ → ℕ → ℕ × ℕ
node_bounds broken cells-length node = (0, 0)
node_bounds (sound P) cells-length node = plan_bounds P cells-length node

-- "hands back a node's cells as a part of the caller's cell table"
unfoldable pub node_cells : Decoded → List ℕ → ℕ → List ℕ
node_cells d cells node = take (node_bounds d (length cells) node).1 (drop (node_bounds d (length cells) node).0 cells)

-- A part by its place and its length, which lies in the caller's cell table.
pub record PartGives (d : Decoded) (cells-length node : ℕ) (r : Part) : Type 0 where
  pub first-is : r.first ≡ (node_bounds d cells-length node).0
  pub count-is : r.count ≡ (node_bounds d cells-length node).1
  pub within : r.first + r.count ≤ cells-length
