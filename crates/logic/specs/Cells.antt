-- The cell table: paper 01, section Plan table. "A node of depth d has u^d cells."
use Rattle.std.specs.Prelude.{List, [], ◌∷◌, ◌++◌, ℕ, zero, suc, ◌+◌, ◌*◌, ◌^◌, ◌/◌, ◌%◌, get_or}
use Rattle.logic.specs.Formula.{Node, Forest, none, tree, Plan, child_depth}
use Rattle.logic.specs.Configuration.{Configuration}
use Rattle.logic.specs.Truth.{Tuple}
use Rattle.logic.specs.Penalty.{penalty}

-- The number of cells of a forest that stands at depth d.
unfoldable pub cell_count : ℕ → Forest → ℕ → ℕ
cell_count u none d = 0
cell_count u (tree n c s) d = u ^ d + cell_count u c (child_depth n d) + cell_count u s d

-- "in rising order of their tuples, the outermost variable counting most": the place of a tuple among the tuples of its
-- length, and the tuple of length d at a place.
unfoldable pub place_of : ℕ → Tuple → ℕ
place_of u [] = 0
place_of u (p ∷ e) = place_of u e * u + p

unfoldable pub tuple_at : ℕ → ℕ → ℕ → Tuple
tuple_at u zero i = []
tuple_at u (suc d) i = (i % u) ∷ tuple_at u d (i / u)

unfoldable pub tabulate : ℕ → (ℕ → ℕ) → List ℕ
tabulate zero g = []
tabulate (suc m) g = tabulate m g ++ (g m ∷ [])

-- A number for each cell, by its node, the node's children, the node's first cell and depth, and the tuple.
abbrev pub CellRule : Type 0
CellRule = Node → Forest → ℕ → ℕ → Tuple → ℕ

-- The first cell of a node's next sibling, where b is the node's first cell and d its depth.
unfoldable pub sibling_first : ℕ → Node → Forest → ℕ → ℕ → ℕ
sibling_first u n c b d = b + u ^ d + cell_count u c (child_depth n d)

-- "Nodes follow one another in the cell table; the cells of one node stand together from its first cell."
unfoldable pub layout : ℕ → CellRule → Forest → ℕ → ℕ → List ℕ
layout u g none b d = []
layout u g (tree n c s) b d =
    tabulate (u ^ d) (λ i. g n c b d (tuple_at u d i))
    ++ (layout u g c (b + u ^ d) (child_depth n d) ++ layout u g s (sibling_first u n c b d) d)

-- The number of a plan's own cells.
unfoldable pub own_cells : Plan → ℕ
own_cells P = cell_count P.ports P.formula 0

-- "each cell holds the penalty of Definition 5": the plan's cells under a configuration. The root is the first.
unfoldable pub cells : Plan → Configuration → List ℕ
cells P k = layout P.ports (λ n c b d e. penalty P.ports k n c e) P.formula 0 0

unfoldable pub root_penalty : Plan → Configuration → ℕ
root_penalty P k = get_or (cells P k) 0 0

-- The first cells of a forest's nodes, in the table's order: b is the forest's first cell and d its depth.
unfoldable pub first_cells : ℕ → Forest → ℕ → ℕ → List ℕ
first_cells u none b d = []
first_cells u (tree n c s) b d = b ∷ (first_cells u c (b + u ^ d) (child_depth n d) ++ first_cells u s (sibling_first u n c b d) d)
