-- What depends on the plan alone, node by node: ends, and which sets are used at or below a node; and a list laid into another.
use Rattle.std.specs.Prelude.{[], ◌∷◌, List, ◌++◌, suc, ◌*◌, ◌^◌, ℕ, ◌+◌, length, take, drop, replicate}
use Rattle.std.specs.Int.Bits.{bit_or}
use Rattle.logic.specs.Formula.{Test, isin, notin, port, size, Node, root, all, any, and, or, lit, Forest, none, tree, node_count}
use Rattle.table_format.specs.declared.Index.{Index}

-- The index before the check of a table.
unfoldable pub blank_index : Index
blank_index = record { firsts = replicate 512 0; ends = replicate 512 0; uses = replicate 512 0 }

-- A list with the numbers vs from place i on.
unfoldable pub laid : List ℕ → ℕ → List ℕ → List ℕ
laid l i vs = take i l ++ (vs ++ drop (i + length vs) l)

-- The ends of a forest's nodes, the first of which is numbered i.
unfoldable pub ends : Forest → ℕ → List ℕ
ends none i = []
ends (tree n c s) i = let end = i + suc (node_count c) in end ∷ (ends c (suc i) ++ ends s end)

-- Four bits a set: bits 0 to 2 say by which variables a membership literal tests it, bit 3 that a size literal is on it.
unfoldable pub test_uses : Test → ℕ
test_uses (isin v S) = 2 ^ (4 * S + v)
test_uses (notin v S) = 2 ^ (4 * S + v)
test_uses (port r v w) = 0
test_uses (size r S c) = 2 ^ (4 * S + 3)

unfoldable pub node_uses : Node → ℕ
node_uses root = 0
node_uses all = 0
node_uses any = 0
node_uses and = 0
node_uses or = 0
node_uses (lit l) = test_uses l.test

unfoldable pub forest_uses : Forest → ℕ
forest_uses none = 0
forest_uses (tree n c s) = bit_or (bit_or (node_uses n) (forest_uses c)) (forest_uses s)

-- The uses at or below each node of a forest.
unfoldable pub uses_table : Forest → List ℕ
uses_table none = []
uses_table (tree n c s) = bit_or (node_uses n) (forest_uses c) ∷ (uses_table c ++ uses_table s)
