-- The rules of a plan: paper 01, section Plan table. Kinds, relations, parents, ends and unused fields are right where the
-- bytes are a plan's encoding; these are the other rules.
use Rattle.std.specs.Prelude.{Bool, true, false, cond, not, ◌&&◌, ℕ, suc, eqb, leb, ltb}
use Rattle.logic.specs.Formula.{Test, isin, notin, port, size, Literal, Node, root, all, any, and, or, lit, Forest, none, tree, Plan, kind_number, node_count, child_depth}
use Rattle.logic.specs.Cells.{own_cells}

-- A rule for every node of a forest at depth d, by the node, its children and its depth.
unfoldable pub every_node : (Node → Forest → ℕ → Bool) → Forest → ℕ → Bool
every_node rule none d = true
every_node rule (tree n c s) d = rule n c d && every_node rule c (child_depth n d) && every_node rule s d

unfoldable pub tree_count : Forest → ℕ
tree_count none = 0
tree_count (tree n c s) = suc (tree_count s)

-- "Root and quantifiers have one child, and/or two or more, literals none": kinds 0 to 2, 3 and 4, 5 to 8.
unfoldable pub arity_rule : ℕ → ℕ → Bool
arity_rule kind children = cond (leb kind 2) (eqb children 1) (cond (leb kind 4) (leb 2 children) (eqb children 0))

-- "No "and" is a child of "and", no "or" of "or"": by the kind above and the node's kind.
unfoldable pub may_nest : ℕ → ℕ → Bool
may_nest above kind = not (eqb above kind && leb 3 above && leb above 4)

unfoldable pub nesting_rule : ℕ → Forest → Bool
nesting_rule above none = true
nesting_rule above (tree n c s) = may_nest above (kind_number n) && nesting_rule above s

-- "Depth [..] at most 3."
unfoldable pub depth_rule : ℕ → Bool
depth_rule d = leb d 3

-- "A variable's number is below the depth"; a set's number is below n; "Zero to 64 is the range of a size constant."
unfoldable pub test_rule : ℕ → ℕ → Test → Bool
test_rule sets d (isin v S) = ltb v d && ltb S sets
test_rule sets d (notin v S) = ltb v d && ltb S sets
test_rule sets d (port r v w) = ltb v d && ltb w d
test_rule sets d (size r S c) = ltb S sets && leb c 64

-- A literal at depth d keeps its test's rule.
unfoldable pub literal_rule : ℕ → ℕ → Literal → Bool
literal_rule sets d l = test_rule sets d l.test

-- "and only node 0 is a root": a node below it.
unfoldable pub inner_rule : ℕ → Node → ℕ → Bool
inner_rule sets root d = false
inner_rule sets all d = true
inner_rule sets any d = true
inner_rule sets and d = true
inner_rule sets or d = true
inner_rule sets (lit l) d = literal_rule sets d l

unfoldable pub node_rule : ℕ → Node → Forest → ℕ → Bool
node_rule sets n c d =
    inner_rule sets n d && depth_rule d && arity_rule (kind_number n) (tree_count c) && nesting_rule (kind_number n) c

-- The formula is one root over nodes that keep their rules.
unfoldable pub formula_rule : ℕ → Forest → Bool
formula_rule sets none = false
formula_rule sets (tree n c s) =
    eqb (kind_number n) 0 && eqb (tree_count s) 0 && arity_rule (kind_number n) (tree_count c) && every_node (node_rule sets) c 0

-- "u is the number of ports, 1 to 64"; "n is the number of sets, 1 to 16"; "node count (2 to 512)"; "A plan has at most
-- 1,048,576 cells."
unfoldable pub most_cells : ℕ
most_cells = 1048576

unfoldable pub plan_rule : Plan → Bool
plan_rule P =
    leb 1 P.ports && leb P.ports 64 && leb 1 P.sets && leb P.sets 16
    && leb 2 (node_count P.formula) && leb (node_count P.formula) 512
    && formula_rule P.sets P.formula && leb (own_cells P) most_cells
