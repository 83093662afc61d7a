-- Core formulas and plans: paper 01, section Plan table, without its bytes.
use Rattle.std.specs.Prelude.{ℕ, zero, suc, ◌+◌}

-- "Relation (kinds 7, 8): 0 <, 1 <=, 2 =, 3 !=, 4 >=, 5 >."
pub data Relation : Type 0 where
  lt le eq ne ge gt : Relation

unfoldable pub relation_number : Relation → ℕ
relation_number lt = 0
relation_number le = 1
relation_number eq = 2
relation_number ne = 3
relation_number ge = 4
relation_number gt = 5

-- The relation of a number; the plan table's rule keeps the number at most 5.
unfoldable pub relation_of : ℕ → Relation
relation_of zero = lt
relation_of (suc zero) = le
relation_of (suc (suc zero)) = eq
relation_of (suc (suc (suc zero))) = ne
relation_of (suc (suc (suc (suc zero)))) = ge
relation_of (suc (suc (suc (suc (suc r))))) = gt

-- What a literal asks, in the order of Definition 5, cases (f) to (i): port comparison, size, in, not in. "Kind 7: a and b
-- are variables. Kind 8: a is a set, b the constant." "Kinds 5, 6: a is a variable, b a set." "A variable is numbered by its
-- quantifier, the outermost being 0."
pub data Test : Type 0 where
  port size : Relation → ℕ → ℕ → Test
  isin notin : ℕ → ℕ → Test

-- A literal: its test. (2026-06 puts the weight beside it.)
pub record Literal : Type 0 where
  pub test : Test

-- The literal of a test. Nothing else makes one.
unfoldable pub literal_of : Test → Literal
literal_of t = record { test = t }

pub data Node : Type 0 where
  root all any and or : Node
  lit : Literal → Node

-- "Kinds: [..] 5 in, 6 not in, 7 port comparison, 8 size."
unfoldable pub test_kind : Test → ℕ
test_kind (isin v S) = 5
test_kind (notin v S) = 6
test_kind (port r v w) = 7
test_kind (size r S c) = 8

-- "Kinds: 0 root, 1 for all, 2 exists, 3 and, 4 or", then those of literals.
unfoldable pub kind_number : Node → ℕ
kind_number root = 0
kind_number all = 1
kind_number any = 2
kind_number and = 3
kind_number or = 4
kind_number (lit l) = test_kind l.test

-- A node, its children, its later siblings. "Nodes stand parent first, children in text order": the preorder of a forest
-- is the table's order, and the records of a subtree stand together.
pub data Forest : Type 0 where
  none : Forest
  tree : Node → Forest → Forest → Forest

unfoldable pub node_count : Forest → ℕ
node_count none = 0
node_count (tree n c s) = suc (node_count c) + node_count s

-- "u is the number of ports"; "n is the number of sets, numbered from 0".
pub record Plan : Type 0 where
  pub ports : ℕ
  pub sets : ℕ
  pub formula : Forest

-- "Depth is the number of quantifiers strictly above a node": the depth of the children of a node of depth d.
unfoldable pub child_depth : Node → ℕ → ℕ
child_depth root d = d
child_depth all d = suc d
child_depth any d = suc d
child_depth and d = d
child_depth or d = d
child_depth (lit l) d = d
