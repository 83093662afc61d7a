-- Rules of every literal of a forest, for the laws of penalties.
use Rattle.std.specs.Prelude.{ℕ, ◌≤◌, ◌<◌}
use Rattle.logic.specs.Formula.{Node, Forest, none, tree, child_depth, Test, Literal, root, all, any, and, or, lit, isin, notin, port, size}

-- A rule that every node of a forest keeps, by the node, its children and its depth; the forest stands at depth d.
unfoldable pub Every : (Node → Forest → ℕ → Type 0) → Forest → ℕ → Type 0
Every R none d = Unit {0}
Every R (tree n c s) d = R n c d × Every R c (child_depth n d) × Every R s d

-- A rule of literals, as a rule of nodes.
unfoldable pub OfLiteral : (Literal → Type 0) → Node → Type 0
OfLiteral R root = Unit {0}
OfLiteral R all = Unit {0}
OfLiteral R any = Unit {0}
OfLiteral R and = Unit {0}
OfLiteral R or = Unit {0}
OfLiteral R (lit l) = R l

-- A rule of tests, as a rule of nodes.
abbrev pub OfTest : (Test → Type 0) → Node → Type 0
OfTest R n = OfLiteral (λ l. R l.test) n

-- "A variable's number is below the depth."
unfoldable pub VariablesBelow : ℕ → Test → Type 0
VariablesBelow d (isin v S) = v < d
VariablesBelow d (notin v S) = v < d
VariablesBelow d (port r v w) = (v < d) × (w < d)
VariablesBelow d (size r S c) = Unit {0}

unfoldable pub VariablesBound : Forest → ℕ → Type 0
VariablesBound f d = Every (λ n c i. OfTest (VariablesBelow i) n) f d

-- "Zero to 64 is the range of a size constant."
unfoldable pub ConstantLow : Test → Type 0
ConstantLow (isin v S) = Unit {0}
ConstantLow (notin v S) = Unit {0}
ConstantLow (port r v w) = Unit {0}
ConstantLow (size r S c) = c ≤ 64

unfoldable pub ConstantsLow : Forest → ℕ → Type 0
ConstantsLow f d = Every (λ n c i. OfTest ConstantLow n) f d

-- "n is the number of sets, 1 to 16, numbered from 0": a set's number is below n.
unfoldable pub SetBelow : ℕ → Test → Type 0
SetBelow sets (isin v S) = S < sets
SetBelow sets (notin v S) = S < sets
SetBelow sets (port r v w) = Unit {0}
SetBelow sets (size r S c) = S < sets

unfoldable pub SetsBelow : ℕ → Forest → ℕ → Type 0
SetsBelow sets f d = Every (λ n c i. OfTest (SetBelow sets) n) f d
