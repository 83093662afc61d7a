-- The text of a plan, as a tree: paper 02, request 2026-02. Letters stand for numbers, and brackets where the grammar needs them.
use Rattle.std.specs.Prelude.{Bool, true, false, List, [], ◌∷◌, ℕ, zero, suc, ◌+◌, ltb}
use Rattle.logic.specs.Formula.{Test, isin, notin, port, size, Literal, literal_of, Node, root, all, any, and, or, lit, Forest, none, tree, Plan, child_depth}
use Rattle.text_tree.specs.Tree.{forall, exists, Join, conj, disj, Tree, leaf, par, bind, join, Declared, leaf_of}
use Rattle.text_grammar.specs.Grammar.{Level, unit, conjunction, disjunction, formula}
use Rattle.text_grammar.specs.Parser.{rank}

-- "The writer names sets from A": the byte of a set's letter.
unfoldable pub set_byte : ℕ → ℕ
set_byte S = 65 + S

-- "variables a, b, c by number"
unfoldable pub variable_byte : ℕ → ℕ
variable_byte v = 97 + v

-- "The writer names sets from A, variables a, b, c by number": a literal's test by letters in place of numbers.
unfoldable pub lettered_test : Test → Test
lettered_test (isin v S) = isin (variable_byte v) (set_byte S)
lettered_test (notin v S) = notin (variable_byte v) (set_byte S)
lettered_test (port r v w) = port r (variable_byte v) (variable_byte w)
lettered_test (size r S c) = size r (set_byte S) c

-- The literal with its test so.
unfoldable pub lettered_literal : Literal → Literal
lettered_literal l = literal_of (lettered_test l.test)

-- "A disjunction joins conjunctions by `|`; a conjunction joins units by `&`. A unit is [..] `@v` unit (for all), `?v` unit (exists),
-- [..] or a literal" (01): the level of the grammar at which a node's text stands without brackets.
unfoldable pub own_level : Node → Level
own_level root = formula
own_level all = unit
own_level any = unit
own_level and = conjunction
own_level or = disjunction
own_level (lit l) = unit

-- The level that the same sentences ask of each child of a node; the root's child is the formula.
unfoldable pub child_level : Node → Level
child_level root = formula
child_level all = unit
child_level any = unit
child_level and = unit
child_level or = conjunction
child_level (lit l) = unit

-- "brackets only where the grammar needs them": a node below another, if it stands at a higher level than is asked there.
unfoldable pub needs_brackets : Node → Node → Bool
needs_brackets above n = ltb (rank (child_level above)) (rank (own_level n))

-- "a bracketed formula" (01), or the part as it is.
unfoldable pub enclosed : Bool → Tree → Tree
enclosed true a = par a
enclosed false a = a

-- A node of depth d over the tree of its children. "A variable is numbered by its quantifier, the outermost being 0": by its depth.
unfoldable pub node_tree : Node → ℕ → Tree → Tree
node_tree root d a = a
node_tree all d a = bind forall (variable_byte d) a
node_tree any d a = bind exists (variable_byte d) a
node_tree and d a = a
node_tree or d a = a
node_tree (lit l) d a = leaf (lettered_literal l)

-- "joins conjunctions by `|`", "joins units by `&`" (01): what joins the children of a node. Only "and" and "or" have several.
unfoldable pub join_of : Node → Join
join_of root = conj
join_of all = conj
join_of any = conj
join_of and = conj
join_of or = disj
join_of (lit l) = conj

-- A tree, joined to that of its later siblings if it has any: a & b & c is a & (b & c), as the reader has it.
unfoldable pub beside : Join → Tree → Forest → Tree → Tree
beside j a none b = a
beside j a (tree n c s) b = join j a b

-- The tree of the children of a node `above`, which have depth d. A node without children is a literal, whose tree is its own: of
-- none nothing is written, and the leaf that stands for it is in no text.
unfoldable pub children_tree : Node → Forest → ℕ → Tree
children_tree above none d = leaf_of (isin 0 0)
children_tree above (tree n c s) d =
    beside (join_of above) (enclosed (needs_brackets above n) (node_tree n d (children_tree n c (child_depth n d)))) s (children_tree above s d)

-- The tree of a plan's text.
unfoldable pub tree_of : Plan → Tree
tree_of P = children_tree root P.formula 0

-- n sets by the letters from a byte on.
unfoldable pub sets_from : ℕ → ℕ → List Declared
sets_from letter zero = []
sets_from letter (suc n) = record { letter = letter } ∷ sets_from (suc letter) n

-- "The writer names sets from A": all sets of the plan are declared, used or not.
unfoldable pub sets_of : Plan → List Declared
sets_of P = sets_from (set_byte 0) P.sets
