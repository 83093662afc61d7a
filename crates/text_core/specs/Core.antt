-- The core formula of a text: paper 01, section Plan text, "Core".
use Rattle.std.specs.Prelude.{Bool, true, false, not, List, [], ◌∷◌, ℕ, length}
use Rattle.logic.specs.Formula.{Relation, lt, le, eq, ne, ge, gt, Test, isin, notin, port, size, Literal, literal_of, Node, root, all, any, and, or, lit, Forest, none, tree, Plan}
use Rattle.text_tree.specs.Tree.{Quantifier, forall, exists, Join, conj, disj, imp, rev, iff, Tree, leaf, neg, par, bind, join, Declared, letters_of}
use Rattle.text_core.specs.Names.{set_number, variable_number}

-- What stands directly above a part of the core: the root or a quantifier, which have one child, or a joint.
pub data Above : Type 0 where
  alone : Above
  inside : Bool → Above

-- A joint is "and" where its Bool is true, else "or".
unfoldable pub joint_node : Bool → Node
joint_node true = and
joint_node false = or

-- A part of the core puts its trees before its later siblings, as what stands above it asks.
abbrev pub Part : Type 0
Part = Above → Forest → Forest

-- "Then "and" in "and" and "or" in "or" are merged": a joint of what c puts down; inside its like it is c alone.
unfoldable pub joint : Bool → (Forest → Forest) → Part
joint j c alone s = tree (joint_node j) (c none) s
joint true c (inside true) s = c s
joint false c (inside true) s = tree or (c none) s
joint true c (inside false) s = tree and (c none) s
joint false c (inside false) s = c s

unfoldable pub two : Bool → Part → Part → Part
two j f g above s = joint j (λ r. f (inside j) (g (inside j) r)) above s

-- "to the opposite quantifier, relation or membership", where the polarity p is false.
unfoldable pub quantifier_node : Bool → Quantifier → Node
quantifier_node true forall = all
quantifier_node true exists = any
quantifier_node false forall = any
quantifier_node false exists = all

-- The relation that holds exactly where the given one fails.
unfoldable pub opposite : Relation → Relation
opposite lt = ge
opposite le = gt
opposite eq = ne
opposite ne = eq
opposite ge = lt
opposite gt = le

-- A relation, or its opposite.
unfoldable pub relation_at : Bool → Relation → Relation
relation_at true r = r
relation_at false r = opposite r

-- Membership, or its opposite.
unfoldable pub member_at : Bool → ℕ → ℕ → Test
member_at true v S = isin v S
member_at false v S = notin v S

-- The test by numbers in place of letters.
unfoldable pub test_at : List ℕ → List ℕ → Bool → Test → Test
test_at sets vars p (isin v S) = member_at p (variable_number vars v) (set_number sets S)
test_at sets vars p (notin v S) = member_at (not p) (variable_number vars v) (set_number sets S)
test_at sets vars p (port r v w) = port (relation_at p r) (variable_number vars v) (variable_number vars w)
test_at sets vars p (size r S c) = size (relation_at p r) (set_number sets S) c

-- The literal with its test so.
unfoldable pub literal_at : List ℕ → List ℕ → Bool → Literal → Literal
literal_at sets vars p l = literal_of (test_at sets vars p l.test)

-- "F->G is ~F|G, F<-G is F|~G, F<->G is (~F|G)&(F|~G)", and De Morgan's "or" for "and" where p is false. F and G are
-- given at both polarities, and `pair` makes the "and" or the "or" of two parts.
unfoldable pub join_with {ℓ} : {X : Type ℓ} → (Bool → X → X → X) → Join → Bool → (Bool → X) → (Bool → X) → X
join_with pair conj p F G = pair p (F p) (G p)
join_with pair disj p F G = pair (not p) (F p) (G p)
join_with pair imp p F G = pair (not p) (F (not p)) (G p)
join_with pair rev p F G = pair (not p) (F p) (G (not p))
join_with pair iff p F G = pair p (pair (not p) (F (not p)) (G p)) (pair (not p) (F p) (G (not p)))

-- The core of a part of the text, or of its negation where p is false; vars are the letters bound around it.
unfoldable pub place : List ℕ → List ℕ → Bool → Tree → Part
place sets vars p (leaf l) above s = tree (lit (literal_at sets vars p l)) none s
place sets vars p (neg a) above s = place sets vars (not p) a above s
place sets vars p (par a) above s = place sets vars p a above s
place sets vars p (bind q v a) above s = tree (quantifier_node p q) (place sets (v ∷ vars) p a alone none) s
place sets vars p (join j a b) above s = join_with two j p (λ i. place sets vars i a) (λ i. place sets vars i b) above s

unfoldable pub core_of : List ℕ → Tree → Forest
core_of sets a = tree root (place sets [] true a alone none) none

-- The plan that a text says.
unfoldable pub plan_of : ℕ → List Declared → Tree → Plan
plan_of u sets a = record { ports = u; sets = length sets; formula = core_of (letters_of sets) a }
