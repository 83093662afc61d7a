-- "Truth is the ordinary meaning of the formula, defined without penalties." (paper 01, section Penalty)
use Rattle.std.specs.Prelude.{◌≡◌, ◌≢◌, ◌⊎◌, true, false, cond, List, [], ◌∷◌, ℕ, ◌≤◌, ◌<◌, eqb, length}
use Rattle.logic.specs.Formula.{Relation, lt, le, eq, ne, ge, gt, Test, isin, notin, port, size, Node, root, all, any, and, or, lit, Forest, none, tree, Plan}
use Rattle.logic.specs.Configuration.{Configuration}

-- The ports that the variables of a cell stand for, the innermost variable first.
abbrev pub Tuple : Type 0
Tuple = List ℕ

-- The port of variable v. "A variable is numbered by its quantifier, the outermost being 0": the first of a list has as
-- many variables outside it as the rest is long.
unfoldable pub port_of : Tuple → ℕ → ℕ
port_of [] v = 0
port_of (p ∷ e) v = cond (eqb v (length e)) p (port_of e v)

-- The six relations over numbers.
unfoldable pub Related : Relation → ℕ → ℕ → Type 0
Related lt a b = a < b
Related le a b = a ≤ b
Related eq a b = a ≡ b
Related ne a b = a ≢ b
Related ge a b = b ≤ a
Related gt a b = b < a

-- Truth of a literal's test under a tuple: "`v < w` and its kin, `#S <= 9` and its kin", "`v:S` in, `v/S` not in", in the
-- order of the penalty's cases.
unfoldable pub TestTrue : Configuration → Test → Tuple → Type 0
TestTrue k (port r v w) e = Related r (port_of e v) (port_of e w)
TestTrue k (size r S c) e = Related r (k.size S) c
TestTrue k (isin v S) e = k.member S (port_of e v) ≡ true
TestTrue k (notin v S) e = k.member S (port_of e v) ≡ false

-- What is asked of the trees of a forest: all of them, one of them, the first.
pub data Asked : Type 0 where
  every some first : Asked

-- A node is true at a tuple, where H says it of its children.
unfoldable pub NodeTrue : ℕ → Configuration → Node → (Asked → Tuple → Type 0) → Tuple → Type 0
NodeTrue u k root H e = H first e
NodeTrue u k all H e = (p : ℕ) → p < u → H every (p ∷ e)
NodeTrue u k any H e = (p : ℕ) × (p < u) × H some (p ∷ e)
NodeTrue u k and H e = H every e
NodeTrue u k or H e = H some e
NodeTrue u k (lit l) H e = TestTrue k l.test e

unfoldable pub ForestTrue : ℕ → Configuration → Forest → Asked → Tuple → Type 0
ForestTrue u k none every e = Unit {0}
ForestTrue u k none some e = ⊥
ForestTrue u k none first e = ⊥
ForestTrue u k (tree n c s) every e = NodeTrue u k n (ForestTrue u k c) e × ForestTrue u k s every e
ForestTrue u k (tree n c s) some e = NodeTrue u k n (ForestTrue u k c) e ⊎ ForestTrue u k s some e
ForestTrue u k (tree n c s) first e = NodeTrue u k n (ForestTrue u k c) e

-- The plan's formula is true under a configuration.
unfoldable pub PlanTrue : Plan → Configuration → Type 0
PlanTrue P k = ForestTrue P.ports k P.formula first []
