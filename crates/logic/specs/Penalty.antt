-- The penalty of Definition 5 of document 000, as paper 01, section Penalty, completes it.
use Rattle.std.specs.Prelude.{Bool, not, List, [], ◌∷◌, ◌++◌, ℕ, zero, suc, ◌+◌, ◌-◌, min, eqb, leb, ltb}
use Rattle.logic.specs.Formula.{Relation, lt, le, eq, ne, ge, gt, Test, isin, notin, port, size, Literal, Node, root, all, any, and, or, lit, Forest, none, tree}
use Rattle.logic.specs.Configuration.{Configuration, indicator}
use Rattle.logic.specs.Truth.{Tuple, port_of}

-- The six relations over numbers, decided.
unfoldable pub compare : Relation → ℕ → ℕ → Bool
compare lt a b = ltb a b
compare le a b = leb a b
compare eq a b = eqb a b
compare ne a b = not (eqb a b)
compare ge a b = leb b a
compare gt a b = ltb b a

-- "Size s against c, 0 where true, else: <: s+1-c. <=: s-c. =: the distance of s and c. !=: 1. >=: c-s. >: c+1-s."
-- A difference of numbers is 0 where it would fall below 0, which is where the relation holds.
unfoldable pub size_penalty : Relation → ℕ → ℕ → ℕ
size_penalty lt s c = s + 1 - c
size_penalty le s c = s - c
size_penalty eq s c = (s - c) + (c - s)
size_penalty ne s c = indicator (eqb s c)
size_penalty ge s c = c - s
size_penalty gt s c = c + 1 - s

-- Cases (f) to (i) of Definition 5. "In, not in and port comparison give 0 if true, else 1."
unfoldable pub test_penalty : Configuration → Test → Tuple → ℕ
-- (f) port comparison
test_penalty k (port r v w) e = indicator (not (compare r (port_of e v) (port_of e w)))
-- (g) size
test_penalty k (size r S c) e = size_penalty r (k.size S) c
-- (h) in
test_penalty k (isin v S) e = indicator (not (k.member S (port_of e v)))
-- (i) not in
test_penalty k (notin v S) e = indicator (k.member S (port_of e v))

-- A literal's penalty is its test's.
unfoldable pub literal_penalty : Configuration → Literal → Tuple → ℕ
literal_penalty k l e = test_penalty k l.test e

-- "for all and "and" add".
unfoldable pub sum : List ℕ → ℕ
sum [] = 0
sum (x ∷ xs) = x + sum xs

-- "exists and "or" take the minimum". The table's rules give every minimum and the root a child; without one they are false,
-- and 1 stands for that.
unfoldable pub least : List ℕ → ℕ
least [] = 1
least (x ∷ []) = x
least (x ∷ y ∷ ys) = min x (least (y ∷ ys))

-- "the root copies its child".
unfoldable pub copy : List ℕ → ℕ
copy [] = 1
copy (x ∷ xs) = x

-- "for all and "and" add, exists and "or" take the minimum, the root copies its child": a cell's number from the numbers
-- directly below it. Cases (a) to (e) of Definition 5 in their order, then a literal's.
unfoldable pub combine : Configuration → Node → Tuple → List ℕ → ℕ
combine k root e vs = copy vs
combine k all e vs = sum vs
combine k any e vs = least vs
combine k and e vs = sum vs
combine k or e vs = least vs
combine k (lit l) e vs = literal_penalty k l e

module _ {A : Type 0} where
  -- What each port gives, in rising order.
  unfoldable pub each_port : ℕ → (ℕ → List A) → List A
  each_port zero g = []
  each_port (suc u) g = each_port u g ++ g u

  -- What stands directly below the cell e of a node: the children at its own tuple or, below a quantifier, at that tuple
  -- with each port.
  unfoldable pub below : ℕ → Node → Tuple → (Tuple → List A) → List A
  below u root e g = g e
  below u all e g = each_port u (λ p. g (p ∷ e))
  below u any e g = each_port u (λ p. g (p ∷ e))
  below u and e g = g e
  below u or e g = g e
  below u (lit l) e g = g e

-- The penalties of the trees of a forest at a tuple.
unfoldable pub penalties : ℕ → Configuration → Forest → Tuple → List ℕ
penalties u k none e = []
penalties u k (tree n c s) e = combine k n e (below u n e (penalties u k c)) ∷ penalties u k s e

-- The penalty of a node with the children c at a tuple.
unfoldable pub penalty : ℕ → Configuration → Node → Forest → Tuple → ℕ
penalty u k n c e = combine k n e (below u n e (penalties u k c))
