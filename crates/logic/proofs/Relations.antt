-- Relations and the kinds of tests by their numbers. Assumes nothing.
use mathlib.Core.Path.{◌≡◌, refl}
use Prim.Native.Nat.{ℕ, zero, suc, ◌≤◌}
use native.Mathlib.Omega.{arith}
use Rattle.logic.specs.Formula.{Relation, lt, le, eq, ne, ge, gt, Test, isin, notin, port, size, relation_number, relation_of, test_kind}

-- every number from 5 on is read as >
pub relation-high : (r : ℕ) → 5 ≤ r → relation_of r ≡ gt
unfolding relation_of
relation-high zero h = absurd (omega arith)
relation-high (suc zero) h = absurd (omega arith)
relation-high (suc (suc zero)) h = absurd (omega arith)
relation-high (suc (suc (suc zero))) h = absurd (omega arith)
relation-high (suc (suc (suc (suc zero)))) h = absurd (omega arith)
relation-high (suc (suc (suc (suc (suc r))))) h = refl

-- a relation's number names it
pub relation-of-number : (r : Relation) → relation_of (relation_number r) ≡ r
unfolding relation_of relation_number
relation-of-number lt = refl
relation-of-number le = refl
relation-of-number eq = refl
relation-of-number ne = refl
relation-of-number ge = refl
relation-of-number gt = refl

pub relation-number-le : (r : Relation) → relation_number r ≤ 5
unfolding relation_number
relation-number-le lt = omega arith
relation-number-le le = omega arith
relation-number-le eq = omega arith
relation-number-le ne = omega arith
relation-number-le ge = omega arith
relation-number-le gt = omega arith

-- literals have kinds 5 to 8
pub test-kind-range : (t : Test) → (5 ≤ test_kind t) × (test_kind t ≤ 8)
unfolding test_kind
test-kind-range (isin v S) = omega arith
test-kind-range (notin v S) = omega arith
test-kind-range (port r v w) = omega arith
test-kind-range (size r S c) = omega arith
