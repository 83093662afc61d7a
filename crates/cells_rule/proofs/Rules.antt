-- The rule is Definition 5's penalty of a literal's test. Assumes nothing.
use mathlib.Core.Path.{◌≡◌, refl}
use mathlib.Core.Bool.{Bool, true, false, not}
use Prim.Native.Nat.{ℕ, ◌≤◌}
use Rattle.logic.specs.Formula.{Test, isin, notin, port, size, gt, relation_of}
use mir.Val.{bool_byte}
use Rattle.logic.specs.Configuration.{Configuration, indicator}
use Rattle.logic.specs.Truth.{Tuple}
use Rattle.logic.specs.Penalty.{test_penalty}
use Rattle.logic.proofs.Relations.{relation-high}
use Rattle.cells_rule.specs.inner.Rule.{rule_penalty, Operands}

pub not-not : (b : Bool) → not (not b) ≡ b
not-not true = refl
not-not false = refl

pub relation_high : (r : ℕ) → 5 ≤ r → relation_of r ≡ gt
relation_high r h = relation-high r h

-- a truth value as a number
pub bit_is : (b : Bool) → bool_byte b ≡ indicator b
unfolding indicator
bit_is true = refl
bit_is false = refl

pub rule-is : (k : Configuration) (t : Test) (e : Tuple) (kind r : ℕ) (inside : Bool) (x y : ℕ) → Operands k t e kind r inside x y
    → rule_penalty kind r inside x y ≡ test_penalty k t e
unfolding Operands rule_penalty test_penalty
rule-is k (isin v S) e kind r inside x y o = rw (o.0, o.1)
rule-is k (notin v S) e kind r inside x y o = rw (o.0, o.1)
rule-is k (port w v z) e kind r inside x y o = rw (o.0, o.1, o.2, o.3)
rule-is k (size w S c) e kind r inside x y o = rw (o.0, o.1, o.2, o.3)
