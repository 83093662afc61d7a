-- The literal rule by the numbers of a record: Definition 5, cases (f) to (i). Paper 01, sections Plan table and Penalty.
use Rattle.std.specs.Prelude.{◌≡◌, Bool, cond, not, ℕ, eqb}
use Rattle.logic.specs.Formula.{Test, isin, notin, port, size, relation_of}
use Rattle.logic.specs.Configuration.{Configuration, indicator}
use Rattle.logic.specs.Truth.{Tuple, port_of}
use Rattle.logic.specs.Penalty.{compare, size_penalty}

-- The penalty by kind, relation, whether the port is in the set, and two numbers: the ports compared, or size and constant. Kind
-- 7 is case (f), 8 is (g), 5 is (h), and 6 is (i), which is tried last and so has no test of its own.
unfoldable pub rule_penalty : ℕ → ℕ → Bool → ℕ → ℕ → ℕ
rule_penalty kind r inside x y =
    cond (eqb kind 7) (indicator (not (compare (relation_of r) x y)))
    (cond (eqb kind 8) (size_penalty (relation_of r) x y) (cond (eqb kind 5) (indicator (not inside)) (indicator inside)))

-- What a test has the rule read at a tuple: its kind, relation and operands, as far as the kind asks for them.
unfoldable pub Operands : Configuration → Test → Tuple → ℕ → ℕ → Bool → ℕ → ℕ → Type 0
Operands k (port w v z) e kind r inside x y = (kind ≡ 7) × (relation_of r ≡ w) × (x ≡ port_of e v) × (y ≡ port_of e z)
Operands k (size w S c) e kind r inside x y = (kind ≡ 8) × (relation_of r ≡ w) × (x ≡ k.size S) × (y ≡ c)
Operands k (isin v S) e kind r inside x y = (kind ≡ 5) × (inside ≡ k.member S (port_of e v))
Operands k (notin v S) e kind r inside x y = (kind ≡ 6) × (inside ≡ k.member S (port_of e v))
