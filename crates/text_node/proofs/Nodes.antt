-- What a node puts, from what its functions put one behind another. Assumes nothing.
use mathlib.Core.Path.{◌≡◌, refl, ap}
use mathlib.Core.List.{List, [], ◌∷◌}
use Prim.Native.Nat.{ℕ, zero, suc, ◌≤◌, ◌<◌}
use native.Mathlib.Omega.{arith}
use lib.ListN.{length}
use borrow.Author.Tests.{ne_eqb}
use Rattle.logic.specs.Formula.{Relation, lt, le, eq, ne, ge, gt, relation_of, isin, notin, port, size, literal_of, Node}
use Rattle.table_format.specs.Bytes.{test_of, node_of}
use Rattle.table_format.proofs.FieldRules.{literal-node}
use Rattle.text_tokens.specs.Tokens.{digits_of}
use Rattle.text_form.specs.Form.{set_byte, variable_byte, lettered_test}
use Rattle.text_form.specs.Spelling.{relation_bytes, spaced, constant_bytes, test_bytes}
use Rattle.text_put.specs.inner.Puts.{Puts}
use Rattle.text_put.proofs.Putting.{puts-more}
use Rattle.text_node.specs.inner.Nodes.{quantifier_bytes, own_bytes}

-- a relation of number 5 or more
pub last-relation : (r : ℕ) → 5 ≤ r → relation_of r ≡ gt
unfolding relation_of
last-relation zero h = absurd (omega arith)
last-relation (suc zero) h = absurd (omega arith)
last-relation (suc (suc zero)) h = absurd (omega arith)
last-relation (suc (suc (suc zero))) h = absurd (omega arith)
last-relation (suc (suc (suc (suc zero)))) h = absurd (omega arith)
last-relation (suc (suc (suc (suc (suc r))))) h = refl

-- a relation between spaces has at most four bytes
pub spaced-few : (r : Relation) → length (spaced (relation_bytes r)) ≤ 4
unfolding spaced relation_bytes
spaced-few lt = omega arith
spaced-few le = omega arith
spaced-few eq = omega arith
spaced-few ne = omega arith
spaced-few ge = omega arith
spaced-few gt = omega arith

-- the tests of the kinds
module _ (kind r a b : ℕ) where
  pub test_in : kind ≡ 5 → test_of kind r a b ≡ isin a b
  unfolding test_of
  test_in e = rw e

  pub test-out : kind ≡ 6 → test_of kind r a b ≡ notin a b
  unfolding test_of
  test-out e = rw e

  pub test-port : kind ≡ 7 → test_of kind r a b ≡ port (relation_of r) a b
  unfolding test_of
  test-port e = rw e

  pub test-size : (kind ≡ 5 → ⊥) → (kind ≡ 6 → ⊥) → (kind ≡ 7 → ⊥) → test_of kind r a b ≡ size (relation_of r) a b
  unfolding test_of
  test-size p q s = rw (ne_eqb kind 5 p, ne_eqb kind 6 q, ne_eqb kind 7 s)

-- a literal put piece by piece
module _ (at : ℕ) (out x y : List ℕ) (p q end : ℕ) (out' : List ℕ) where
  pub put-ports : (r : Relation) (v w : ℕ) → Puts at (variable_byte v ∷ []) out p x → Puts p (spaced (relation_bytes r)) x q y → Puts q (variable_byte w ∷ []) y end out'
      → Puts at (test_bytes (lettered_test (port r v w))) out end out'
  unfolding test_bytes lettered_test
  put-ports r v w A B C = puts-more at out (variable_byte v ∷ []) _ p end x out' A (puts-more p x (spaced (relation_bytes r)) _ q end y out' B C)

  pub put-sizes : (r : Relation) (S c : ℕ) (z : List ℕ) (s : ℕ) → Puts at (35 ∷ []) out p x → Puts p (set_byte S ∷ []) x q y → Puts q (spaced (relation_bytes r)) y s z
      → Puts s (digits_of 2 c) z end out' → Puts at (test_bytes (lettered_test (size r S c))) out end out'
  unfolding test_bytes lettered_test constant_bytes
  put-sizes r S c z s A B C D =
      puts-more at out (35 ∷ []) _ p end x out' A (puts-more p x (set_byte S ∷ []) _ q end y out' B (puts-more q y (spaced (relation_bytes r)) _ s end z out' C D))

  pub put_three : (a b c : ℕ) → Puts at (a ∷ []) out p x → Puts p (b ∷ []) x q y → Puts q (c ∷ []) y end out' → Puts at (a ∷ b ∷ c ∷ []) out end out'
  put_three a b c A B C = puts-more at out (a ∷ []) _ p end x out' A (puts-more p x (b ∷ []) _ q end y out' B C)

-- what a node writes, by its kind
module _ (r a b d : ℕ) where
  pub own-literal : (kind : ℕ) → 5 ≤ kind → own_bytes (node_of kind r a b) d ≡ test_bytes (lettered_test (test_of kind r a b))
  unfolding own_bytes literal_of
  own-literal kind h = ap (λ (n : Node). own_bytes n d) (literal-node kind r a b h)

  pub own-quantifier : (kind : ℕ) → 1 ≤ kind → kind ≤ 2 → own_bytes (node_of kind r a b) d ≡ quantifier_bytes kind d
  unfolding node_of own_bytes
  own-quantifier zero h g = absurd (omega arith)
  own-quantifier (suc zero) h g = refl
  own-quantifier (suc (suc zero)) h g = refl
  own-quantifier (suc (suc (suc k))) h g = absurd (omega arith)

  pub own-none : (kind : ℕ) → kind < 5 → (kind ≡ 1 → ⊥) → (kind ≡ 2 → ⊥) → own_bytes (node_of kind r a b) d ≡ []
  unfolding node_of own_bytes
  own-none zero h p q = refl
  own-none (suc zero) h p q = absurd (p refl)
  own-none (suc (suc zero)) h p q = absurd (q refl)
  own-none (suc (suc (suc zero))) h p q = refl
  own-none (suc (suc (suc (suc zero)))) h p q = refl
  own-none (suc (suc (suc (suc (suc k))))) h p q = absurd (omega arith)
