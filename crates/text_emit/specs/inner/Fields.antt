-- A node's own bytes, from the record of the text's tree that it comes from.
use Rattle.std.specs.Prelude.{◌≡◌, Bool, not, List, [], ◌∷◌, ℕ, zero, suc, ◌<◌}
use Rattle.logic.specs.Formula.{Relation, relation_number, Test, literal_of, Node, lit, test_kind, kind_number}
use Rattle.text_tree.specs.Tree.{Quantifier}
use Rattle.text_tree.specs.inner.Stored.{quantifier_operator}
use Rattle.text_core.specs.Core.{quantifier_node, relation_at, member_at, test_at}
use Rattle.text_names.specs.inner.Faults.{ReadAs}
use Rattle.table_format.specs.Bytes.{relation_byte, a_byte, b_byte}
use Rattle.text_emit.specs.declared.Bound.{Bound}
use Rattle.table_format.specs.declared.Fields.{Fields}

-- "kind, relation, a, b" of a node.
pub record Shows (r : Fields) (n : Node) : Type 0 where
  pub kind-is : r.kind ≡ kind_number n
  pub relation-is : r.relation ≡ relation_byte n
  pub a-is : r.a ≡ a_byte n
  pub b-is : r.b ≡ b_byte n

-- The letters bound around a place, the innermost first.
unfoldable pub letters : ℕ → ℕ → ℕ → ℕ → List ℕ
letters zero x y z = []
letters (suc zero) x y z = x ∷ []
letters (suc (suc zero)) x y z = y ∷ x ∷ []
letters (suc (suc (suc n))) x y z = z ∷ y ∷ x ∷ []

unfoldable pub bound_letters : Bound → List ℕ
bound_letters b = letters b.count b.outer b.middle b.inner

-- One more letter is bound, if fewer than three are.
pub record BindsLetter (b : Bound) (v : ℕ) (r : Bound) : Type 0 where
  pub letters-are : b.count < 3 → bound_letters r ≡ v ∷ bound_letters b
  pub count-is : b.count < 3 → r.count ≡ suc b.count

unfoldable pub RelationIs : Bool → ℕ → ℕ → Type 0
RelationIs p x r = (q : Relation) → x ≡ relation_number q → r ≡ relation_number (relation_at p q)

unfoldable pub QuantifierIs : Bool → ℕ → ℕ → Type 0
QuantifierIs p operator r = (q : Quantifier) → operator ≡ quantifier_operator q → r ≡ kind_number (quantifier_node p q)

-- `v:S` has operator 0, `v/S` 1.
unfoldable pub MemberIs : Bool → ℕ → ℕ → Type 0
MemberIs p operator r = (v S : ℕ)
    → (operator ≡ 0 → r ≡ test_kind (member_at p v S))
    × (operator ≡ 1 → r ≡ test_kind (member_at (not p) v S))

unfoldable pub LiteralIs : List ℕ → ℕ → ℕ → Bound → Bool → Fields → Type 0
LiteralIs sets operator payload b p r =
    (t : Test) → ReadAs operator payload t → Shows r (lit (literal_of (test_at sets (bound_letters b) p t)))
