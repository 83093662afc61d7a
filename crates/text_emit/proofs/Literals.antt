-- The own bytes of a literal's node, from the literal's record. Assumes nothing.
use mathlib.Core.Path.{◌≡◌, refl, ap, ◌∙◌}
use mathlib.Core.Bool.{Bool, true, false, not}
use mathlib.Core.List.{List}
use Prim.Native.Nat.{ℕ, ◌+◌, ◌*◌, ◌/◌, ◌%◌, ◌≤◌, ◌<◌}
use native.Mathlib.Omega.{arith}
use Rattle.logic.specs.Formula.{Relation, relation_number, isin, notin, port, size, literal_of, lit, test_kind, kind_number}
use Rattle.logic.proofs.Relations.{relation-number-le}
use Rattle.text_tree.specs.inner.Stored.{test_operator, test_payload}
use Rattle.text_core.specs.Names.{set_number, variable_number, Variable, SetLetter, LetteredTest}
use Rattle.text_core.specs.Core.{member_at, test_at}
use Rattle.table_format.specs.Bytes.{test_relation, test_a, test_b, relation_byte, a_byte, b_byte}
use Rattle.text_emit.specs.declared.Bound.{Bound}
use Rattle.text_emit.specs.inner.Fields.{Shows, bound_letters, RelationIs, MemberIs, LiteralIs}

-- the kind of a membership literal
module _ (operator : ℕ) where
  pub in_kept : operator ≡ 0 → MemberIs true operator 5
  unfolding MemberIs member_at test_kind
  in_kept h v S = ((λ e. refl), (λ e. absurd (omega arith)))

  pub not-in-kept : (operator ≡ 0 → ⊥) → MemberIs true operator 6
  unfolding MemberIs member_at test_kind
  not-in-kept h v S = ((λ e. absurd (h e)), (λ e. refl))

  pub in-turned : operator ≡ 0 → MemberIs false operator 6
  unfolding MemberIs member_at test_kind
  in-turned h v S = ((λ e. refl), (λ e. absurd (omega arith)))

  pub not-in-turned : (operator ≡ 0 → ⊥) → MemberIs false operator 5
  unfolding MemberIs member_at test_kind
  not-in-turned h v S = ((λ e. absurd (h e)), (λ e. refl))

-- the two parts of a payload
high_part : (x v s : ℕ) → x ≡ 256 * v + s → s < 256 → x / 256 ≡ v
high_part x v s h l = omega arith

low_part : (x v s : ℕ) → x ≡ 256 * v + s → s < 256 → x % 256 ≡ s
low_part x v s h l = omega arith

set-low : (S : ℕ) → SetLetter S → S < 256
unfolding SetLetter
set-low S l = omega arith

variable-low : (v : ℕ) → Variable v → v < 256
unfolding Variable
variable-low v l = omega arith

related : (p : Bool) (operator base x r : ℕ) (q : Relation) → RelationIs p x r → x ≡ operator % 8 % 256 → operator ≡ 8 * base + relation_number q
    → RelationIs p (relation_number q) r
unfolding RelationIs
related p operator base x r q R h e =
    let same : x ≡ relation_number q = omega (arith, relation-number-le q) in rw (← same) R

member-shows : (p : Bool) (k v S : ℕ) → k ≡ test_kind (member_at p v S)
    → Shows record { kind = k; relation = 0; a = v; b = S } (lit (literal_of (member_at p v S)))
unfolding member_at literal_of test_relation test_a test_b kind_number relation_byte a_byte b_byte
member-shows true k v S e = record { kind-is = e; relation-is = refl; a-is = refl; b-is = refl }
member-shows false k v S e = record { kind-is = e; relation-is = refl; a-is = refl; b-is = refl }

module _ (sets : List ℕ) (operator x : ℕ) (bound : Bound) (p : Bool) where
  abbrev vars : List ℕ
  vars = bound_letters bound

  module _ (y relation : ℕ) (R : RelationIs p y relation) (low : y ≡ operator % 8 % 256) where
    pub literal-size : (a b : ℕ) → 24 ≤ operator → a ≡ set_number sets (x / 256) → b ≡ x % 256
        → LiteralIs sets operator x bound p record { kind = 8; relation = relation; a = a; b = b }
    unfolding LiteralIs RelationIs test_operator test_payload LetteredTest test_at literal_of test_kind test_relation test_a test_b kind_number relation_byte a_byte b_byte
    literal-size a b h ea eb (isin v S) L = absurd (omega (arith, L.operator-is))
    literal-size a b h ea eb (notin v S) L = absurd (omega (arith, L.operator-is))
    literal-size a b h ea eb (port q v w) L = absurd (omega (arith, L.operator-is, relation-number-le q))
    literal-size a b h ea eb (size q S c) L = record {
      kind-is = refl;
      relation-is = related p operator 3 y relation q R low L.operator-is q refl;
      a-is = ea ∙ ap (set_number sets) (high_part x S c L.payload-is (omega (arith, L.lettered.1)));
      b-is = eb ∙ low_part x S c L.payload-is (omega (arith, L.lettered.1));
    }

    pub literal-port : (a b : ℕ) → 16 ≤ operator → operator < 24 → a ≡ variable_number vars (x / 256) → b ≡ variable_number vars (x % 256)
        → LiteralIs sets operator x bound p record { kind = 7; relation = relation; a = a; b = b }
    unfolding LiteralIs RelationIs test_operator test_payload LetteredTest test_at literal_of test_kind test_relation test_a test_b kind_number relation_byte a_byte b_byte
    literal-port a b h g ea eb (isin v S) L = absurd (omega (arith, L.operator-is))
    literal-port a b h g ea eb (notin v S) L = absurd (omega (arith, L.operator-is))
    literal-port a b h g ea eb (port q v w) L = record {
      kind-is = refl;
      relation-is = related p operator 2 y relation q R low L.operator-is q refl;
      a-is = ea ∙ ap (variable_number vars) (high_part x v w L.payload-is (variable-low w L.lettered.1));
      b-is = eb ∙ ap (variable_number vars) (low_part x v w L.payload-is (variable-low w L.lettered.1));
    }
    literal-port a b h g ea eb (size q S c) L = absurd (omega (arith, L.operator-is))

  pub literal-member : (k a b : ℕ) → operator < 16 → MemberIs p operator k → a ≡ variable_number vars (x / 256) → b ≡ set_number sets (x % 256)
      → LiteralIs sets operator x bound p record { kind = k; relation = 0; a = a; b = b }
  unfolding LiteralIs MemberIs test_operator test_payload LetteredTest test_at
  literal-member k a b h K ea eb (isin v S) L =
      let va : a ≡ variable_number vars v = ea ∙ ap (variable_number vars) (high_part x v S L.payload-is (set-low S L.lettered.1)) in
      let vb : b ≡ set_number sets S = eb ∙ ap (set_number sets) (low_part x v S L.payload-is (set-low S L.lettered.1)) in
      rw (va, vb) (member-shows p k _ _ ((K _ _).0 L.operator-is))
  literal-member k a b h K ea eb (notin v S) L =
      let va : a ≡ variable_number vars v = ea ∙ ap (variable_number vars) (high_part x v S L.payload-is (set-low S L.lettered.1)) in
      let vb : b ≡ set_number sets S = eb ∙ ap (set_number sets) (low_part x v S L.payload-is (set-low S L.lettered.1)) in
      rw (va, vb) (member-shows (not p) k _ _ ((K _ _).1 L.operator-is))
  literal-member k a b h K ea eb (port q v w) L = absurd (omega (arith, L.operator-is))
  literal-member k a b h K ea eb (size q S c) L = absurd (omega (arith, L.operator-is))
