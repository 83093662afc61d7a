-- A record's fields: what the rules of a node's bytes say of the node. Assumes nothing.
use mathlib.Core.Path.{◌≡◌, refl, sym, ap, ◌∙◌}
use mathlib.Core.Bool.{Bool, true, false, cond, ◌&&◌, false≢true}
use Prim.Native.Nat.{ℕ, zero, suc, ◌+◌, ◌*◌, ◌^◌, ◌≤◌}
use native.Mathlib.Omega.{arith}
use native.Mathlib.Numerals.{add-one}
use native.Mathlib.Nat.{pow-suc}
use lib.Dec.{eqb, leb, ltb}
use borrow.Author.Tests.{eqb-true, ne_eqb, leb-true, le-leb, lt-leb, ltb-true}
use Rattle.logic.specs.Formula.{Relation, Test, isin, notin, port, size, literal_of, Node, root, all, any, and, or, lit, relation_number, relation_of, test_kind, kind_number, child_depth}
use Rattle.logic.proofs.Lists.{and_left, and_right, and-true}
use Rattle.logic.proofs.Relations.{relation-number-le, test-kind-range}
use Rattle.table_format.specs.Bytes.{test_relation, test_a, test_b, relation_byte, a_byte, b_byte, test_of, node_of}
use Rattle.table_format.specs.Rules.{arity_rule, test_rule, literal_rule, inner_rule}
use Rattle.table_format.specs.inner.Index.{test_uses, node_uses}
use Rattle.table_format.specs.inner.Tests.{field_rule, kind_depth, kind_width, kind_uses, UsesFit}
use Rattle.table_format.proofs.Conjunctions.{two-true, three-true, all_three}

-- the number of a relation that a number names
number-of-relation : (r : ℕ) → r ≤ 5 → relation_number (relation_of r) ≡ r
unfolding relation_number relation_of
number-of-relation zero h = refl
number-of-relation (suc zero) h = refl
number-of-relation (suc (suc zero)) h = refl
number-of-relation (suc (suc (suc zero))) h = refl
number-of-relation (suc (suc (suc (suc zero)))) h = refl
number-of-relation (suc (suc (suc (suc (suc zero))))) h = refl
number-of-relation (suc (suc (suc (suc (suc (suc r)))))) h = absurd (omega arith)

-- The node that sound fields name, with its bytes.
pub record NodeIs (sets d kind r a b : ℕ) (n : Node) : Type 0 where
  pub kind-is : kind_number n ≡ kind
  pub relation-is : relation_byte n ≡ r
  pub a-is : a_byte n ≡ a
  pub b-is : b_byte n ≡ b
  pub inner : inner_rule sets n d ≡ true

-- a node that uses no field
plain : (sets d kind r a b : ℕ) (n : Node) → kind_number n ≡ kind → relation_byte n ≡ 0 → a_byte n ≡ 0 → b_byte n ≡ 0 → inner_rule sets n d ≡ true
    → (eqb r 0 && eqb a 0 && eqb b 0) ≡ true → NodeIs sets d kind r a b n
plain sets d kind r a b n k x y z i h =
    let t = three-true (eqb r 0) (eqb a 0) (eqb b 0) h in
    record {
      kind-is = k;
      relation-is = x ∙ sym (eqb-true r 0 t.0);
      a-is = y ∙ sym (eqb-true a 0 t.1);
      b-is = z ∙ sym (eqb-true b 0 t.2);
      inner = i;
    }

fields-high : (sets d kind r a b : ℕ) → 9 ≤ kind → field_rule sets d kind r a b ≡ false
unfolding field_rule
fields-high sets d kind r a b h =
    rw (ne_eqb kind 0 (λ e. omega arith), lt-leb kind 4 (omega arith), lt-leb kind 6 (omega arith), ne_eqb kind 7 (λ e. omega arith), ne_eqb kind 8 (λ e. omega arith))

pub fields-node : (sets d kind r a b : ℕ) → field_rule sets d kind r a b ≡ true → NodeIs sets d kind r a b (node_of kind r a b)
unfolding field_rule node_of test_of literal_of test_kind test_relation test_a test_b test_rule kind_number relation_byte a_byte b_byte inner_rule literal_rule
fields-node sets d zero r a b h = absurd (false≢true h)
fields-node sets d (suc zero) r a b h = plain sets d 1 r a b all refl refl refl refl refl h
fields-node sets d (suc (suc zero)) r a b h = plain sets d 2 r a b any refl refl refl refl refl h
fields-node sets d (suc (suc (suc zero))) r a b h = plain sets d 3 r a b and refl refl refl refl refl h
fields-node sets d (suc (suc (suc (suc zero)))) r a b h = plain sets d 4 r a b or refl refl refl refl refl h
fields-node sets d (suc (suc (suc (suc (suc zero))))) r a b h =
    let t = three-true (eqb r 0) (ltb a d) (ltb b sets) h in
    record { kind-is = refl; relation-is = sym (eqb-true r 0 t.0); a-is = refl; b-is = refl; inner = and-true _ _ t.1 t.2 }
fields-node sets d (suc (suc (suc (suc (suc (suc zero)))))) r a b h =
    let t = three-true (eqb r 0) (ltb a d) (ltb b sets) h in
    record { kind-is = refl; relation-is = sym (eqb-true r 0 t.0); a-is = refl; b-is = refl; inner = and-true _ _ t.1 t.2 }
fields-node sets d (suc (suc (suc (suc (suc (suc (suc zero))))))) r a b h =
    let t = three-true (leb r 5) (ltb a d) (ltb b d) h in
    record { kind-is = refl; relation-is = number-of-relation r (leb-true r 5 t.0); a-is = refl; b-is = refl; inner = and-true _ _ t.1 t.2 }
fields-node sets d (suc (suc (suc (suc (suc (suc (suc (suc zero)))))))) r a b h =
    let t = three-true (leb r 5) (ltb a sets) (leb b 64) h in
    record { kind-is = refl; relation-is = number-of-relation r (leb-true r 5 t.0); a-is = refl; b-is = refl; inner = and-true _ _ t.1 t.2 }
fields-node sets d (suc (suc (suc (suc (suc (suc (suc (suc (suc k))))))))) r a b h =
    absurd (false≢true (sym (fields-high sets d (suc (suc (suc (suc (suc (suc (suc (suc (suc k))))))))) r a b (omega arith)) ∙ h))

-- from kind 5 on, a literal
pub literal-node : (kind r a b : ℕ) → 5 ≤ kind → node_of kind r a b ≡ lit (literal_of (test_of kind r a b))
unfolding node_of
literal-node zero r a b h = absurd (omega arith)
literal-node (suc zero) r a b h = absurd (omega arith)
literal-node (suc (suc zero)) r a b h = absurd (omega arith)
literal-node (suc (suc (suc zero))) r a b h = absurd (omega arith)
literal-node (suc (suc (suc (suc zero)))) r a b h = absurd (omega arith)
literal-node (suc (suc (suc (suc (suc k))))) r a b h = refl

-- a relation's number is in range
relation-low : (r : Relation) (a b : Bool) → (a && b) ≡ true → (leb (relation_number r) 5 && a && b) ≡ true
relation-low r a b h =
    let t = two-true a b h in
    all_three (leb (relation_number r) 5) a b (le-leb (relation_number r) 5 (relation-number-le r)) t.0 t.1

test_fields : (sets d : ℕ) (t : Test) → test_rule sets d t ≡ true → field_rule sets d (test_kind t) (test_relation t) (test_a t) (test_b t) ≡ true
unfolding field_rule test_kind test_relation test_a test_b test_rule
test_fields sets d (isin v S) h = h
test_fields sets d (notin v S) h = h
test_fields sets d (port r v w) h = relation-low r _ _ h
test_fields sets d (size r S c) h = relation-low r _ _ h

pub node-fields : (sets d : ℕ) (n : Node) → inner_rule sets n d ≡ true
    → field_rule sets d (kind_number n) (relation_byte n) (a_byte n) (b_byte n) ≡ true
unfolding field_rule kind_number relation_byte a_byte b_byte inner_rule literal_rule
node-fields sets d root h = h
node-fields sets d all h = refl
node-fields sets d any h = refl
node-fields sets d and h = refl
node-fields sets d or h = refl
node-fields sets d (lit l) h = test_fields sets d l.test h

-- literals have no children
pub literal-arity : (t : Test) (m : ℕ) → arity_rule (test_kind t) m ≡ eqb m 0
unfolding arity_rule
literal-arity t m =
    let r = test-kind-range t in
    rw (lt-leb (test_kind t) 2 (omega arith), lt-leb (test_kind t) 4 (omega arith))

pub literal-children : (t : Test) (m : ℕ) → arity_rule (test_kind t) m ≡ true → m ≡ 0
literal-children t m h = eqb-true m 0 (sym (literal-arity t m) ∙ h)

-- a node's children and uses, by its kind
pub kind-depth : (sets d : ℕ) (n : Node) → inner_rule sets n d ≡ true → child_depth n d ≡ kind_depth (kind_number n) d
unfolding child_depth kind_depth kind_number inner_rule
kind-depth sets d root h = absurd (false≢true h)
kind-depth sets d all h = sym (add-one d)
kind-depth sets d any h = sym (add-one d)
kind-depth sets d and h = refl
kind-depth sets d or h = refl
kind-depth sets d (lit l) h = rw (lt-leb (test_kind l.test) 2 (omega (arith, test-kind-range l.test)))

pub kind-depth-le : (kind d : ℕ) → kind_depth kind d ≤ suc d
unfolding kind_depth
kind-depth-le kind d = go (leb kind 2)
  where
    go : (b : Bool) → cond b (d + 1) d ≤ suc d
    go true = omega arith
    go false = omega arith

pub kind-width : (kind width ports d : ℕ) → width ≡ ports ^ d → kind_width kind width ports ≡ ports ^ kind_depth kind d
unfolding kind_width kind_depth
kind-width kind width ports d h = go (leb kind 2)
  where
    go : (b : Bool) → cond b (width * ports) width ≡ ports ^ cond b (d + 1) d
    go true = ap (λ (x : ℕ). x * ports) h ∙ sym (pow-suc ports d) ∙ ap (λ (x : ℕ). ports ^ x) (sym (add-one d))
    go false = h

test-uses : (t : Test) → test_uses t ≡ kind_uses (test_kind t) (test_a t) (test_b t)
unfolding test_uses kind_uses test_kind test_a test_b
test-uses (isin v S) = refl
test-uses (notin v S) = refl
test-uses (port r v w) = refl
test-uses (size r S c) = refl

pub kind-uses : (n : Node) → node_uses n ≡ kind_uses (kind_number n) (a_byte n) (b_byte n)
unfolding node_uses kind_uses kind_number a_byte b_byte
kind-uses root = refl
kind-uses all = refl
kind-uses any = refl
kind-uses and = refl
kind-uses or = refl
kind-uses (lit l) = test-uses l.test

test-uses-fit : (sets d : ℕ) (t : Test) → d ≤ 3 → sets ≤ 16 → test_rule sets d t ≡ true → UsesFit (test_kind t) (test_a t) (test_b t)
unfolding test_kind test_a test_b test_rule
test-uses-fit sets d (isin v S) e s h =
    let a = ltb-true v d (and_left (ltb v d) _ h) in
    let b = ltb-true S sets (and_right (ltb v d) _ h) in
    record { variable = λ x y. omega arith; set = λ x y. omega arith; sized = λ x. absurd (omega arith) }
test-uses-fit sets d (notin v S) e s h =
    let a = ltb-true v d (and_left (ltb v d) _ h) in
    let b = ltb-true S sets (and_right (ltb v d) _ h) in
    record { variable = λ x y. omega arith; set = λ x y. omega arith; sized = λ x. absurd (omega arith) }
test-uses-fit sets d (port r v w) e s h = record { variable = λ x y. absurd (omega arith); set = λ x y. absurd (omega arith); sized = λ x. absurd (omega arith) }
test-uses-fit sets d (size r S c) e s h =
    let a = ltb-true S sets (and_left (ltb S sets) _ h) in
    record { variable = λ x y. absurd (omega arith); set = λ x y. absurd (omega arith); sized = λ x. omega arith }

node-uses-fit : (sets d : ℕ) (n : Node) → d ≤ 3 → sets ≤ 16 → inner_rule sets n d ≡ true → UsesFit (kind_number n) (a_byte n) (b_byte n)
unfolding kind_number a_byte b_byte inner_rule literal_rule
node-uses-fit sets d root e s h = absurd (false≢true h)
node-uses-fit sets d all e s h = record { variable = λ x y. absurd (omega arith); set = λ x y. absurd (omega arith); sized = λ x. absurd (omega arith) }
node-uses-fit sets d any e s h = record { variable = λ x y. absurd (omega arith); set = λ x y. absurd (omega arith); sized = λ x. absurd (omega arith) }
node-uses-fit sets d and e s h = record { variable = λ x y. absurd (omega arith); set = λ x y. absurd (omega arith); sized = λ x. absurd (omega arith) }
node-uses-fit sets d or e s h = record { variable = λ x y. absurd (omega arith); set = λ x y. absurd (omega arith); sized = λ x. absurd (omega arith) }
node-uses-fit sets d (lit l) e s h = test-uses-fit sets d l.test e s h

pub uses-fit : (sets d kind r a b : ℕ) → d ≤ 3 → sets ≤ 16 → field_rule sets d kind r a b ≡ true → UsesFit kind a b
uses-fit sets d kind r a b e s h =
    let n = fields-node sets d kind r a b h in
    rw (n.kind-is, n.a-is, n.b-is) at (node-uses-fit sets d (node_of kind r a b) e s n.inner)
