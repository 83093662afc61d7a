-- Bytes are the table of a plan exactly when they decode to it: a table is the encoding of one plan only, and every plan within
-- the rules has a table. Assumes nothing.
use mathlib.Core.Path.{◌≡◌, refl, sym, ap, ap₂, ◌∙◌}
use mathlib.Core.Logic.{◌↔◌}
use mathlib.Core.Bool.{Bool, true, false, cond, ◌&&◌, false≢true}
use mathlib.Core.List.{List, [], ◌∷◌, ◌++◌, append_assoc}
use Prim.Native.Nat.{ℕ, zero, suc, ◌+◌, ◌-◌, ◌*◌, ◌≤◌}
use native.Mathlib.Nat.{mul-zero}
use native.Mathlib.Omega.{arith}
use lib.Dec.{eqb}
use lib.ListN.{length, take, drop, length-append}
use lib.Seq.{take_at, drop_at}
use borrow.Author.Tests.{eqb-true, eq-eqb}
use Rattle.logic.specs.Formula.{Relation, Test, isin, notin, port, size, literal_of, Node, root, all, any, and, or, lit, Forest, none, tree, Plan, test_kind, kind_number, node_count}
use Rattle.logic.proofs.Lists.{and_left, and_right, and-true}
use Rattle.logic.proofs.Relations.{relation-of-number}
use Rattle.table_format.specs.Bytes.{record_length, records_of, kind_field, relation_field, a_field, b_field, end_field, test_relation, test_a, test_b, relation_byte, a_byte, b_byte, test_of, node_of, record_of, records, header, encoding}
use Rattle.table_format.specs.Rules.{plan_rule}
use Rattle.table_format.specs.Decode.{TableOf, forest_of, candidate, begins, Decoded, broken, sound, decode}
use Rattle.table_format.proofs.Parts.{children_of, siblings_of, span-tree, span-children, span-forest}
use Rattle.table_format.proofs.Bytes.{record-pos, length-record, kind-of-record, relation-of-record, a-of-record, b-of-record, end-of-record, records-of-header, ports-of-header, sets-of-header, nodes-of-header}

-- a test's bytes name it
node-of-test : (t : Test) → node_of (test_kind t) (test_relation t) (test_a t) (test_b t) ≡ lit (literal_of t)
unfolding node_of test_of test_kind test_relation test_a test_b
node-of-test (isin v S) = refl
node-of-test (notin v S) = refl
node-of-test (port r v w) = ap (λ (x : Relation). lit (literal_of (port x v w))) (relation-of-number r)
node-of-test (size r S c) = ap (λ (x : Relation). lit (literal_of (size x S c))) (relation-of-number r)

-- a node's bytes name it
pub node-of-bytes : (n : Node) → node_of (kind_number n) (relation_byte n) (a_byte n) (b_byte n) ≡ n
unfolding node_of literal_of kind_number relation_byte a_byte b_byte
node-of-bytes root = refl
node-of-bytes all = refl
node-of-bytes any = refl
node-of-bytes and = refl
node-of-bytes or = refl
node-of-bytes (lit l) = node-of-test l.test

-- and so does the record that a part begins with
pub node-of-record : (n : Node) (p e : ℕ) (t : List ℕ)
    → (let l = record_of n p e ++ t in node_of (kind_field l) (relation_field l) (a_field l) (b_field l)) ≡ n
node-of-record n p e t =
    (λ i. node_of (kind-of-record n p e t i) (relation-of-record n p e t i) (a-of-record n p e t i) (b-of-record n p e t i)) ∙ node-of-bytes n

pub length-records : (f : Forest) (i p : ℕ) → length (records f i p) ≡ record_length * node_count f
unfolding records node_count
length-records none i p = sym (mul-zero record_length)
length-records (tree n c s) i p =
    let e = i + suc (node_count c) in
    length-append (record_of n p e) (records c (suc i) i ++ records s e p)
    ∙ ap₂ ◌+◌ (length-record n p e)
    (length-append (records c (suc i) i) (records s e p) ∙ ap₂ ◌+◌ (length-records c (suc i) i) (length-records s e p))
    ∙ span-forest record_length record-pos (node_count c) (node_count s)

-- the parts of the records of a tree and its siblings
module _ (n : Node) (c s : Forest) (i p : ℕ) where
  abbrev end : ℕ
  end = i + suc (node_count c)

  abbrev whole : List ℕ
  whole = record_of n p end ++ (records c (suc i) i ++ records s end p)

  pub children-part : children_of record_length (end - i) whole ≡ records c (suc i) i
  children-part =
      ap (take (record_length * (end - i) - record_length))
      (drop_at (record_of n p end) (records c (suc i) i ++ records s end p) record_length (length-record n p end))
      ∙ take_at (records c (suc i) i) (records s end p) (record_length * (end - i) - record_length)
      (length-records c (suc i) i ∙ span-children record_length record-pos i (node_count c))

  pub siblings-part : siblings_of record_length (end - i) whole ≡ records s end p
  siblings-part =
      ap (drop (record_length * (end - i))) (sym (append_assoc (record_of n p end) (records c (suc i) i) (records s end p)))
      ∙ drop_at (record_of n p end ++ records c (suc i) i) (records s end p) (record_length * (end - i))
      (length-append (record_of n p end) (records c (suc i) i)
      ∙ ap₂ ◌+◌ (length-record n p end) (length-records c (suc i) i) ∙ span-tree record_length record-pos i (node_count c))

-- a part that holds a record spells the tree that begins there
forest-of-part : (m : ℕ) (l : List ℕ) (i : ℕ) → record_length ≤ length l
    → forest_of (suc m) l i
    ≡ tree (node_of (kind_field l) (relation_field l) (a_field l) (b_field l))
    (forest_of m (children_of record_length (end_field l - i) l) (suc i))
    (forest_of m (siblings_of record_length (end_field l - i) l) (end_field l))
unfolding forest_of
forest-of-part m [] i h = absurd (omega (arith, record-pos))
forest-of-part m (x ∷ xs) i h = refl

-- records spell their forest
forest_step : (m : ℕ) (n : Node) (c s : Forest) (i p : ℕ) → (let e = i + suc (node_count c) in
    forest_of (suc m) (record_of n p e ++ (records c (suc i) i ++ records s e p)) i
    ≡ tree n (forest_of m (records c (suc i) i) (suc i)) (forest_of m (records s e p) e))
forest_step m n c s i p =
    let e = i + suc (node_count c) in
    let t = records c (suc i) i ++ records s e p in
    let l = record_of n p e ++ t in
    let parts : ℕ → Forest × Forest = λ x.
    (forest_of m (children_of record_length (x - i) l) (suc i), forest_of m (siblings_of record_length (x - i) l) x) in
    forest-of-part m l i (omega (arith, length-append (record_of n p e) t, length-record n p e))
    ∙ ap₂ (λ (x : Node) (y : Forest × Forest). tree x y.0 y.1) (node-of-record n p e t)
    (ap parts (end-of-record n p e t)
    ∙ ap₂ (λ (x y : List ℕ). (forest_of m x (suc i), forest_of m y e)) (children-part n c s i p) (siblings-part n c s i p))

pub forest-of-records : (m : ℕ) (f : Forest) (i p : ℕ) → node_count f ≤ m → forest_of m (records f i p) i ≡ f
unfolding records node_count forest_of
forest-of-records zero none i p h = refl
forest-of-records (suc m) none i p h = refl
forest-of-records zero (tree n c s) i p h = absurd (omega arith)
forest-of-records (suc m) (tree n c s) i p h =
    forest_step m n c s i p
    ∙ ap₂ (tree n) (forest-of-records m c (suc i) i (omega arith)) (forest-of-records m s (i + suc (node_count c)) p (omega arith))

pub begins-append : (xs ys : List ℕ) → begins xs (xs ++ ys) ≡ true
unfolding begins
begins-append [] ys = refl
begins-append (x ∷ xs) ys = and-true _ _ (eq-eqb x x refl) (begins-append xs ys)

pub begins-true : (xs ys : List ℕ) → begins xs ys ≡ true → ys ≡ xs ++ drop (length xs) ys
unfolding begins
begins-true [] ys h = refl
begins-true (x ∷ xs) [] h = absurd (false≢true h)
begins-true (x ∷ xs) (y ∷ ys) h =
    ap₂ ◌∷◌ (sym (eqb-true x y (and_left (eqb x y) _ h))) (begins-true xs ys (and_right (eqb x y) _ h))

-- the bytes of a plan spell it, whatever follows
pub candidate-of : (P : Plan) (rest : List ℕ) → candidate (encoding P ++ rest) ≡ P
unfolding candidate encoding
candidate-of P rest =
    ap candidate (append_assoc front all-records rest)
    ∙ (λ i. record { ports = ports-of-header u n k t i; sets = sets-of-header u n k t i; formula = formula-of (nodes-of-header u n k t i) })
    ∙ (λ i. record { ports = u; sets = n; formula = spelled i })
  where
    u : ℕ
    u = P.ports

    n : ℕ
    n = P.sets

    k : ℕ
    k = node_count P.formula

    all-records : List ℕ
    all-records = records P.formula 0 65535

    front : List ℕ
    front = header u n k

    t : List ℕ
    t = all-records ++ rest

    formula-of : ℕ → Forest
    formula-of x = forest_of x (take (record_length * x) (records_of (front ++ t))) 0

    own : take (record_length * k) (records_of (front ++ t)) ≡ all-records
    own =
        ap (take (record_length * k)) (records-of-header u n k t)
        ∙ take_at all-records rest (record_length * k) (length-records P.formula 0 65535)

    spelled : formula-of k ≡ P.formula
    spelled = ap (λ (l : List ℕ). forest_of k l 0) own ∙ forest-of-records k P.formula 0 65535 (omega arith)

-- A table that passes is the encoding of exactly one plan, and the table of a plan passes.
pub decode-complete : (bytes : List ℕ) (P : Plan) → TableOf bytes P → decode bytes ≡ sound P
unfolding decode
decode-complete bytes P t =
    let e : candidate bytes ≡ P = ap candidate t.is ∙ candidate-of P t.rest in
    let b : begins (encoding (candidate bytes)) bytes ≡ true = rw e (rw t.is (begins-append (encoding P) t.rest)) in
    let r : plan_rule (candidate bytes) ≡ true = rw e t.rules in
    ap (λ (x : Bool). cond x (sound (candidate bytes)) broken) (and-true _ _ b r) ∙ ap sound e

abbrev plan_or : Plan → Decoded → Plan
plan_or Q broken = Q
plan_or Q (sound P) = P

abbrev is_sound : Decoded → Bool
is_sound broken = false
is_sound (sound P) = true

pub decode-sound : (bytes : List ℕ) (P : Plan) → decode bytes ≡ sound P → TableOf bytes P
unfolding decode
decode-sound bytes P h = go (begins (encoding (candidate bytes)) bytes && plan_rule (candidate bytes)) refl h
  where
    go : (b : Bool) → (begins (encoding (candidate bytes)) bytes && plan_rule (candidate bytes)) ≡ b
        → cond b (sound (candidate bytes)) broken ≡ sound P → TableOf bytes P
    go false e q = absurd (false≢true (ap is_sound q))
    go true e q =
        let c : candidate bytes ≡ P = ap (plan_or P) q in
        record {
          rest = drop (length (encoding (candidate bytes))) bytes;
          is = begins-true (encoding (candidate bytes)) bytes (and_left _ _ e)
              ∙ ap (λ (Q : Plan). encoding Q ++ drop (length (encoding (candidate bytes))) bytes) c;
          rules = rw c at (and_right (begins (encoding (candidate bytes)) bytes) _ e);
        }

pub table-iff : (bytes : List ℕ) (P : Plan) → TableOf bytes P ↔ (decode bytes ≡ sound P)
table-iff bytes P = (decode-complete bytes P, decode-sound bytes P)

-- two plans of one table are one
pub one-plan : (bytes : List ℕ) (P Q : Plan) → TableOf bytes P → TableOf bytes Q → P ≡ Q
one-plan bytes P Q p q = ap (plan_or P) (sym (decode-complete bytes P p) ∙ decode-complete bytes Q q)
