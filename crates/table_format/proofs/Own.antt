-- Bytes past a plan's own are never read, and every plan within the rules has a table of bytes. Assumes nothing.
use mathlib.Core.Path.{◌≡◌, refl, sym, ap, ap₂, ◌∙◌, subst}
use mathlib.Core.Bool.{Bool, true, false, false≢true}
use mathlib.Core.List.{List, [], ◌++◌, append_assoc, append-nil}
use Prim.Native.Nat.{ℕ, suc, ◌+◌, ◌≤◌, ◌<◌}
use native.Mathlib.Omega.{arith}
use lib.Dec.{ltb}
use lib.ListN.{length, take, drop, length-append, take-append-drop}
use lib.Seq.{take_all, take_at, length-take-le}
use borrow.Author.Tests.{leb-true, ltb-true, ltb-false}
use Rattle.logic.specs.Formula.{Test, isin, notin, port, size, Node, root, all, any, and, or, lit, Forest, none, tree, Plan, test_kind, kind_number, node_count, child_depth}
use Rattle.logic.proofs.Lists.{and_left, and_right}
use Rattle.logic.proofs.Relations.{relation-number-le}
use Rattle.table_format.specs.Bytes.{header_length, table_bytes, ports_field, sets_field, nodes_field, test_relation, test_a, test_b, relation_byte, a_byte, b_byte, record_of, records, header, encoding}
use Rattle.table_format.specs.inner.Fields.{Bytes}
use Rattle.table_format.specs.Rules.{every_node, depth_rule, test_rule, literal_rule, inner_rule, node_rule, plan_rule}
use Rattle.table_format.specs.Decode.{TableOf, candidate, Decoded, broken, sound, decode, own_bytes}
use Rattle.table_format.proofs.Bytes.{header-within, length-header, sets-of-header, nodes-of-header, sets-of-front, nodes-of-front, bytes-append, no_bytes, NodeBytes, record-bytes, header-bytes}
use Rattle.table_format.proofs.Encoding.{length-records, candidate-of, decode-complete, decode-sound}
use Rattle.table_format.proofs.Rooted.{every-node, rooted, RootedIs, rooted-nodes, front-is, open-table, refused, is-rooted, rooted-is}

-- a table cut short is broken
pub cut_short : (l : List ℕ) → length l < own_bytes l → decode l ≡ broken
unfolding own_bytes
cut_short l h = refused l (λ P t. omega (arith, (front-is l (open-table l P t).front).whole))

-- a plan's own bytes are its encoding
own-encoding : (P : Plan) (rest : List ℕ) → length (encoding P) ≡ own_bytes (encoding P ++ rest)
unfolding own_bytes encoding
own-encoding P rest =
    let k = node_count P.formula in
    let front = header P.ports P.sets k in
    let t = records P.formula 0 65535 in
    length-append front t
    ∙ ap₂ ◌+◌ (length-header P.ports P.sets k) (length-records P.formula 0 65535)
    ∙ sym (ap₂ table_bytes
    (ap sets_field (append_assoc front t rest) ∙ sets-of-header P.ports P.sets k (t ++ rest))
    (ap nodes_field (append_assoc front t rest) ∙ nodes-of-header P.ports P.sets k (t ++ rest)))

-- What the table of a plan says of its own bytes.
pub record OwnIs (l : List ℕ) (P : Plan) : Type 0 where
  pub long : own_bytes l ≡ table_bytes P.sets (node_count P.formula)
  pub bytes-are : take (own_bytes l) l ≡ encoding P
  pub ports-are : ports_field l ≡ P.ports

pub own_is : (l : List ℕ) (P : Plan) → decode l ≡ sound P → OwnIs l P
unfolding encoding candidate
own_is l P d =
    let t = decode-sound l P d in
    let k = node_count P.formula in
    let e = ap own_bytes t.is ∙ sym (own-encoding P t.rest) in
    record {
      long = e ∙ length-append (header P.ports P.sets k) (records P.formula 0 65535)
          ∙ ap₂ ◌+◌ (length-header P.ports P.sets k) (length-records P.formula 0 65535);
      bytes-are = ap (λ (x : List ℕ). take (own_bytes x) x) t.is ∙ take_at (encoding P) t.rest _ (own-encoding P t.rest);
      ports-are = ap ports_field t.is ∙ ap (λ (Q : Plan). Q.ports) (candidate-of P t.rest);
    }

own-table : (l rest : List ℕ) (P : Plan) → TableOf l P → TableOf (take (own_bytes l) l ++ rest) P
own-table l rest P t = record {
  rest = rest;
  is = ap (λ (x : List ℕ). x ++ rest)
      (ap (λ (x : List ℕ). take (own_bytes x) x) t.is
      ∙ take_at (encoding P) t.rest (own_bytes (encoding P ++ t.rest)) (own-encoding P t.rest));
  rules = t.rules;
}

-- the header stands in a table's own bytes
own_same : (l rest : List ℕ) → own_bytes l ≤ length l → own_bytes (take (own_bytes l) l ++ rest) ≡ own_bytes l
unfolding own_bytes
own_same l rest h =
    let m = own_bytes l in
    let own = take m l in
    let long : header_length ≤ length own = omega (arith, length-take-le m l h, header-within (sets_field l)) in
    ap₂ table_bytes
    (sets-of-front own rest long ∙ sym (sets-of-front own (drop m l) long) ∙ ap sets_field (take-append-drop m l))
    (nodes-of-front own rest long ∙ sym (nodes-of-front own (drop m l) long) ∙ ap nodes_field (take-append-drop m l))

-- "Bytes [..] past a plan's own are never [..] read."
pub own-only : (l rest : List ℕ) → own_bytes l ≤ length l → decode (take (own_bytes l) l ++ rest) ≡ decode l
own-only l rest h = go (decode l) refl
  where
    m : ℕ
    m = own_bytes l

    other : List ℕ
    other = take m l ++ rest

    long : length (take m l) ≡ own_bytes other
    long = length-take-le m l h ∙ sym (own_same l rest h)

    back : take (own_bytes other) other ++ drop m l ≡ l
    back = ap (λ (x : List ℕ). x ++ drop m l) (take_at (take m l) rest (own_bytes other) long) ∙ take-append-drop m l

    sound-both : (x y : List ℕ) (P : Plan) → decode x ≡ sound P → decode (take (own_bytes x) x ++ y) ≡ sound P
    sound-both x y P e = decode-complete (take (own_bytes x) x ++ y) P (own-table x y P (decode-sound x P e))

    none-else : (x : Decoded) → decode other ≡ x → decode l ≡ broken → x ≡ broken
    none-else broken e b = refl
    none-else (sound P) e b = sym (sound-both other (drop m l) P e) ∙ ap decode back ∙ b

    go : (x : Decoded) → decode l ≡ x → decode other ≡ x
    go broken e = none-else (decode other) refl e
    go (sound P) e = sound-both l rest P e

-- Two byte strings that agree on the own bytes of one, and on being long enough for them, are tables of the same plan or of none.
pub own-agree : (l l' : List ℕ) → take (own_bytes l) l ≡ take (own_bytes l) l' → ltb (length l) (own_bytes l) ≡ ltb (length l') (own_bytes l)
    → decode l ≡ decode l'
own-agree l l' e s = go (ltb (length l) (own_bytes l)) refl
  where
    m : ℕ
    m = own_bytes l

    whole : (x : List ℕ) → ltb (length x) m ≡ true → take m x ≡ x
    whole x q = take_all m x (omega (arith, ltb-true (length x) m q))

    go : (b : Bool) → ltb (length l) m ≡ b → decode l ≡ decode l'
    go true q = ap decode (sym (whole l q) ∙ e ∙ whole l' (sym s ∙ q))
    go false q =
        sym (own-only l (drop m l') (ltb-false (length l) m q))
        ∙ ap decode (ap (λ (x : List ℕ). x ++ drop m l') e ∙ take-append-drop m l')

root-bytes : NodeBytes root
unfolding kind_number relation_byte a_byte b_byte
root-bytes = record { kind = omega arith; relation = omega arith; a = omega arith; b = omega arith }

test-bytes : (sets d : ℕ) (t : Test) → sets ≤ 16 → d ≤ 3 → test_rule sets d t ≡ true
    → (test_kind t < 256) × (test_relation t < 256) × (test_a t < 256) × (test_b t < 256)
unfolding test_rule test_kind test_relation test_a test_b
test-bytes sets d (isin v S) s e h =
    omega (arith, ltb-true v d (and_left (ltb v d) _ h), ltb-true S sets (and_right (ltb v d) _ h))
test-bytes sets d (notin v S) s e h =
    omega (arith, ltb-true v d (and_left (ltb v d) _ h), ltb-true S sets (and_right (ltb v d) _ h))
test-bytes sets d (port r v w) s e h =
    omega (arith, ltb-true v d (and_left (ltb v d) _ h), ltb-true w d (and_right (ltb v d) _ h), relation-number-le r)
test-bytes sets d (size r S c) s e h =
    omega (arith, ltb-true S sets (and_left (ltb S sets) _ h), leb-true c 64 (and_right (ltb S sets) _ h), relation-number-le r)

node-bytes : (sets d : ℕ) (n : Node) → sets ≤ 16 → d ≤ 3 → inner_rule sets n d ≡ true → NodeBytes n
unfolding inner_rule literal_rule kind_number relation_byte a_byte b_byte
node-bytes sets d root s e h = absurd (false≢true h)
node-bytes sets d all s e h = record { kind = omega arith; relation = omega arith; a = omega arith; b = omega arith }
node-bytes sets d any s e h = record { kind = omega arith; relation = omega arith; a = omega arith; b = omega arith }
node-bytes sets d and s e h = record { kind = omega arith; relation = omega arith; a = omega arith; b = omega arith }
node-bytes sets d or s e h = record { kind = omega arith; relation = omega arith; a = omega arith; b = omega arith }
node-bytes sets d (lit l) s e h =
    let b = test-bytes sets d l.test s e h in
    record { kind = b.0; relation = b.1; a = b.2; b = b.3 }

records-bytes : (sets : ℕ) → sets ≤ 16 → (f : Forest) (d i p : ℕ) → every_node (node_rule sets) f d ≡ true → i + node_count f < 65536 → p < 65536
    → Bytes (records f i p)
unfolding records node_count depth_rule
records-bytes sets hs none d i p h few hp = no_bytes
records-bytes sets hs (tree n c s) d i p h few hp =
    let r = every-node sets n c s d h in
    let e = i + suc (node_count c) in
    bytes-append (record_of n p e) (records c (suc i) i ++ records s e p)
    (record-bytes n p e (node-bytes sets d n hs (leb-true d 3 r.1) r.0) hp (omega arith))
    (bytes-append (records c (suc i) i) (records s e p)
    (records-bytes sets hs c (child_depth n d) (suc i) i r.4 (omega arith) (omega arith)) (records-bytes sets hs s d e p r.5 (omega arith) hp))

rooted-bytes : (u n : ℕ) (c : Forest) → RootedIs u n c → Bytes (encoding (rooted u n c))
unfolding encoding records
rooted-bytes u n c r =
    let k = node_count (tree root c none) in
    let e = 0 + suc (node_count c) in
    bytes-append (header u n k) (records (tree root c none) 0 65535)
    (header-bytes u n k (omega (arith, r.ports64)) (omega (arith, r.sets16)) (omega (arith, rooted-nodes c, r.nodes512)))
    (bytes-append (record_of root 65535 e) (records c 1 0 ++ [])
    (record-bytes root 65535 e root-bytes (omega arith) (omega (arith, r.nodes512)))
    (bytes-append (records c 1 0) [] (records-bytes n r.sets16 c 0 1 0 r.rules (omega (arith, r.nodes512)) (omega arith)) no_bytes))

-- a plan within the rules has a table of bytes
pub encoding-bytes : (P : Plan) → plan_rule P ≡ true → Bytes (encoding P)
encoding-bytes P h =
    let c = is-rooted P h in
    subst (λ Q. Bytes (encoding Q)) (sym c.1) (rooted-bytes P.ports P.sets c.0 (rooted-is P h))

-- and the table passes
pub own-decodes : (P : Plan) → plan_rule P ≡ true → decode (encoding P) ≡ sound P
own-decodes P h = decode-complete (encoding P) P record { rest = []; is = sym (append-nil (encoding P)); rules = h }
