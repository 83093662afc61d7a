-- The records of a forest, written tree by tree. Assumes nothing.
use mathlib.Core.Path.{◌≡◌, sym, ap, ◌∙◌}
use mathlib.Core.List.{List, ◌++◌, append_assoc, append-nil}
use Prim.Native.Nat.{ℕ, suc, ◌+◌, ◌*◌, ◌≤◌, ◌<◌}
use native.Mathlib.Nat.{add-zero, mul-add, mul-one}
use native.Mathlib.Omega.{arith}
use native.Mathlib.Numerals.{add-one}
use lib.ListN.{length}
use Rattle.logic.specs.Formula.{Node, Forest, none, tree, node_count}
use Rattle.table_format.specs.Bytes.{record_length, record_of, record_bytes, records}
use Rattle.table_format.proofs.Bytes.{length-record}
use Rattle.table_format.proofs.Encoding.{length-records}
use Rattle.text_core.proofs.Siblings.{append}
use Rattle.table_format.specs.declared.Fields.{Fields}
use Rattle.text_emit.specs.inner.Fields.{Shows}
use Rattle.table_format.specs.inner.Written.{field_bytes, Written, Records}
use Rattle.table_format.proofs.Writing.{written_then, written-front, written_none}

pub count-append : (f s : Forest) → node_count (append f s) ≡ node_count f + node_count s
unfolding append node_count
count-append none s = omega arith
count-append (tree n c r) s = omega (arith, count-append r s)

-- The records of some trees and their later siblings.
pub records-append : (f s : Forest) (i p : ℕ) → records (append f s) i p ≡ records f i p ++ records s (i + node_count f) p
unfolding append records node_count
records-append none s i p = ap (λ (n : ℕ). records s n p) (sym (add-zero i))
records-append (tree n c r) s i p =
    let end = i + suc (node_count c) in
    let last : end + node_count r ≡ i + (suc (node_count c) + node_count r) = omega arith in
    ap (λ (l : List ℕ). record_of n p end ++ (records c (suc i) i ++ l)) (records-append r s end p ∙ ap (λ (m : ℕ). records r end p ++ records s m p) last)
    ∙ sym (append_assoc (record_of n p end) (records c (suc i) i ++ records r end p) _
    ∙ ap (λ (l : List ℕ). record_of n p end ++ l) (append_assoc (records c (suc i) i) (records r end p) _))

pub shown : (f : Fields) (n : Node) (parent end : ℕ) → Shows f n → field_bytes f parent end ≡ record_of n parent end
unfolding field_bytes record_of record_bytes
shown f n parent end s = λ i. record_bytes (s.kind-is i) (s.relation-is i) (s.a-is i) (s.b-is i) parent end

fewer : (i m n x : ℕ) → record_length * n ≤ x → m ≤ n → record_length * m ≤ x
unfolding record_length
fewer i m n x h g = omega arith

next_place : (i : ℕ) → record_length * (i + 1) ≡ record_length * i + record_length
next_place i = mul-add record_length i 1 ∙ ap (λ (x : ℕ). record_length * i + x) (mul-one record_length)

-- Some trees, then their later siblings.
pub records-both : (f g : Forest) (parent i n r : ℕ) (B M O : List ℕ) → Records f parent i B M n → Records g parent n M O r → length M ≡ length B
    → Records (append f g) parent i B O r
unfolding Records
records-both f g parent i n r B M O F G same room =
    let all = count-append f g in
    let P = F (fewer i (i + node_count f) (i + node_count (append f g)) (length B) room (omega arith)) in
    let Q = G (fewer i (n + node_count g) (i + node_count (append f g)) (length M) (rw same room) (omega (arith, P.next-is))) in
    record {
      next-is = omega (arith, P.next-is, Q.next-is);
      bytes-are = rw records-append
          (written_then (record_length * i) (records f i parent) (records g (i + node_count f) parent) B M O P.bytes-are
          (behind P.next-is Q.bytes-are));
    }
  where
    behind : n ≡ i + node_count f → Written (record_length * n) (records g n parent) M O
        → Written (record_length * i + length (records f i parent)) (records g (i + node_count f) parent) M O
    behind e W = rw (length-records, ← mul-add, ← e) W

-- Children first, then the record of their node.
pub records-tree : (n : Node) (c : Forest) (parent i r : ℕ) (B M O : List ℕ) → Records c i (i + 1) B M r
    → Written (record_length * i) (record_of n parent r) M O → Records (tree n c none) parent i B O r
unfolding Records records node_count
records-tree n c parent i r B M O C N room =
    let P = C (fewer i (i + 1 + node_count c) (i + (suc (node_count c) + 0)) (length B) room (omega arith)) in
    let end : r ≡ i + suc (node_count c) = omega (arith, P.next-is) in
    record {
      next-is = omega arith;
      bytes-are = rw (← end, append-nil)
          (written-front (record_length * i) (record_of n parent r) (records c (suc i) i) B M O
          (rw (length-record, ← next_place, ← add-one i) P.bytes-are) N);
    }

-- No room for a tree: nothing is asked.
pub records-full : (n : Node) (c s : Forest) (parent i r : ℕ) (B O : List ℕ) → length B < record_length * (i + 1) → Records (tree n c s) parent i B O r
unfolding Records node_count record_length
records-full n c s parent i r B O h room = absurd (omega arith)

pub records-none : (parent i : ℕ) (B : List ℕ) → Records none parent (i + 1) B B (i + 1)
unfolding Records records node_count
records-none parent i B room = record { next-is = omega arith; bytes-are = written_none _ B }
