-- The whole plan table: the header, the root and the core's records. Assumes nothing.
use mathlib.Core.Path.{◌≡◌, refl, sym, ap, ap₂, ◌∙◌}
use mathlib.Core.Bool.{true}
use mathlib.Core.List.{List, [], ◌++◌, append_assoc, append-nil}
use Prim.Native.Nat.{ℕ, ◌+◌, ◌*◌, ◌-◌, ◌≤◌}
use native.Mathlib.Nat.{mul-zero}
use native.Mathlib.Omega.{arith}
use lib.ListN.{length, take, drop, length-drop}
use lib.Seq.{length-take-le, take_at, drop_at, drop-drop}
use Rattle.logic.specs.Formula.{root, Forest, none, kind_number, node_count}
use Rattle.text_tree.specs.Tree.{Tree}
use Rattle.text_tree.proofs.Sets.{sets-length}
use Rattle.text_core.specs.Core.{alone, place, core_of, plan_of}
use Rattle.table_format.specs.Bytes.{record_length, records_from, table_bytes, relation_byte, a_byte, b_byte, records, header, encoding}
use Rattle.table_format.proofs.Bytes.{length-header}
use Rattle.table_format.proofs.Encoding.{length-records}
use Rattle.table_format.specs.declared.Fields.{Fields}
use Rattle.text_emit.specs.inner.Fields.{letters, bound_letters}
use Rattle.table_format.specs.inner.Written.{field_bytes, Written, Records}
use Rattle.text_emit.specs.inner.Emits.{above_of, EmitReady, Emittable, Emits, PutsCore, PlanReady, WritesPlan}
use Rattle.text_emit.proofs.Forests.{records-tree}
use Rattle.text_emit.proofs.Emitting.{recorded, PlainFields, plain-shows}
use Rattle.table_format.proofs.Writing.{written_start}

-- a table that the records fill
filled : (f : Forest) (parent r : ℕ) (B O : List ℕ) → Records f parent 0 B O r → length B ≡ record_length * node_count f → O ≡ records f 0 parent
unfolding Records Written
filled f parent r B O R long =
    let P = R (omega (arith, long, ap (λ (x : ℕ). record_length * x) (zero-plus (node_count f)))) in
    P.bytes-are [] B [] (sym (append-nil B)) (sym (mul-zero record_length)) (long ∙ sym (length-records f 0 parent)) ∙ append-nil (records f 0 parent)
  where
    zero-plus : (n : ℕ) → 0 + n ≡ n
    zero-plus n = omega arith

pub puts-core : (t : List ℕ) (e r : ℕ) (sets B M O : List ℕ) (F : Fields)
    → Emits t e sets (record { count = 0; outer = 0; middle = 0; inner = 0 }) true (record { kind = 0; number = 0 }) 1 B M r → PlainFields 0 F
    → Written (record_length * 0) (field_bytes F 65535 r) M O → PutsCore t e sets B O
unfolding PutsCore core_of bound_letters letters above_of kind_number relation_byte a_byte b_byte
puts-core t e r sets B M O F E P W a S long =
    filled (core_of sets a) 65535 r B O
    (records-tree root (place sets [] true a alone none) 65535 0 r B M O (E.writes a S)
    (recorded F root _ 65535 r M O (plain-shows 0 F root P refl (refl, refl, refl)) W)) long

-- The header, and behind it a part lent for the records.
plan-bytes : (u nodes e from last : ℕ) (sets t B M Y : List ℕ) → Written 0 (header u (length sets) nodes) B M
    → from ≡ records_from (length sets) → last ≡ table_bytes (length sets) nodes → last ≤ length B
    → PutsCore t e sets (take (last - from) (drop from M)) Y → (a : Tree) → Emittable t e 0 a → nodes ≡ node_count (core_of sets a)
    → take from M ++ (Y ++ drop (last - from) (drop from M))
    ≡ (header u (length sets) (node_count (core_of sets a)) ++ records (core_of sets a) 0 65535) ++ drop (table_bytes (length sets) nodes) B
unfolding PutsCore
plan-bytes u nodes e from last sets t B M Y H first is room C a S count =
    let h = header u (length sets) nodes in
    let lh : length h ≡ from = length-header u (length sets) nodes ∙ sym first in
    let rest : List ℕ = drop from B in
    let mid : M ≡ h ++ rest = written_start h B M H (omega arith) ∙ ap (λ (x : ℕ). h ++ drop x B) lh in
    let front : take from M ≡ h = ap (take from) mid ∙ take_at h rest from lh in
    let back : drop from M ≡ rest = ap (drop from) mid ∙ drop_at h rest from lh in
    let n : last - from ≡ record_length * nodes = omega arith in
    let long : length (take (last - from) (drop from M)) ≡ record_length * node_count (core_of sets a) =
    ap (λ (l : List ℕ). length (take (last - from) l)) back ∙ length-take-le (last - from) rest (rw length-drop (omega arith)) ∙ n
    ∙ ap (λ (x : ℕ). record_length * x) count in
    let own : Y ≡ records (core_of sets a) 0 65535 = C a S long in
    let tail : drop (last - from) (drop from M) ≡ drop (table_bytes (length sets) nodes) B =
    ap₂ (λ (x : ℕ) (l : List ℕ). drop x l) n back ∙ drop-drop (record_length * nodes) from B ∙ ap (λ (x : ℕ). drop (x + record_length * nodes) B) first in
    ap₂ (λ (x y : List ℕ). x ++ y) front (ap₂ (λ (x y : List ℕ). x ++ y) own tail)
    ∙ sym (append_assoc h (records (core_of sets a) 0 65535) _)
    ∙ ap (λ (x : ℕ). (header u (length sets) x ++ records (core_of sets a) 0 65535) ++ drop (table_bytes (length sets) nodes) B) count

pub writes-plan : (u nodes e from last : ℕ) (letters t B M Y : List ℕ) → Written 0 (header u (length letters) nodes) B M
    → from ≡ records_from (length letters) → last ≡ table_bytes (length letters) nodes → last ≤ length B
    → PutsCore t e letters (take (last - from) (drop from M)) Y
    → WritesPlan u letters t e nodes B (take from M ++ (Y ++ drop (last - from) (drop from M)))
unfolding WritesPlan encoding plan_of
writes-plan u nodes e from last letters t B M Y H first is room C sets a own S count =
    rw (sets-length sets letters own, own) (plan-bytes u nodes e from last letters t B M Y H first is room C a S count)

pub part-ready : (sets B M : List ℕ) (nodes from last : ℕ) → PlanReady sets nodes B → length M ≡ length B
    → from ≡ records_from (length sets) → last ≡ table_bytes (length sets) nodes → EmitReady sets 1 (take (last - from) (drop from M))
unfolding record_length
part-ready sets B M nodes from last P same first is =
    let long : length (take (last - from) (drop from M)) ≡ last - from =
    length-take-le (last - from) (drop from M) (rw length-drop (omega (arith, P.room))) in
    record { few-sets = P.few-sets; placed = rw long (omega (arith, P.some)); few = rw long (omega (arith, P.few)) }
