use Rattle.std.proofs.Common.{◌≤◌, arith, inl, inr}
use Rattle.text_emit.proofs.+emission.Goals.{emit-then-e-lt2-via-then-e-lt2, emit-then-e-lt2-via-else-e-lt2+then-t-e, emit-in_default-via-then-operator-lt2, emit-in_default-via-else-operator-lt2+else-operator-lt5}
use Rattle.table_format.specs.Bytes.{record_length}
use Rattle.text_emit.proofs.Emitting.{join-low, emits-early, emits-past, emits-leaf, emits-neg, emits-full, emits-bind, emits-cut, emits-join, join-merged, join-full, join-own, operands-parts, operands-arrows, onward-begun, onward-next}
use Rattle.text_emit.proofs.+emission.Goals as goal

pub emit-returns-then-e-lt2 : goal.emit-returns-then-e-lt2
emit-returns-then-e-lt2 t c =
    elim c.then-e-lt2.branch [
      | emit-then-e-lt2-via-then-e-lt2 w ↦ emits-early _ _ _ _ _ _ _ _ _ c.requires.placed w.if-e-lt2.true
      | emit-then-e-lt2-via-else-e-lt2+then-t-e w ↦ emits-past _ _ _ _ _ _ _ _ _ c.requires.placed w.if-t-e.true
    ]

pub emit-returns-then-is_literal : goal.emit-returns-then-is_literal
emit-returns-then-is_literal t c =
    emits-leaf _ _ _ _ _ _ _ _ _ _ (cc) (rw (c.operator_at-operator.ensures, c.payload_at-x.ensures) at c.put_literal.ensures)

pub emit-returns-in-2 : goal.emit-returns-in-2
emit-returns-in-2 t c =
    emits-neg _ _ _ _ _ _ _ _ _ _ (omega arith) c.emit.ensures

pub emit-returns-then-out-i : goal.emit-returns-then-out-i
unfolding record_length
emit-returns-then-out-i t c =
    emits-full _ _ _ _ _ _ _ _ _ _ (cc) (λ m. omega arith) c.requires.placed (omega arith) c.if-out-i.true

pub emit-returns-else-out-i : goal.emit-returns-else-out-i
emit-returns-else-out-i t c =
    emits-bind _ _ _ _ _ _ _ _ _ _ (cc) (λ m. omega arith) _ _ _ _ c.emit-end.auto.out (omega arith) (rw c.operator_at-operator.ensures at c.quantifier_kind-kind.ensures) (rw c.payload_at-x.ensures at c.with_letter.ensures) c.emit-end.ensures c.plain.ensures c.put_record.ensures

pub emit-returns-then-e-m : goal.emit-returns-then-e-m
emit-returns-then-e-m t c =
    let five : 5 ≤ c.operator_at-operator.result = join-low _ (cc) (elim c.in_default.branch [ emit-in_default-via-then-operator-lt2 w ↦ inl (omega arith) | emit-in_default-via-else-operator-lt2+else-operator-lt5 w ↦ inr (omega arith) ]) in
    emits-cut _ _ _ _ _ _ _ _ _ _ (cc) (λ m. omega arith) c.requires.placed (omega arith) (rw (c.from-m.ensures, c.payload_at-x.ensures) at c.if-e-m.true)

pub emit-returns-else-e-m : goal.emit-returns-else-e-m
emit-returns-else-e-m t c =
    let five : 5 ≤ c.operator_at-operator.result = join-low _ (cc) (elim c.in_default.branch [ emit-in_default-via-then-operator-lt2 w ↦ inl (omega arith) | emit-in_default-via-else-operator-lt2+else-operator-lt5 w ↦ inr (omega arith) ]) in
    emits-join _ _ _ _ _ _ _ _ _ _ (cc) (λ m. omega arith) (omega arith) (rw (c.from-m.ensures, c.payload_at-x.ensures, c.operator_at-operator.ensures) at c.joined.ensures)

pub joined-returns-then-kind-up : goal.joined-returns-then-kind-up
joined-returns-then-kind-up t c =
    join-merged _ _ _ _ _ _ _ _ _ _ _ _ _ c.joint_kind-kind.ensures c.if-kind-up.true c.operands.ensures

pub joined-returns-then-out-i : goal.joined-returns-then-out-i
unfolding record_length
joined-returns-then-out-i t c =
    join-full _ _ _ _ _ _ _ _ _ _ _ _ _ c.joint_kind-kind.ensures c.if-kind-up.false c.requires.placed c.if-out-i.true

pub joined-returns : goal.joined-returns
joined-returns t c =
    join-own _ _ _ _ _ _ _ _ _ _ _ _ _ _ _ c.joint_kind-kind.ensures c.if-kind-up.false c.operands-end.ensures c.plain.ensures c.put_record.ensures

pub operands-returns-then-operator-ge9 : goal.operands-returns-then-operator-ge9
operands-returns-then-operator-ge9 t c =
    operands-arrows _ _ _ _ _ _ _ _ _ _ _ _ _ _ c.if-operator-ge9.true c.joined-n.auto.out c.joined-n.ensures c.joined.ensures

pub operands-loop-next-init : goal.operands-loop-next-init
operands-loop-next-init t c =
    onward-begun _ _ _ _ _ _ _ _ (rw c.emit-n.auto.out c.emit-n.ensures.placed)

pub operands-loop-next-preserved : goal.operands-loop-next-preserved
operands-loop-next-preserved t c =
    onward-next _ _ _ _ _ _ _ _ _ _ _ _ _ _ _ _ c.loop-next.invariant (c.goes_on.ensures c.loop-next-test.true) c.emit-n-in-loop-next.auto.out (rw c.operator_at-next.ensures at c.left_at-in-loop-next.ensures) (rw c.operator_at-next.ensures at c.right_at-q-in-loop-next.ensures) (rw (c.from-left.ensures, c.payload_at.ensures) at c.emit-n-in-loop-next.ensures)

pub operands-returns : goal.operands-returns
operands-returns t c =
    operands-parts _ _ _ _ _ _ _ _ _ _ _ _ _ _ _ _ c.if-operator-ge9.false c.emit-n.auto.out c.left_at.ensures c.right_at-q.ensures c.emit-n.ensures (c.loop-next.invariant.onward _ _ c.emit.ensures)
