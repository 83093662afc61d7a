use Rattle.std.proofs.Common.{arith, inl, inr}
use Rattle.text_names.proofs.Finding.{finds-early, finds_past, finds-leaf, finds-neg, finds-bind, finds-none, finds-next, finds-done}
use Rattle.text_names.proofs.+faults.Goals.{last_faults-then-e-lt2-via-then-e-lt2, last_faults-then-e-lt2-via-else-e-lt2+then-t-e, last_faults-in_default-2-via-then-this-lt2, last_faults-in_default-2-via-else-this-lt2+else-this-lt5}
use Rattle.text_names.proofs.+faults.Goals as goal

pub find_faults-loop-j-preserved : goal.find_faults-loop-j-preserved
find_faults-loop-j-preserved t c =
    finds-next _ _ _ _ _ _ _ _ _ _ c.joins_at-joins.ensures c.loop-j-test.true c.loop-j.auto.j c.loop-j.invariant (rw (c.from-left.ensures, c.payload_at.ensures) at c.find_faults.ensures) c.both_faults-faults.ensures

pub find_faults-returns : goal.find_faults-returns
find_faults-returns t c =
    finds-done _ _ _ _ _ _ _ c.loop-j-test.false c.loop-j.invariant

pub last_faults-returns-then-e-lt2 : goal.last_faults-returns-then-e-lt2
last_faults-returns-then-e-lt2 t c =
    elim c.then-e-lt2.branch [
      | last_faults-then-e-lt2-via-then-e-lt2 w ↦ finds-early _ _ _ _ _ _ w.if-e-lt2.true
      | last_faults-then-e-lt2-via-else-e-lt2+then-t-e w ↦ finds_past _ _ _ _ _ _ w.if-t-e.true
    ]

pub last_faults-returns-then-is_literal : goal.last_faults-returns-then-is_literal
last_faults-returns-then-is_literal t c =
    finds-leaf _ _ _ _ _ _ (cc) (rw (c.operator_at-operator.ensures, c.payload_at-x.ensures) at c.literal_faults.ensures)

pub last_faults-returns-in-2 : goal.last_faults-returns-in-2
last_faults-returns-in-2 t c =
    finds-neg _ _ _ _ _ _ (omega arith) c.find_faults.ensures

pub last_faults-returns-in-3 : goal.last_faults-returns-in-3
last_faults-returns-in-3 t c =
    finds-bind _ _ _ _ _ _ (cc) (λ m. omega arith) _ _ _ _ (omega arith) (rw c.payload_at-x.ensures at c.with_letter.ensures) (rw c.payload_at-x.ensures at c.is_bound.ensures) c.deeper.ensures c.find_faults-a.ensures c.quantifier_faults.ensures

pub last_faults-returns-in_default-2 : goal.last_faults-returns-in_default-2
last_faults-returns-in_default-2 t c =
    finds-none _ _ _ _ _ _ (cc) c.requires (elim c.in_default-2.branch [
      | last_faults-in_default-2-via-then-this-lt2 w ↦ inl (omega arith)
      | last_faults-in_default-2-via-else-this-lt2+else-this-lt5 w ↦ inr (omega arith)
    ])
