use Rattle.std.proofs.Common.{arith, inl, inr}
use Rattle.text_counts.proofs.Counting.{totals-early, totals-past, totals-leaf, totals-neg, totals-bind, totals-none, totals-next, totals-done}
use Rattle.text_counts.proofs.+totals.Goals.{last_totals-then-e-lt2-via-then-e-lt2, last_totals-then-e-lt2-via-else-e-lt2+then-t-e}
use Rattle.text_counts.proofs.+totals.Goals as goal

pub last_totals-returns-then-e-lt2 : goal.last_totals-returns-then-e-lt2
last_totals-returns-then-e-lt2 t c =
    elim c.then-e-lt2.branch [
      | last_totals-then-e-lt2-via-then-e-lt2 w ↦ totals-early _ _ _ _ _ w.if-e-lt2.true
      | last_totals-then-e-lt2-via-else-e-lt2+then-t-e w ↦ totals-past _ _ _ _ _ w.if-t-e.true
    ]

pub last_totals-returns-then-is_literal : goal.last_totals-returns-then-is_literal
last_totals-returns-then-is_literal t c =
    totals-leaf _ _ _ _ _ (cc) c.ones-then-is_literal.ensures

pub last_totals-returns-in-2 : goal.last_totals-returns-in-2
last_totals-returns-in-2 t c =
    totals-neg _ _ _ _ _ _ (omega arith) c.negated.ensures c.part_totals-b.ensures

pub last_totals-returns-in-3 : goal.last_totals-returns-in-3
last_totals-returns-in-3 t c =
    totals-bind _ _ _ _ _ _ (cc) (λ m. omega arith) (omega arith) c.quantified.ensures c.part_totals-b.ensures

pub last_totals-returns-in_default : goal.last_totals-returns-in_default
last_totals-returns-in_default t c =
    totals-none _ _ _ _ _ c.requires.1 (cc) (inl (omega arith))

pub last_totals-returns-in_default-2 : goal.last_totals-returns-in_default-2
last_totals-returns-in_default-2 t c =
    totals-none _ _ _ _ _ c.requires.1 (cc) (inr (omega arith))

pub part_totals-loop-j-preserved : goal.part_totals-loop-j-preserved
part_totals-loop-j-preserved t c =
    totals-next _ _ _ _ _ _ _ _ _ c.joins_at-joins.ensures c.loop-j-test.true c.loop-j.auto.j c.loop-j.invariant (rw (c.from.ensures, c.payload_at.ensures) at c.part_totals-left.ensures) (rw c.operator_at.ensures at c.joined-totals.ensures)

pub part_totals-returns : goal.part_totals-returns
part_totals-returns t c =
    totals-done _ _ _ _ _ _ c.loop-j-test.false c.loop-j.invariant
