use borrow.Author.Tests.{eq-eqb, ne_eqb}
use Rattle.logic.specs.inner.MoveFields.{q_end}
use Rattle.move_legal.proofs.q_end.Goals as goal

pub returns-then-kind-eq4 : goal.returns-then-kind-eq4
unfolding q_end
returns-then-kind-eq4 c =
    rw (eq-eqb _ _ c.if-kind-eq4.true)

pub returns-else-kind-eq4 : goal.returns-else-kind-eq4
unfolding q_end
returns-else-kind-eq4 c =
    rw (ne_eqb _ _ c.if-kind-eq4.false)
