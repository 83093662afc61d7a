use borrow.Author.Tests.{eq-eqb, ne_eqb}
use Rattle.logic.specs.inner.MoveFields.{t_end}
use Rattle.move_legal.proofs.t_end.Goals as goal

pub returns-then-kind-eq3 : goal.returns-then-kind-eq3
unfolding t_end
returns-then-kind-eq3 c =
    rw (eq-eqb _ _ c.if-kind-eq3.true)

pub returns-else-kind-eq3 : goal.returns-else-kind-eq3
unfolding t_end
returns-else-kind-eq3 c =
    rw (ne_eqb _ _ c.if-kind-eq3.false)
