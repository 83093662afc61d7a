use borrow.Author.Tests.{eq-eqb, ne_eqb}
use Rattle.cells_touch.specs.inner.Hits.{at_port}
use Rattle.cells_touch.proofs.Changed.at_port.Goals as goal

pub returns-then-x-self : goal.returns-then-x-self
unfolding at_port
returns-then-x-self c =
    rw (eq-eqb _ _ c.if-x-self.true)

pub returns-then-x-self-2 : goal.returns-then-x-self-2
unfolding at_port
returns-then-x-self-2 c =
    rw (ne_eqb _ _ c.if-x-self.false, eq-eqb _ _ c.if-x-self-2.true)

pub returns-else-x-self-2 : goal.returns-else-x-self-2
unfolding at_port
returns-else-x-self-2 c =
    rw (ne_eqb _ _ c.if-x-self.false, ne_eqb _ _ c.if-x-self-2.false)
