use borrow.Author.Tests.{ne_eqb, eq-eqb}
use Rattle.move_best.specs.inner.Choosing.{lowers_by}
use Rattle.call_improve.proofs.lowers.Goals as goal

pub returns-then-c-ne0 : goal.returns-then-c-ne0
unfolding lowers_by
returns-then-c-ne0 c =
    rw (ne_eqb c.args.c.count 0 c.if-c-ne0.true)

pub returns : goal.returns
unfolding lowers_by
returns c =
    rw (eq-eqb c.args.c.count 0 c.if-c-ne0.false)
