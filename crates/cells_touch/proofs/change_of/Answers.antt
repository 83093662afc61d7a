use Rattle.cells_touch.proofs.Telling.{tells-transfer, tells-swap, tells-one}
use Rattle.cells_touch.proofs.change_of.Goals as goal

pub returns-then-m-eq3 : goal.returns-then-m-eq3
returns-then-m-eq3 c =
    rw (c.change_at.ensures, c.wide-s.ensures.0, c.wide-p.ensures.0, c.wide.ensures.0) (tells-transfer c.args.m c.if-m-eq3.true)

pub returns-then-m-eq4 : goal.returns-then-m-eq4
returns-then-m-eq4 c =
    rw (c.change_at-then-m-eq4.ensures, c.wide-s.ensures.0, c.wide-p.ensures.0, c.wide-then-m-eq4.ensures.0) (tells-swap c.args.m c.if-m-eq4.true)

pub returns : goal.returns
returns c =
    rw (c.change_at-2.ensures, c.wide-s.ensures.0, c.wide-p.ensures.0) (tells-one c.args.m c.if-m-eq3.false c.if-m-eq4.false)
