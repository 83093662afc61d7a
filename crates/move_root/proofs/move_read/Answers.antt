use Rattle.std.proofs.Common.{arith}
use Rattle.move_root.proofs.Reading.{read-transfer, read-swap, read-add, read-drop}
use Rattle.move_root.proofs.move_read.Goals as goal

pub returns-then-m-eq3 : goal.returns-then-m-eq3
returns-then-m-eq3 c =
    read-transfer _ _ _ _ _ c.if-m-eq3.true c.transfer_read.ensures

pub returns-then-m-eq4 : goal.returns-then-m-eq4
returns-then-m-eq4 c =
    read-swap _ _ _ _ _ c.if-m-eq4.true c.swap_read.ensures

pub single_read-requires : goal.single_read-requires
single_read-requires c =
    (record { s-low = omega (arith, c.wide-s.ensures, c.requires.0); outcome-low = omega (arith, c.entering_size.ensures); p-low = omega (arith, c.requires.0) }, c.requires.1)

pub returns-then-m-eq1 : goal.returns-then-m-eq1
returns-then-m-eq1 c =
    read-add _ _ c.args.test c.args.m _ c.if-m-eq1.true c.wide-s.ensures.0 c.entering_size.ensures.0 c.single_read.ensures

pub single_read-requires-2 : goal.single_read-requires-2
single_read-requires-2 c =
    (record { s-low = omega (arith, c.wide-s.ensures, c.requires.0); outcome-low = omega (arith, c.leaving_size.ensures); p-low = omega (arith, c.requires.0) }, c.requires.1)

pub returns : goal.returns
returns c =
    read-drop _ _ c.args.test c.args.m _ c.requires.0 c.if-m-eq3.false c.if-m-eq4.false c.if-m-eq1.false c.wide-s.ensures.0 c.leaving_size.ensures.0 c.single_read-2.ensures
