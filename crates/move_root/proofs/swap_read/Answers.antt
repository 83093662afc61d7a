use Rattle.std.proofs.Common.{refl}
use Rattle.std.proofs.Common.{arith}
use Rattle.move_root.proofs.Reading.{swap_is}
use Rattle.move_root.proofs.swap_read.Goals as goal

pub overflow_add-outcome : goal.overflow_add-outcome
overflow_add-outcome c =
    omega (arith, c.leaving_size.ensures, c.entering_size.ensures)

pub overflow_sub-outcome : goal.overflow_sub-outcome
overflow_sub-outcome c =
    omega (arith, c.entering_size.ensures)

pub single_read-first-requires : goal.single_read-first-requires
single_read-first-requires c =
    (record { s-low = omega (arith, c.wide-s.ensures, c.requires.0); outcome-low = omega (arith, c.leaving_size.ensures, c.entering_size.ensures); p-low = omega (arith, c.requires.0) }, c.requires.1)

pub flip_read-second-requires : goal.flip_read-second-requires
flip_read-second-requires c =
    (record { s-low = omega (arith, c.wide-s.ensures, c.requires.0); outcome-low = omega (arith, c.leaving_size.ensures, c.entering_size.ensures); p-low = omega (arith, c.requires.0) }, c.requires.1.one-long)

pub returns : goal.returns
returns c =
    swap_is _ _ _ _ c.wide-s.ensures.0 c.leaving_size.ensures.0 c.entering_size.ensures.0 c.single_read-first.ensures c.flip_read-second.ensures refl
