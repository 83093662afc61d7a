use Rattle.std.proofs.Common.{refl}
use Rattle.std.proofs.Common.{arith}
use Rattle.move_root.proofs.Reading.{transfer-is}
use Rattle.move_root.proofs.transfer_read.Goals as goal

pub single_read-dropped-requires : goal.single_read-dropped-requires
single_read-dropped-requires c =
    (record { s-low = omega (arith, c.wide-s.ensures, c.requires.0); outcome-low = omega (arith, c.leaving_size.ensures); p-low = omega (arith, c.requires.0) }, c.requires.1)

pub single_read-added-requires : goal.single_read-added-requires
single_read-added-requires c =
    (record { s-low = omega (arith, c.wide-t.ensures, c.requires.0); outcome-low = omega (arith, c.entering_size.ensures); p-low = omega (arith, c.requires.0) }, c.requires.1)

pub returns : goal.returns
returns c =
    transfer-is _ _ _ _ _ c.wide-s.ensures.0 c.wide-t.ensures.0 c.leaving_size.ensures.0 c.entering_size.ensures.0 c.single_read-dropped.ensures c.single_read-added.ensures refl c.slot_read-beyond.ensures refl
