use native.Mathlib.Omega.{arith}
use Rattle.move_joints.proofs.Adding.{slot-asked, slot-other}
use Rattle.move_joints.proofs.slot_of.Goals as goal

pub returns-then-meet : goal.returns-then-meet
returns-then-meet c =
    (slot-asked _ _ _ _ _ _ c.size_bit.ensures c.meet.ensures c.if-meet.true c.wide.ensures.0, omega (arith, c.requires, c.wide.ensures.0))

pub returns : goal.returns
returns c =
    (slot-other _ _ _ _ _ c.size_bit.ensures c.meet.ensures c.if-meet.false, omega (arith, c.requires))
