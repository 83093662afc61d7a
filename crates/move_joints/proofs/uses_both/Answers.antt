use Rattle.move_joints.proofs.Adding.{both_used, first-unused}
use Rattle.move_joints.proofs.uses_both.Goals as goal

pub returns-then-meet : goal.returns-then-meet
returns-then-meet c =
    both_used _ _ _ _ _ _ _ _ _ c.variable_bits.ensures c.size_bit.ensures c.meet.ensures c.variable_bits-then-meet.ensures c.size_bit-then-meet.ensures c.meet-then-meet.ensures c.if-meet.true

pub returns : goal.returns
returns c =
    first-unused _ _ _ _ _ _ c.variable_bits.ensures c.size_bit.ensures c.meet.ensures c.if-meet.false
