use Rattle.move_joints.proofs.Adding.{number-taken, number-kept}
use Rattle.move_joints.proofs.joint_number.Goals as goal

pub returns-then-takes : goal.returns-then-takes
returns-then-takes c =
    number-taken _ _ _ _ _ _ _ _ c.if-takes.true c.with_difference.ensures c.with_difference-then-takes.ensures

pub returns : goal.returns
returns c =
    number-kept _ _ _ _ _ _ c.if-takes.false
