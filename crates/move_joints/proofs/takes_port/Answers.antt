use Rattle.move_joints.proofs.Adding.{port-such, port-other}
use Rattle.move_joints.proofs.takes_port.Goals as goal

pub returns-then-tested : goal.returns-then-tested
returns-then-tested c =
    port-such _ _ _ _ c.has_port-inside.ensures c.if-tested.true

pub returns : goal.returns
returns c =
    port-other _ _ _ _ c.has_port-inside.ensures c.if-tested.false
