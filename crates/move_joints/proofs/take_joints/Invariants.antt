use Prim.Native.Nat.{◌-◌, ◌*◌}
use Rattle.move_joints.specs.inner.Joints.{PairsBelow}
use Rattle.move_joints.proofs.take_joints.Given as goal

abbrev pub invariant-loop-pair : goal.invariant-loop-pair
invariant-loop-pair l = PairsBelow l.plan.ports l.plan.sets l.plan.table.now l.plan.index.now.firsts l.plan.index.now.ends l.plan.index.now.uses l.masks l.sizes l.cells l.i l.depth l.pair l.mine l.own l.initial.joint l.joint
