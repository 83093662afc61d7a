use Prim.Native.Nat.{◌+◌, ◌-◌, ◌≤◌}
use lib.ListN.{length}
use Rattle.logic.proofs.Written.{Written}
use Rattle.move_joints.specs.inner.Joints.{joint_cell}
use Rattle.move_joints.proofs.add_joint.Given as goal

abbrev pub invariant-loop-x : goal.invariant-loop-x
invariant-loop-x l = Written (joint_cell l.row l.first l.second l.rest l.test l.tested l.at l.initial.joint) l.at l.ports l.initial.joint l.joint l.x × (l.ports ≤ 64) × (l.ports ≤ length l.row) × (l.ports ≤ length l.first) × (l.ports ≤ length l.second) × (l.at + l.ports ≤ length l.initial.joint)
