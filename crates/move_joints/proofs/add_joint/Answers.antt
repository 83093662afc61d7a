use Prim.Native.Nat.{◌-◌}
use Rattle.logic.proofs.Written.{start, done}
use Rattle.move_joints.specs.inner.Joints.{joint_added}
use Rattle.move_joints.proofs.Adding.{joint-more}
use Rattle.move_joints.proofs.add_joint.Goals as goal

pub loop-x-init : goal.loop-x-init
loop-x-init c =
    (start _ _ _ _, c.requires.0, c.requires.1, c.requires.2, c.requires.3, c.requires.4)

pub loop-x-preserved : goal.loop-x-preserved
loop-x-preserved c =
    (joint-more c.args.row.now c.args.first.now c.args.second.now _ _ _ _ _ _ _ _ _ _ c.loop-x.invariant.0 c.loop-x-test.true c.loop-x.invariant.5 c.takes_port-takes.ensures c.joint_number.ensures, c.loop-x.invariant.1, c.loop-x.invariant.2, c.loop-x.invariant.3, c.loop-x.invariant.4, c.loop-x.invariant.5)

pub returns : goal.returns
unfolding joint_added
returns c =
    done _ _ _ _ _ _ c.loop-x.invariant.0 c.loop-x-test.false
