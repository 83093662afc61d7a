use Rattle.std.proofs.Common.{arith}
use Rattle.text_emit.proofs.Joints.{joint-kept, joint-turned}
use Rattle.text_emit.proofs.joint_kind.Goals as goal

pub returns-in-5 : goal.returns-in-5
returns-in-5 c =
    joint-kept _ _ _ c.in-5.is c.joint_node.ensures

pub returns-in_default : goal.returns-in_default
returns-in_default c =
    joint-turned _ _ _ (λ e. grind arith) (λ e. grind arith) c.joint_node-in_default.ensures
