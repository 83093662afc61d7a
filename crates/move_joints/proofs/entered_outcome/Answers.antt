use mathlib.Core.Path.{sym, ap}
use mathlib.Core.Bool.{Bool, cond}
use native.Mathlib.Omega.{arith}
use Rattle.move_joints.specs.inner.Joints.{entered}
use Rattle.move_joints.proofs.entered_outcome.Goals as goal

pub returns-then-tested : goal.returns-then-tested
unfolding entered
returns-then-tested c =
    (sym (ap (λ (o : Bool). cond o 1 2) c.if-tested.true), omega arith)

pub returns : goal.returns
unfolding entered
returns c =
    (sym (ap (λ (o : Bool). cond o 1 2) c.if-tested.false), omega arith)
