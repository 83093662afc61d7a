use Rattle.text_emit.proofs.Joints.{right-turned, right_kept}
use Rattle.text_emit.proofs.right_at.Goals as goal

pub returns-then-operator-eq8 : goal.returns-then-operator-eq8
returns-then-operator-eq8 c =
    right-turned _ _ c.if-operator-eq8.true

pub returns-else-operator-eq8 : goal.returns-else-operator-eq8
returns-else-operator-eq8 c =
    right_kept _ _ c.if-operator-eq8.false
