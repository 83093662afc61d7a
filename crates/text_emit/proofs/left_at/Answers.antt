use Rattle.text_emit.proofs.Joints.{left-turned, left-kept}
use Rattle.text_emit.proofs.left_at.Goals as goal

pub returns-then-operator-eq7 : goal.returns-then-operator-eq7
returns-then-operator-eq7 c =
    left-turned _ _ c.if-operator-eq7.true

pub returns-else-operator-eq7 : goal.returns-else-operator-eq7
returns-else-operator-eq7 c =
    left-kept _ _ c.if-operator-eq7.false
