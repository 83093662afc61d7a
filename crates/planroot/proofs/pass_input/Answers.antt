use mathlib.Core.Path.{refl, ◌∙◌}
use Rattle.planroot.proofs.Passing.{known_start, known_step, known-whole, known-enough}
use Rattle.planroot.proofs.pass_input.Goals as goal

pub loop-turn-init : goal.loop-turn-init
loop-turn-init g c = (known_start _ _ _ c.start-s.ensures, refl)

pub returns-then-n-eq0 : goal.returns-then-n-eq0
returns-then-n-eq0 g c = known-whole _ _ _ c.loop-turn.invariant.0

pub returns-then-decided : goal.returns-then-decided
returns-then-decided g c =
    known-enough _ _ _ _ (known_step _ _ _ _ _ _ _ c.loop-turn.invariant.0 c.step-s.ensures) c.decided.ensures c.if-decided.true

pub loop-turn-preserved : goal.loop-turn-preserved
loop-turn-preserved g c =
    (known_step _ _ _ _ _ _ _ c.loop-turn.invariant.0 c.step-s.ensures, c.read.auto.buf ∙ c.loop-turn.invariant.1)
