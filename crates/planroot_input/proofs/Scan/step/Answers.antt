use Rattle.planroot_input.proofs.Stepping.{steps-none, steps-one, steps_all}
use Rattle.planroot_input.proofs.Scan.step.Goals as goal

pub loop-b-init : goal.loop-b-init
loop-b-init c =
    steps-none _ _ _

pub loop-b-preserved : goal.loop-b-preserved
loop-b-preserved c =
    steps-one _ _ _ _ _ _ _ _ _ _ _ c.loop-b-test.true c.loop-b.invariant c.pass_byte-s.ensures

pub returns : goal.returns
returns c =
    steps_all _ _ _ _ _ _ _ _ c.loop-b-test.false c.loop-b.invariant
