use native.Mathlib.Omega.{arith}
use Rattle.program_io.proofs.Gathering.{gathered-more, known-ended, known-full}
use Rattle.program_io.proofs.gather.Goals as goal

pub returns-then-n-eq0 : goal.returns-then-n-eq0
returns-then-n-eq0 g c =
    known-ended _ _ _ c.loop-at.invariant.0 (omega (arith, c.loop-at-test.true))

pub loop-at-preserved : goal.loop-at-preserved
loop-at-preserved g c =
    (gathered-more _ _ _ c.loop-at.invariant.0 _ _ _ c.put_bytes-at.ensures, omega (arith, c.read.auto.buf, c.loop-at.invariant.1))

pub returns : goal.returns
returns g c = known-full _ _ _ c.loop-at.invariant.0 (omega (arith, c.loop-at-test.false))
