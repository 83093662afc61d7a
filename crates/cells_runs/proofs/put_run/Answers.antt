use mathlib.Core.Path.{refl}
use Rattle.logic.proofs.Written.{start, one_more, done}
use Rattle.cells_runs.proofs.put_run.Goals as goal

pub loop-i-init : goal.loop-i-init
loop-i-init c =
    start _ _ _ _

pub loop-i-preserved : goal.loop-i-preserved
loop-i-preserved c =
    one_more _ _ _ _ _ _ _ c.loop-i.invariant c.loop-i-test.true c.requires refl

pub returns : goal.returns
returns c =
    done _ _ _ _ _ _ c.loop-i.invariant c.loop-i-test.false
