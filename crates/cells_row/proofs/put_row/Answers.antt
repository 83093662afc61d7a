use Rattle.std.proofs.Common.{◌-◌, refl}
use Rattle.logic.proofs.Written.{start, one_more, done}
use Rattle.cells_row.proofs.put_row.Goals as goal

pub loop-x-init : goal.loop-x-init
loop-x-init c =
    (start _ _ _ _, c.requires.0)

pub loop-x-preserved : goal.loop-x-preserved
loop-x-preserved c =
    (one_more _ _ _ _ _ _ _ c.loop-x.invariant.0 c.loop-x-test.true c.requires.1 refl, c.loop-x.invariant.1)

pub returns : goal.returns
returns c =
    done _ _ _ _ _ _ c.loop-x.invariant.0 c.loop-x-test.false
