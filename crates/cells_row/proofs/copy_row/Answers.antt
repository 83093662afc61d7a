use Rattle.std.proofs.Common.{◌-◌, refl}
use Rattle.logic.proofs.Written.{start, one-more-first, all_first}
use Rattle.cells_row.specs.inner.Row.{row_of}
use Rattle.cells_row.proofs.copy_row.Goals as goal

pub loop-x-init : goal.loop-x-init
loop-x-init c =
    start _ _ _ _

pub loop-x-preserved : goal.loop-x-preserved
loop-x-preserved c =
    one-more-first _ _ _ _ _ _ c.loop-x.invariant c.loop-x-test.true c.requires.1 refl

pub returns : goal.returns
unfolding row_of
returns c =
    all_first _ _ _ _ _ c.loop-x.invariant c.loop-x-test.false
