use Rattle.std.proofs.Common.{true}
use Rattle.logic.specs.Change.{modulus}
use Rattle.logic.proofs.Written.{start, all_first}
use Rattle.cells_sum.specs.inner.Walk.{taken}
use Rattle.cells_row.specs.inner.Row.{row_of, renewal_at, row_taken}
use Rattle.cells_row.proofs.Steps.{taken_more}
use Rattle.cells_row.proofs.add_row.Goals as goal

pub loop-x-init : goal.loop-x-init
loop-x-init c =
    start _ _ _ _

pub loop-x-preserved : goal.loop-x-preserved
unfolding taken renewal_at modulus
loop-x-preserved c =
    taken_more true _ _ _ c.args.new.now c.args.old.now _ _ c.loop-x.invariant c.loop-x-test.true c.requires.2 c.with_difference.ensures

pub returns : goal.returns
unfolding row_of row_taken
returns c =
    all_first _ _ _ _ _ c.loop-x.invariant c.loop-x-test.false
