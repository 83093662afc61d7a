use Rattle.std.proofs.Common.{◌-◌, arith}
use Rattle.cells_both.proofs.Tuples.{left-none, left-more, left-all, tested_low}
use Rattle.cells_both.proofs.tested_all.Goals as goal

pub loop-level-init : goal.loop-level-init
loop-level-init c =
    (omega arith, omega arith, left-none _ _ _)

pub overflow_add-left : goal.overflow_add-left
overflow_add-left c =
    omega (arith, tested_low _ _ _ _ c.tested-left.ensures, c.loop-level.invariant.1)

pub loop-level-preserved : goal.loop-level-preserved
loop-level-preserved c =
    (omega arith, omega (arith, tested_low _ _ _ _ c.tested-left.ensures, c.loop-level.invariant.1), left-more _ _ _ _ _ _ (omega arith) c.loop-level.invariant.0 c.loop-level.invariant.2 c.tested-left.ensures)

pub returns : goal.returns
returns c =
    left-all _ _ _ _ _ (omega arith) c.loop-level.invariant.2
