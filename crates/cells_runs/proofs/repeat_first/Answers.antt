use native.Mathlib.Omega.{arith}
use Rattle.cells_runs.proofs.Rounds.{repeat-start, repeat-more, repeat-all}
use Rattle.cells_runs.proofs.repeat_first.Goals as goal

pub loop-t-init : goal.loop-t-init
loop-t-init c =
    repeat-start _ _ _ c.requires.1 c.requires.2

pub copy_first-requires : goal.copy_first-requires
copy_first-requires c =
    (omega (arith, c.min-len.ensures), omega (arith, c.min-len.ensures, c.loop-t.invariant.is.same_length, c.requires.2))

pub overflow_add-t : goal.overflow_add-t
overflow_add-t c =
    omega (arith, c.min-len.ensures, c.loop-t.invariant.is.same_length, c.requires.2)

pub loop-t-smaller : goal.loop-t-smaller
loop-t-smaller c =
    omega (arith, c.min-len.ensures, c.loop-t.invariant.past, c.requires.0)

pub loop-t-preserved : goal.loop-t-preserved
loop-t-preserved c =
    repeat-more _ _ _ _ _ _ _ c.loop-t.invariant c.loop-t-test.true c.requires.2 c.min-len.ensures c.copy_first.ensures

pub returns : goal.returns
returns c =
    repeat-all _ _ _ _ _ c.loop-t.invariant c.loop-t-test.false
