use native.Mathlib.Omega.{arith}
use Rattle.cells_touch.specs.inner.Hits.{other_levels}
use Rattle.cells_touch.proofs.Bits.{level-low}
use Rattle.cells_touch.proofs.other_levels.Goals as goal

pub overflow_sub-result : goal.overflow_sub-result
overflow_sub-result c = omega (arith, level-low c.args.depth, c.level_of.ensures)

pub returns : goal.returns
unfolding other_levels
returns c =
    rw c.level_of.ensures
