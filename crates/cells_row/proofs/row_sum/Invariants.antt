use Rattle.std.proofs.Common.{◌≡◌, true}
use Rattle.cells_row.specs.inner.Row.{row_gathered}
use Rattle.cells_row.proofs.row_sum.Given as goal

abbrev pub invariant-loop-x : goal.invariant-loop-x
invariant-loop-x l = l.sum ≡ row_gathered true l.acc l.new l.old l.x
