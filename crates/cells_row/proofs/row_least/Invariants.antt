use Rattle.std.proofs.Common.{◌≡◌, false}
use Rattle.cells_row.specs.inner.Row.{row_gathered}
use Rattle.cells_row.proofs.row_least.Given as goal

abbrev pub invariant-loop-value : goal.invariant-loop-value
invariant-loop-value l = l.least ≡ row_gathered false l.acc l.new l.new l.value-index
