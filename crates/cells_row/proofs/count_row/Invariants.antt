use Rattle.std.proofs.Common.{◌≡◌, ◌%◌}
use Rattle.cells_row.specs.inner.Row.{row_changes}
use Rattle.cells_row.proofs.count_row.Given as goal

abbrev pub invariant-loop-x : goal.invariant-loop-x
invariant-loop-x l = l.count ≡ row_changes l.new l.old l.x % 4294967296
