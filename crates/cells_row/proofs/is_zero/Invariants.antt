use Rattle.std.proofs.Common.{◌≡◌}
use Rattle.cells_row.specs.inner.Row.{ZeroRow}
use Rattle.cells_row.proofs.is_zero.Given as goal

abbrev pub invariant-loop-cell : goal.invariant-loop-cell
invariant-loop-cell l = l.seen ≡ 0 → ZeroRow l.row l.cell-index
