use Rattle.std.proofs.Common.{◌≡◌, ◌≢◌, ◌<◌, take}
use Rattle.cells_join.specs.declared.Join.TheVariants.{Add}
use Rattle.cells_join.specs.inner.Joined.{unit_of, join_all}
use Rattle.cells_join.proofs.gather.Given as goal

abbrev pub invariant-loop-cell : goal.invariant-loop-cell
invariant-loop-cell l = (l.r ≡ join_all l.join (unit_of l.join) (take l.cell-index l.cells)) × (l.join ≢ Add → l.r < 2147483648)
