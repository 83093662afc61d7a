use Rattle.std.proofs.Common.{refl, arith}
use Rattle.cells_tuples.proofs.first_cell.Goals as goal

pub returns : goal.returns
returns c =
    (refl, omega (arith, c.shared_slice_known-1.given 0))
