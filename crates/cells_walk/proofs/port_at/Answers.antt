use native.Mathlib.Omega.{arith}
use Rattle.cells_walk.proofs.Steps.{digit_shift}
use Rattle.cells_walk.proofs.port_at.Goals as goal

pub returns : goal.returns
returns c =
    (digit_shift c.args.digits c.args.variable, omega arith)
