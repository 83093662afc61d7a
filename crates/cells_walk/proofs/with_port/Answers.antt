use mathlib.Core.Path.{ap}
use Prim.Native.Nat.{ℕ, ◌+◌}
use native.Mathlib.Omega.{arith}
use Rattle.cells_walk.proofs.Steps.{port-shift, port-low, digits_low}
use Rattle.cells_walk.proofs.with_port.Goals as goal

pub overflow_add-result : goal.overflow_add-result
overflow_add-result c =
    rw (port-shift c.args.depth c.args.x c.requires.0 c.requires.2)
    (omega (arith, port-low c.args.depth c.args.x c.requires.0 c.requires.2, digits_low c.args.depth c.args.digits c.requires.0 c.requires.1))

pub returns : goal.returns
returns c =
    ap (λ (y : ℕ). c.args.digits + y) (port-shift c.args.depth c.args.x c.requires.0 c.requires.2)
