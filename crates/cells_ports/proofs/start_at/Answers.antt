use mathlib.Core.Path.{ap, ◌∙◌}
use native.Mathlib.Omega.{arith}
use Prim.Native.Nat.{ℕ}
use lib.ListN.{get_or}
use Rattle.cells_ports.proofs.start_at.Goals as goal

pub bounds-out-x : goal.bounds-out-x
bounds-out-x c =
    omega (arith, c.requires.1 c.if-variable-depth.true, c.wide-x.ensures.0, c.port_at.ensures.0)

pub returns-then-variable-depth : goal.returns-then-variable-depth
returns-then-variable-depth c =
    λ h. ap (λ (y : ℕ). get_or c.args.out.now y 0) (c.wide-x.ensures.0 ∙ c.port_at.ensures.0)
