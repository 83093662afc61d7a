use Prim.Native.Nat.{◌*◌, ◌≤◌}
use native.Mathlib.Nat.{mul-le-mul}
use native.Mathlib.Omega.{arith}
use Rattle.move_fill.proofs.walks_cheaper.Goals as goal

pub overflow_mul-result : goal.overflow_mul-result
overflow_mul-result c =
    let m : c.args.nodes * c.args.ports ≤ 512 * 64 = mul-le-mul c.requires.1 c.requires.0 in omega (arith, m)
