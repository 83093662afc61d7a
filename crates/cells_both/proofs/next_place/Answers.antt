use Rattle.std.proofs.Common.{◌*◌, ◌≤◌, mul-le-mul, arith}
use Rattle.cells_both.proofs.next_place.Goals as goal

pub overflow_mul-result : goal.overflow_mul-result
overflow_mul-result c =
    let m : c.args.place * c.args.ports ≤ 262144 * 64 = mul-le-mul c.requires.0 c.requires.1 in omega arith

pub overflow_add-result : goal.overflow_add-result
overflow_add-result c =
    let m : c.args.place * c.args.ports ≤ 262144 * 64 = mul-le-mul c.requires.0 c.requires.1 in omega arith
