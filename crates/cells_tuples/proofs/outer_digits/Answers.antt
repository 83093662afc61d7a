use Rattle.std.proofs.Common.{arith}
use Rattle.cells_tuples.proofs.Numbers.{count-one, digits-none, digits-one, digits-two, digits_low}
use Rattle.cells_tuples.proofs.outer_digits.Goals as goal

pub returns-then-outer-eq0 : goal.returns-then-outer-eq0
returns-then-outer-eq0 c =
    digits-none _ _ _ c.if-outer-eq0.true

pub overflow_cast-result : goal.overflow_cast-result
overflow_cast-result c =
    omega (arith, count-one c.args.ports c.args.outer c.if-outer-eq1.true)

pub returns-then-outer-eq1 : goal.returns-then-outer-eq1
returns-then-outer-eq1 c =
    digits-one _ _ _ c.requires.3 c.if-outer-eq1.true

pub overflow_mul-result : goal.overflow_mul-result
overflow_mul-result c =
    let h = digits_low c.args.ports c.args.number c.args.outer c.requires.3 c.requires.1 (omega arith) c.requires.2 in omega arith

pub overflow_add-result : goal.overflow_add-result
overflow_add-result c =
    let h = digits_low c.args.ports c.args.number c.args.outer c.requires.3 c.requires.1 (omega arith) c.requires.2 in omega arith

pub overflow_cast-result-2 : goal.overflow_cast-result-2
overflow_cast-result-2 c =
    let h = digits_low c.args.ports c.args.number c.args.outer c.requires.3 c.requires.1 (omega arith) c.requires.2 in omega arith

pub returns : goal.returns
returns c =
    digits-two _ _ _ c.requires.3 c.requires.1 (omega arith)
