use Rattle.std.proofs.Common.{ℕ, ◌*◌, ◌^◌, ◌≤◌, sym, ap, ◌∙◌, mul-le-mul, arith}
use native.Mathlib.Nat.{pow-zero}
use Rattle.cells_tuples.proofs.Numbers.{count-one, count-two}
use Rattle.cells_tuples.proofs.outer_count.Goals as goal

pub returns-then-outer-eq0 : goal.returns-then-outer-eq0
returns-then-outer-eq0 c =
    sym (ap (λ (x : ℕ). c.args.ports ^ x) c.if-outer-eq0.true ∙ pow-zero c.args.ports)

pub returns-then-outer-eq1 : goal.returns-then-outer-eq1
returns-then-outer-eq1 c =
    count-one _ _ c.if-outer-eq1.true

pub overflow_mul-result : goal.overflow_mul-result
overflow_mul-result c =
    let m : c.args.ports * c.args.ports ≤ 64 * 64 = mul-le-mul c.requires.1 c.requires.1 in omega arith

pub returns : goal.returns
returns c =
    count-two _ _ (omega arith)
