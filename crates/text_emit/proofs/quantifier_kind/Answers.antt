use Rattle.std.proofs.Common.{arith}
use Rattle.text_emit.proofs.Bytes.{all-kept, any-kept, all-turned, any-turned}
use Rattle.text_emit.proofs.quantifier_kind.Goals as goal

pub returns-in-true-eq3 : goal.returns-in-true-eq3
returns-in-true-eq3 c =
    rw c.in-true-eq3.is-0 (all-kept _ c.in-true-eq3.is-1)

pub returns-in-true-default : goal.returns-in-true-default
returns-in-true-default c =
    rw c.in-true-default.is-0 (any-kept _ (λ e. omega arith))

pub returns-in-false-eq3 : goal.returns-in-false-eq3
returns-in-false-eq3 c =
    rw c.in-false-eq3.is-0 (all-turned _ c.in-false-eq3.is-1)

pub returns-in-false-default : goal.returns-in-false-default
returns-in-false-default c =
    rw c.in-false-default.is-0 (any-turned _ (λ e. omega arith))
