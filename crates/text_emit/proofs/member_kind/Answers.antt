use Rattle.std.proofs.Common.{arith}
use Rattle.text_emit.proofs.Literals.{in_kept, not-in-kept, in-turned, not-in-turned}
use Rattle.text_emit.proofs.member_kind.Goals as goal

pub returns-in-true-eq0 : goal.returns-in-true-eq0
returns-in-true-eq0 c =
    rw c.in-true-eq0.is-0 (in_kept _ c.in-true-eq0.is-1)

pub returns-in-true-default : goal.returns-in-true-default
returns-in-true-default c =
    rw c.in-true-default.is-0 (not-in-kept _ (λ e. omega arith))

pub returns-in-false-eq0 : goal.returns-in-false-eq0
returns-in-false-eq0 c =
    rw c.in-false-eq0.is-0 (in-turned _ c.in-false-eq0.is-1)

pub returns-in-false-default : goal.returns-in-false-default
returns-in-false-default c =
    rw c.in-false-default.is-0 (not-in-turned _ (λ e. omega arith))
