use Rattle.std.proofs.Common.{arith}
use Rattle.text_emit.proofs.Bytes.{relation-kept, opposite-low, opposite-middle, opposite-high}
use Rattle.text_emit.proofs.relation_at.Goals as goal

pub returns-in-true-default : goal.returns-in-true-default
returns-in-true-default c =
    rw c.in-true-default.is-0 (relation-kept _)

pub returns-in-false-eq0 : goal.returns-in-false-eq0
returns-in-false-eq0 c =
    rw c.in-false-eq0.is-0 (opposite-low _ (omega arith))

pub returns-in-false-eq2 : goal.returns-in-false-eq2
returns-in-false-eq2 c =
    rw c.in-false-eq2.is-0 (opposite-middle _ (omega arith) (omega arith))

pub returns-in-false-default : goal.returns-in-false-default
returns-in-false-default c =
    rw c.in-false-default.is-0 (opposite-high _ (omega arith))
