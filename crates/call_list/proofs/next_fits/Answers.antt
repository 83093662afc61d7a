use native.Mathlib.Omega.{arith}
use Rattle.call_list.specs.inner.Next.{NextFits}
use Rattle.call_list.specs.Working.{no_room}
use Rattle.call_list.proofs.Extending.{too_few}
use Rattle.call_list.proofs.next_fits.Goals as goal

pub returns-then-calls-worked-lt-CALL : goal.returns-then-calls-worked-lt-CALL
unfolding NextFits
returns-then-calls-worked-lt-CALL c =
    too_few _ _ _ c.requires.0 (omega (arith, c.if-calls-worked-lt-CALL.true))

pub returns-then-answers-worked-lt-ANSWER : goal.returns-then-answers-worked-lt-ANSWER
unfolding NextFits
returns-then-answers-worked-lt-ANSWER c =
    no_room (omega (arith, c.requires.0, c.if-calls-worked-lt-CALL.false)) (omega (arith, c.requires.1, c.if-answers-worked-lt-ANSWER.true))

pub returns : goal.returns
unfolding NextFits
returns c =
    (omega (arith, c.requires.0, c.if-calls-worked-lt-CALL.false), omega (arith, c.requires.1, c.if-answers-worked-lt-ANSWER.false))
