use mathlib.Core.Path.{sym, ◌∙◌}
use mathlib.Core.Bool.{true≢false}
use Prim.Native.Nat.{◌-◌}
use native.Mathlib.Omega.{arith}
use borrow.Author.Tests.{not-true}
use Rattle.move_joints.proofs.Taken.{ready_on, none-taken, one-taken, takes-joints}
use Rattle.move_joints.proofs.take_joints.Goals as goal

pub returns-then-not-transfers : goal.returns-then-not-transfers
returns-then-not-transfers c =
    λ h. absurd (true≢false (sym h ∙ not-true _ c.if-not-transfers.true-raw))

pub loop-pair-init : goal.loop-pair-init
loop-pair-init c =
    none-taken _ _ _ _ _ _ _ _ _ _ _ _ _ _ c.requires.joint-long

pub overflow_mul-pair-end : goal.overflow_mul-pair-end
overflow_mul-pair-end c =
    omega (arith, c.requires.given.sets-are, c.requires.given.ready.settled.sets16)

pub take_pair-requires : goal.take_pair-requires
take_pair-requires c =
    (omega (arith, c.loop-pair-test.true), ready_on _ _ _ _ _ _ _ _ _ _ _ _ _ _ _ c.requires c.loop-pair.invariant.long)

pub loop-pair-preserved : goal.loop-pair-preserved
loop-pair-preserved c =
    one-taken _ _ _ _ _ _ _ _ _ _ _ _ _ _ _ _ _ (omega (arith, c.loop-pair-test.true)) c.loop-pair.invariant c.take_pair.ensures (omega (arith, c.loop-pair.invariant.long))

pub returns : goal.returns
returns c =
    λ h. takes-joints _ _ _ _ _ _ _ _ _ _ _ _ _ _ _ _ c.loop-pair-test.false c.loop-pair.invariant
