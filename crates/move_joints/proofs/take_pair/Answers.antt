use native.Mathlib.Omega.{arith}
use borrow.Author.Tests.{not-true, not-false}
use Rattle.logic.specs.Formula.{node_count}
use Rattle.move_joints.proofs.Taken.{pair_of, pair-outside, pair_same, pair-unused, pair-untested, pair-tested}
use Rattle.move_joints.proofs.take_pair.Goals as goal

pub returns-then-plan-t : goal.returns-then-plan-t
returns-then-plan-t c =
    pair-outside _ _ _ _ _ _ _ _ _ _ _ _ _ _ _ c.if-plan-t.true

pub returns-then-s-t : goal.returns-then-s-t
returns-then-s-t c =
    pair_same _ _ _ _ _ _ _ _ _ _ _ _ _ _ _ c.if-s-t.true

pub uses_at-requires : goal.uses_at-requires
unfolding node_count
uses_at-requires c =
    omega (arith, c.requires.1.given.stands.nodes)

pub returns-then-not-uses_both : goal.returns-then-not-uses_both
returns-then-not-uses_both c =
    pair-unused _ _ _ _ _ _ _ _ _ _ _ _ _ _ _ c.uses_at.ensures _ c.uses_both.ensures _ (not-true _ c.if-not-uses_both.true-raw)

pub add_pair-requires : goal.add_pair-requires
add_pair-requires c =
    (pair_of _ _ _ _ _ _ _ _ _ _ _ _ _ _ _ c.requires.1 c.requires.0 c.if-plan-t.false c.if-s-t.false, record { mine-long = c.requires.1.mine-long; own-long = c.requires.1.own-long; joint-long = c.requires.1.joint-long })

pub returns-then-test-eq0 : goal.returns-then-test-eq0
returns-then-test-eq0 c =
    pair-untested _ _ _ _ _ _ _ _ _ _ _ _ _ _ _ c.uses_at.ensures _ c.uses_both.ensures (not-false _ c.if-not-uses_both.false-raw) _ c.mask_at-test.ensures _ _ c.add_pair.ensures c.if-test-eq0.true

pub add_pair-requires-2 : goal.add_pair-requires-2
add_pair-requires-2 c =
    (pair_of _ _ _ _ _ _ _ _ _ _ _ _ _ _ _ c.requires.1 c.requires.0 c.if-plan-t.false c.if-s-t.false, record { mine-long = c.requires.1.mine-long; own-long = c.requires.1.own-long; joint-long = omega (arith, c.requires.1.joint-long) })

pub returns : goal.returns
returns c =
    pair-tested _ _ _ _ _ _ _ _ _ _ _ _ _ _ _ c.uses_at.ensures _ c.uses_both.ensures (not-false _ c.if-not-uses_both.false-raw) _ c.mask_at-test.ensures _ _ _ c.add_pair.ensures c.add_pair-2.ensures
