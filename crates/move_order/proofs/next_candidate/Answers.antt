use native.Mathlib.Omega.{arith}
use Rattle.move_order.specs.inner.Stepping.{Suits}
use Rattle.move_legal.proofs.Known.{says-yes, says-no}
use Rattle.move_order.proofs.Stepping.{passed_none, passed-one, gives_found, gives_none, place-high}
use Rattle.move_order.proofs.next_candidate.Goals as goal

pub advance-at-requires : goal.advance-at-requires
advance-at-requires c =
    c.requires

pub loop-at-init : goal.loop-at-init
loop-at-init c =
    passed_none _ _ _ _ _ c.advance-at.ensures.position

pub is_candidate-requires : goal.is_candidate-requires
is_candidate-requires c =
    record { begins = record { position = c.loop-at.invariant.position; not-past = c.loop-at-test.true }; masks-enough = c.requires.masks-enough }

pub returns-then-is_candidate : goal.returns-then-is_candidate
returns-then-is_candidate c =
    gives_found _ _ _ _ _ _ _ c.advance-at.ensures c.loop-at.invariant (says-yes c.is_candidate.result (Suits c.args.ports c.args.sets c.args.kinds c.args.masks.now c.loop-at.at) c.is_candidate.ensures c.if-is_candidate.true)

pub advance-at-requires-in-loop-at : goal.advance-at-requires-in-loop-at
advance-at-requires-in-loop-at c =
    record { begins = record { position = c.loop-at.invariant.position; not-past = c.loop-at-test.true }; masks-enough = c.requires.masks-enough }

pub loop-at-smaller : goal.loop-at-smaller
loop-at-smaller c =
    let x = c.advance-at-in-loop-at.ensures.later in let y = place-high _ _ _ c.loop-at.invariant.position in omega (arith, x, y)

pub loop-at-preserved : goal.loop-at-preserved
loop-at-preserved c =
    passed-one _ _ _ _ _ _ _ c.loop-at.invariant (says-no c.is_candidate.result (Suits c.args.ports c.args.sets c.args.kinds c.args.masks.now c.loop-at.at) c.is_candidate.ensures c.if-is_candidate.false) c.advance-at-in-loop-at.ensures

pub returns : goal.returns
returns c =
    gives_none _ _ _ _ _ _ _ c.advance-at.ensures c.loop-at.invariant c.loop-at-test.false
