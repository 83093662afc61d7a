use mathlib.Core.Path.{sym}
use native.Mathlib.Omega.{arith}
use lib.Seq.{length-take-le}
use Rattle.planroot_line.specs.inner.Pieces.{started, stepped}
use Rattle.planroot_line.proofs.Pieces.{passed-scanned}
use Rattle.planroot_line.proofs.Finishing.{answer-few}
use Rattle.known.proofs.inputs.say_pieces.Goals as goal

pub answer-n-requires-clause-some_input : goal.answer-n-requires-clause-some_input
answer-n-requires-clause-some_input g c =
    record { masks-room = omega (arith, c.step-a.auto.masks, c.step-b.auto.masks); text-room = omega (arith, c.step-a.auto.text, c.step-b.auto.text); input = _; scanned = passed-scanned (stepped (stepped (started _ _ c.start.ensures) _ c.step-a.ensures) _ c.step-b.ensures) }

pub slice_bounds-out-end : goal.slice_bounds-out-end
slice_bounds-out-end g c =
    omega (arith, answer-few _ _ _ _ _ _ _ (passed-scanned (stepped (stepped (started _ _ c.start.ensures) _ c.step-a.ensures) _ c.step-b.ensures)) c.answer-n.ensures, c.answer-n.auto.out)

pub slice_bounds-write_all-end : goal.slice_bounds-write_all-end
slice_bounds-write_all-end g c =
    sym (length-take-le _ _ (omega (arith, answer-few _ _ _ _ _ _ _ (passed-scanned (stepped (stepped (started _ _ c.start.ensures) _ c.step-a.ensures) _ c.step-b.ensures)) c.answer-n.ensures, c.answer-n.auto.out)))
