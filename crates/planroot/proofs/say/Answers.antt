use mathlib.Core.Path.{sym}
use native.Mathlib.Omega.{arith}
use lib.Seq.{length-take-le}
use Rattle.planroot_line.proofs.Finishing.{answer-few}
use Rattle.planroot.proofs.say.Goals as goal

pub slice_bounds-out-end : goal.slice_bounds-out-end
slice_bounds-out-end g c =
    omega (arith, answer-few _ _ _ _ _ _ _ c.requires.scanned c.answer-n.ensures, c.answer-n.auto.out)

pub slice_bounds-write_all-end : goal.slice_bounds-write_all-end
slice_bounds-write_all-end g c =
    sym (length-take-le _ _ (omega (arith, answer-few _ _ _ _ _ _ _ c.requires.scanned c.answer-n.ensures, c.answer-n.auto.out)))
