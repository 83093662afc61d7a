use mathlib.Core.Path.{sym}
use lib.Seq.{length-take-le}
use Rattle.program_io.proofs.Gathering.{known-within}
use Rattle.plantext.proofs.main.Goals as goal

pub slice_bounds-say-end : goal.slice_bounds-say-end
slice_bounds-say-end c = sym (length-take-le _ _ (known-within _ _ c.in-Ok.ensures))
