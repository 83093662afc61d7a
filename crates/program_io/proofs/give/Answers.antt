use mathlib.Core.Path.{sym}
use lib.Seq.{length-take-le}
use Rattle.program_io.proofs.Gathering.{given-within}
use Rattle.program_io.proofs.give.Goals as goal

pub slice_bounds-write_all-end : goal.slice_bounds-write_all-end
slice_bounds-write_all-end c =
    sym (length-take-le _ _ (given-within _ _ c.args.table.now c.requires c.in-Ok.is))
