use Rattle.cells_touch.proofs.Bits.{level-shift}
use Rattle.cells_touch.proofs.level_of.Goals as goal

pub returns : goal.returns
returns c =
    level-shift c.args.depth
