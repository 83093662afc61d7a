use Rattle.move_crossed.proofs.Sizes.{one-among}
use Rattle.move_crossed.proofs.one_size.Goals as goal

pub returns : goal.returns
returns c =
    one-among _ _ c.requires.0 c.requires.1
