use Rattle.logic.specs.Configuration.{in_masks}
use Rattle.move_legal.proofs.is_in.Goals as goal

pub returns : goal.returns
unfolding in_masks
returns c =
    cc
