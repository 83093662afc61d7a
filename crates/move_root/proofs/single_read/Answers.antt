use Rattle.std.proofs.Common.{refl}
use Rattle.move_slots.specs.inner.Slots.{single_read, still_read}
use Rattle.move_root.proofs.Reading.{wrapped-last}
use Rattle.move_root.proofs.single_read.Goals as goal

pub returns : goal.returns
unfolding single_read still_read
returns c =
    wrapped-last _ _ _ _ refl c.flip_read.ensures
