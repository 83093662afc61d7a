use Rattle.std.proofs.Common.{refl}
use Rattle.std.proofs.Common.{ℕ, ◌+◌, ◌%◌, ◌∙◌, ap₂}
use Rattle.move_slots.specs.inner.Slots.{flip_read}
use Rattle.move_root.proofs.flip_read.Goals as goal

pub returns : goal.returns
unfolding flip_read
returns c =
    refl ∙ ap₂ (λ (x y : ℕ). (x + y) % 4294967296) c.slot_read.ensures c.slot_read-2.ensures
