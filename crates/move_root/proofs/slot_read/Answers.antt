use Rattle.std.proofs.Common.{ℕ, ◌+◌, ◌*◌, get_or, ap}
use Rattle.move_slots.specs.inner.Slots.{slot_at}
use Rattle.move_root.proofs.slot_read.Goals as goal

pub returns : goal.returns
unfolding slot_at
returns c =
    ap (λ (x : ℕ). get_or c.args.table.now (64 * c.args.slot + x) 0) c.wide.ensures.0
