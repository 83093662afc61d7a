use Rattle.std.proofs.Common.{set, refl, ap}
use Rattle.logic.specs.Change.{modulus}
use Rattle.move_slots.proofs.put_slot.Goals as goal

pub returns : goal.returns
unfolding modulus
returns c =
    record { mine-is = c.put_row.ensures; own_is = refl; one-is = c.add_at.ensures; still-is = ap (set c.args.still.now c.args.slot) refl }
