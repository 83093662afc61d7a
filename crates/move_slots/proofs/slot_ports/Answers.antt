use Rattle.std.proofs.Common.{arith}
use Rattle.move_slots.proofs.Atom.{slots-few}
use Rattle.move_slots.proofs.Numbers.{ports-ready, slot-gives}
use Rattle.move_slots.proofs.slot_ports.Goals as goal

pub asked_sizes-asked-requires : goal.asked_sizes-asked-requires
asked_sizes-asked-requires c =
    (omega (arith, c.requires.below, slots-few _ _ _ _ _ _ _ _ _ _ _ c.requires.atom), c.requires.atom.given.sizes-low _)

pub all_ports-requires : goal.all_ports-requires
all_ports-requires c =
    ports-ready _ _ _ _ _ _ c.args.sizes.now _ _ _ c.args.slot c.asked_sizes-asked.ensures.1 _ c.asked_sizes-asked.ensures.0 _ _ c.variable_bits.ensures c.size_bit.ensures _ c.requires

pub returns : goal.returns
returns c =
    slot-gives _ _ _ _ _ _ c.args.sizes.now _ _ _ c.args.slot c.asked_sizes-asked.ensures.1 _ c.asked_sizes-asked.ensures.0 _ _ c.variable_bits.ensures c.size_bit.ensures _ _ _ c.all_ports.ensures
