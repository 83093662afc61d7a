use Rattle.std.proofs.Common.{◌-◌, arith}
use Rattle.move_slots.proofs.Atom.{slots-few}
use Rattle.move_slots.proofs.Taken.{none-taken, one-taken, takes-slots}
use Rattle.move_slots.proofs.take_slots.Goals as goal

pub loop-slot-init : goal.loop-slot-init
loop-slot-init c =
    none-taken _ _ _ _ _ _ _ _ _ _ _ _ _ _ _ c.requires.1

pub overflow_mul-slot-end : goal.overflow_mul-slot-end
overflow_mul-slot-end c =
    omega (arith, slots-few _ _ _ _ _ _ _ _ _ _ _ c.requires.0)

pub take_slot-requires : goal.take_slot-requires
take_slot-requires c =
    record { sets = c.args.plan.now.sets; atom = c.requires.0; below = omega (arith, c.loop-slot-test.true); room = c.loop-slot.invariant.room }

pub loop-slot-preserved : goal.loop-slot-preserved
loop-slot-preserved c =
    one-taken _ _ _ _ _ _ _ _ _ _ _ _ _ _ _ _ _ _ _ _ _ _ _ _ (omega (arith, c.loop-slot-test.true)) c.loop-slot.invariant c.take_slot.ensures record { mine-long = omega (arith, c.loop-slot.invariant.room.mine-long); own-long = omega (arith, c.loop-slot.invariant.room.own-long); one-long = omega (arith, c.loop-slot.invariant.room.one-long); still-long = omega (arith, c.loop-slot.invariant.room.still-long) }

pub returns : goal.returns
returns c =
    takes-slots _ _ _ _ _ _ _ _ _ _ _ _ _ _ _ _ _ _ _ _ (omega (arith, c.loop-slot-test.false)) c.loop-slot.invariant
