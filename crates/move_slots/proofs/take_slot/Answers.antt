use Rattle.std.proofs.Common.{refl, arith}
use borrow.Author.Tests.{not-true, not-false}
use Rattle.move_slots.proofs.Atom.{ports-few, slots-few, node-low}
use Rattle.move_slots.proofs.Putting.{step-none, step-put}
use Rattle.move_slots.proofs.take_slot.Goals as goal

pub uses_at-requires : goal.uses_at-requires
uses_at-requires c =
    node-low _ _ _ _ _ _ _ _ _ _ _ c.requires.atom

pub takes_slot-requires : goal.takes_slot-requires
takes_slot-requires c =
    omega (arith, c.requires.below, slots-few _ _ _ _ _ _ _ _ _ _ _ c.requires.atom)

pub returns-then-not-takes_slot : goal.returns-then-not-takes_slot
returns-then-not-takes_slot c =
    step-none _ _ _ _ _ _ _ _ _ _ _ _ _ c.uses_at.ensures c.takes_slot.ensures _ _ _ _ (not-true _ c.if-not-takes_slot.true-raw)

pub slot_ports-brings-requires : goal.slot_ports-brings-requires
slot_ports-brings-requires c =
    record { sets = c.requires.sets; atom = c.requires.atom; below = c.requires.below; room = ports-few _ _ _ _ _ _ _ _ _ _ _ c.requires.atom }

pub put_slot-requires : goal.put_slot-requires
put_slot-requires c =
    (omega (arith, ports-few _ _ _ _ _ _ _ _ _ _ _ c.requires.atom), ports-few _ _ _ _ _ _ _ _ _ _ _ c.requires.atom, omega (arith, c.requires.below, slots-few _ _ _ _ _ _ _ _ _ _ _ c.requires.atom), c.requires.room)

pub returns : goal.returns
returns c =
    step-put _ _ _ _ _ _ _ _ _ _ _ _ _ c.uses_at.ensures c.takes_slot.ensures _ _ _ _ _ _ _ _ _ _ _ (not-false _ c.if-not-takes_slot.false-raw) c.slot_ports-brings.ensures refl c.put_slot.ensures (ports-few _ _ _ _ _ _ _ _ _ _ _ c.requires.atom) (omega (arith, c.requires.below, slots-few _ _ _ _ _ _ _ _ _ _ _ c.requires.atom)) c.requires.room
