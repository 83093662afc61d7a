use Rattle.std.proofs.Common.{◌-◌, ◌*◌}
use Rattle.move_slots.specs.inner.Taking.{SlotsBelow}
use Rattle.move_slots.proofs.take_slots.Given as goal

abbrev pub invariant-loop-slot : goal.invariant-loop-slot
invariant-loop-slot l = SlotsBelow l.plan.ports l.plan.sets l.plan.table.now l.plan.index.now.firsts l.plan.index.now.ends l.plan.index.now.uses l.masks l.sizes l.cells l.i l.depth l.slot l.initial.mine l.initial.own l.initial.one l.initial.still l.mine l.own l.one l.still
