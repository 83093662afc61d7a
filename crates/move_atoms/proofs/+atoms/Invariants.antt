use Prim.Native.Nat.{◌+◌, ◌*◌, ◌-◌}
use Rattle.move_atoms.proofs.Forests.{Onward}
use Rattle.move_atoms.proofs.+atoms.Given as goal

abbrev pub decreases-take_atoms : goal.decreases-take_atoms
decreases-take_atoms l = 2 * (512 - l.i) + 1

abbrev pub decreases-take_tree : goal.decreases-take_tree
decreases-take_tree l = 2 * (512 - l.i)

abbrev pub invariant-take_atoms-loop-j : goal.invariant-take_atoms-loop-j
invariant-take_atoms-loop-j l = Onward l.plan.ports l.plan.sets l.plan.table.now l.plan.index.now.firsts l.plan.index.now.ends l.plan.index.now.uses l.masks l.sizes l.cells l.until l.depth l.transfers l.initial.j l.initial.one l.initial.still l.initial.joint l.initial.lists l.initial.found l.j l.mine l.own l.one l.still l.joint l.lists l.found

abbrev pub decreases-take_atoms-loop-j : goal.decreases-take_atoms-loop-j
decreases-take_atoms-loop-j l = l.until - l.j
