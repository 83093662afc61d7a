use Rattle.std.proofs.Common.{◌+◌, ◌-◌, ◌*◌, ◌≤◌}
use Rattle.cells_both.specs.inner.Steps.{PortsGive}
use Rattle.cells_both.proofs.+both.Given as goal

abbrev pub decreases-both_from : goal.decreases-both_from
decreases-both_from l = 3 * (l.depth - l.level) + 2

abbrev pub decreases-port_from : goal.decreases-port_from
decreases-port_from l = 3 * (l.depth - l.level)

abbrev pub decreases-ports_from : goal.decreases-ports_from
decreases-ports_from l = 3 * (l.depth - l.level) + 1

abbrev pub invariant-ports_from-loop-x : goal.invariant-ports_from-loop-x
invariant-ports_from-loop-x l = (l.x ≤ l.plan.ports) × PortsGive l.plan.ports l.plan.table.now l.plan.index.now.firsts l.plan.index.now.ends l.plan.index.now.uses l.masks l.sizes l.cells l.i l.depth l.members l.resized l.p l.q l.level l.place l.digits l.pword l.qword l.x l.sum
