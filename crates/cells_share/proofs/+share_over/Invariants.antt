use Rattle.std.proofs.Common.{◌-◌, ◌≤◌}
use Rattle.cells_share.specs.inner.Sharing.{PortsGive}
use Rattle.cells_share.proofs.+share_over.Given as goal

abbrev pub decreases-share_over : goal.decreases-share_over
decreases-share_over l = l.depth - l.level

abbrev pub invariant-loop-x : goal.invariant-loop-x
invariant-loop-x l = (l.x ≤ l.plan.ports) × PortsGive l.plan.ports l.plan.sets l.change l.plan.table.now l.plan.index.now.firsts l.plan.index.now.ends l.plan.index.now.uses l.masks l.cells l.i l.depth l.level l.place l.digits l.word l.x l.sum
