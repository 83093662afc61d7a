use Rattle.cells_share.proofs.Listing.{Onward}
use Rattle.cells_share.proofs.list_shares.Given as goal

abbrev pub invariant-loop-j : goal.invariant-loop-j
invariant-loop-j l = Onward l.plan.ports l.plan.sets l.change l.plan.table.now l.plan.index.now.firsts l.plan.index.now.ends l.plan.index.now.uses l.masks l.cells l.list l.count l.j l.sum
