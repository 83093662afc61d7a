use Rattle.move_crossed.proofs.Listing.{Onward}
use Rattle.move_crossed.proofs.crossed_shares.Given as goal

abbrev pub invariant-loop-j : goal.invariant-loop-j
invariant-loop-j l = Onward l.plan.ports l.plan.sets l.plan.table.now l.plan.index.now.firsts l.plan.index.now.ends l.plan.index.now.uses l.masks l.cells l.m l.list l.sizes l.count l.j l.sum
