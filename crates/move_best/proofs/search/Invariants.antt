use Rattle.move_best.proofs.Searching.{ahead, Searching}
use Rattle.move_best.proofs.search.Given as goal

abbrev pub invariant-loop-at : goal.invariant-loop-at
invariant-loop-at l = Searching l.plan.table.now l.masks l.cells l.kinds l.plan.sets l.work l.best l.at

abbrev pub decreases-loop-at : goal.decreases-loop-at
decreases-loop-at l = ahead l.at
