use Rattle.move_best.proofs.Searching.{ahead, Writing}
use Rattle.move_best.proofs.write_best.Given as goal

abbrev pub invariant-loop-here : goal.invariant-loop-here
invariant-loop-here l = Writing l.plan.table.now l.masks l.cells l.kinds l.plan.sets l.initial.list l.work l.list l.i l.here

abbrev pub decreases-loop-here : goal.decreases-loop-here
decreases-loop-here l = ahead l.here
