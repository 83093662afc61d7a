use Prim.Native.Nat.{◌+◌}
use lib.ListN.{length}
use Rattle.table_check.proofs.Siblings.{Passed}
use Rattle.table_check.proofs.+check.Given as goal

abbrev pub decreases-check_children : goal.decreases-check_children
decreases-check_children l = length l.part.now + 2

abbrev pub decreases-check_forest : goal.decreases-check_forest
decreases-check_forest l = length l.part.now + 1

abbrev pub decreases-check_tree : goal.decreases-check_tree
decreases-check_tree l = length l.part.now

abbrev pub invariant-check_forest-loop-rest : goal.invariant-check_forest-loop-rest
invariant-check_forest-loop-rest l = Passed l.part l.i l.place.parent l.place.depth l.place.ports l.place.sets l.place.above l.place.width l.first l.initial.index l.rest l.node l.trees l.cells l.used l.index

abbrev pub decreases-check_forest-loop-rest : goal.decreases-check_forest-loop-rest
decreases-check_forest-loop-rest l = length l.rest
