use Prim.Native.Nat.{◌+◌, ◌-◌}
use lib.ListN.{length}
use Rattle.cells_fill.proofs.Filling.{Passed}
use Rattle.cells_fill.proofs.+filling.Given as goal

abbrev pub decreases-fill_children : goal.decreases-fill_children
decreases-fill_children l = length l.part.now + 1

abbrev pub decreases-fill_tree : goal.decreases-fill_tree
decreases-fill_tree l = length l.part.now

abbrev pub invariant-fill_children-loop-place : goal.invariant-fill_children-loop-place
invariant-fill_children-loop-place l = Passed l.part l.i l.above l.ports l.sets l.depth l.width l.over l.masks l.initial.cells l.place l.node l.at l.held l.join l.cells

abbrev pub decreases-fill_children-loop-place : goal.decreases-fill_children-loop-place
decreases-fill_children-loop-place l = length l.part - l.place
