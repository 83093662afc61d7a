use Rattle.std.proofs.Common.{◌+◌, ◌-◌, ◌*◌}
use Rattle.cells_visit.proofs.Walking.{Onward}
use Rattle.cells_visit.proofs.Rowing.{RowPassed, RowsOnward}
use Rattle.cells_try.proofs.+walk.Given as goal

abbrev pub decreases-all_ports_after : goal.decreases-all_ports_after
decreases-all_ports_after l = 8 * (512 - l.i)

abbrev pub decreases-cell_after : goal.decreases-cell_after
decreases-cell_after l = 8 * (512 - l.i) + 2

abbrev pub decreases-pair_after : goal.decreases-pair_after
decreases-pair_after l = 8 * (512 - l.i) + 3

abbrev pub decreases-ports_after : goal.decreases-ports_after
decreases-ports_after l = 8 * (512 - l.i) + 1

abbrev pub decreases-row_after : goal.decreases-row_after
decreases-row_after l = 8 * (512 - l.i) + 4

abbrev pub decreases-row_cells_after : goal.decreases-row_cells_after
decreases-row_cells_after l = 8 * (512 - l.i) + 3

abbrev pub decreases-row_tree_after : goal.decreases-row_tree_after
decreases-row_tree_after l = 8 * (512 - l.i) + 5

abbrev pub decreases-row_trees_after : goal.decreases-row_trees_after
decreases-row_trees_after l = 8 * (512 - l.i) + 6

abbrev pub decreases-tree_after : goal.decreases-tree_after
decreases-tree_after l = 8 * (512 - l.i) + 3

abbrev pub decreases-trees_after : goal.decreases-trees_after
decreases-trees_after l = 8 * (512 - l.i) + 4

abbrev pub invariant-row_cells_after-loop-x : goal.invariant-row_cells_after-loop-x
invariant-row_cells_after-loop-x l = RowPassed l.plan.ports l.plan.sets l.change l.plan.table.now l.plan.index.now.firsts l.plan.index.now.ends l.plan.index.now.uses l.masks l.cells l.i l.depth l.row l.digits l.word l.every l.initial.out l.x l.out l.changed

abbrev pub decreases-row_cells_after-loop-x : goal.decreases-row_cells_after-loop-x
decreases-row_cells_after-loop-x l = l.plan.ports - l.x

abbrev pub invariant-row_trees_after-loop-j : goal.invariant-row_trees_after-loop-j
invariant-row_trees_after-loop-j l = RowsOnward l.plan.ports l.plan.sets l.change l.plan.table.now l.plan.index.now.firsts l.plan.index.now.ends l.plan.index.now.uses l.masks l.cells l.initial.j l.until l.depth l.row l.digits l.word l.add l.initial.out l.j l.out l.changed

abbrev pub decreases-row_trees_after-loop-j : goal.decreases-row_trees_after-loop-j
decreases-row_trees_after-loop-j l = l.until - l.j

abbrev pub invariant-trees_after-loop-j : goal.invariant-trees_after-loop-j
invariant-trees_after-loop-j l = Onward l.plan.ports l.plan.sets l.change l.plan.table.now l.plan.index.now.firsts l.plan.index.now.ends l.plan.index.now.uses l.masks l.cells l.initial.j l.until l.depth l.place l.digits l.word l.add l.initial.sum l.j l.sum

abbrev pub decreases-trees_after-loop-j : goal.decreases-trees_after-loop-j
decreases-trees_after-loop-j l = l.until - l.j
