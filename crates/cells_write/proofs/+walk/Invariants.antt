use Rattle.std.proofs.Common.{◌+◌, ◌-◌, ◌*◌}
use Rattle.cells_visit.proofs.Rowing.{RowPassed}
use Rattle.cells_visit.proofs.Writes.{RowCarried, Ahead, RowsAhead}
use Rattle.cells_write.proofs.+walk.Given as goal

abbrev pub decreases-all_ports_written : goal.decreases-all_ports_written
decreases-all_ports_written l = 8 * (512 - l.i)

abbrev pub decreases-cell_written : goal.decreases-cell_written
decreases-cell_written l = 8 * (512 - l.i) + 2

abbrev pub decreases-pair_written : goal.decreases-pair_written
decreases-pair_written l = 8 * (512 - l.i) + 3

abbrev pub decreases-ports_written : goal.decreases-ports_written
decreases-ports_written l = 8 * (512 - l.i) + 1

abbrev pub decreases-row_cells_written : goal.decreases-row_cells_written
decreases-row_cells_written l = 8 * (512 - l.i) + 3

abbrev pub decreases-row_tree_written : goal.decreases-row_tree_written
decreases-row_tree_written l = 8 * (512 - l.i) + 5

abbrev pub decreases-row_trees_written : goal.decreases-row_trees_written
decreases-row_trees_written l = 8 * (512 - l.i) + 6

abbrev pub decreases-row_written : goal.decreases-row_written
decreases-row_written l = 8 * (512 - l.i) + 4

abbrev pub decreases-tree_written : goal.decreases-tree_written
decreases-tree_written l = 8 * (512 - l.i) + 3

abbrev pub decreases-trees_written : goal.decreases-trees_written
decreases-trees_written l = 8 * (512 - l.i) + 4

abbrev pub invariant-row_cells_written-loop-x : goal.invariant-row_cells_written-loop-x
invariant-row_cells_written-loop-x l = RowPassed l.plan.ports l.plan.sets l.change l.plan.table.now l.plan.index.now.firsts l.plan.index.now.ends l.plan.index.now.uses l.masks l.initial.cells l.i l.depth l.row l.digits l.word l.every l.initial.out l.x l.out l.changed × RowCarried l.plan.ports l.plan.sets l.change l.plan.table.now l.plan.index.now.firsts l.plan.index.now.ends l.plan.index.now.uses l.masks l.initial.cells l.i l.depth l.row l.digits l.word l.every l.x l.cells

abbrev pub decreases-row_cells_written-loop-x : goal.decreases-row_cells_written-loop-x
decreases-row_cells_written-loop-x l = l.plan.ports - l.x

abbrev pub invariant-row_trees_written-loop-j : goal.invariant-row_trees_written-loop-j
invariant-row_trees_written-loop-j l = RowsAhead l.plan.ports l.plan.sets l.change l.plan.table.now l.plan.index.now.firsts l.plan.index.now.ends l.plan.index.now.uses l.masks l.initial.cells l.initial.j l.until l.depth l.row l.digits l.word l.add l.initial.out l.j l.out l.changed l.cells

abbrev pub decreases-row_trees_written-loop-j : goal.decreases-row_trees_written-loop-j
decreases-row_trees_written-loop-j l = l.until - l.j

abbrev pub invariant-trees_written-loop-j : goal.invariant-trees_written-loop-j
invariant-trees_written-loop-j l = Ahead l.plan.ports l.plan.sets l.change l.plan.table.now l.plan.index.now.firsts l.plan.index.now.ends l.plan.index.now.uses l.masks l.initial.cells l.initial.j l.until l.depth l.place l.digits l.word l.add l.initial.sum l.j l.sum l.cells

abbrev pub decreases-trees_written-loop-j : goal.decreases-trees_written-loop-j
decreases-trees_written-loop-j l = l.until - l.j
