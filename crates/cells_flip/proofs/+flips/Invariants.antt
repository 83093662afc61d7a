use Prim.Native.Nat.{◌+◌, ◌-◌, ◌*◌}
use Rattle.cells_flip.proofs.Flipping.{Onward}
use Rattle.cells_flip.proofs.+flips.Given as goal

abbrev pub decreases-flip_row : goal.decreases-flip_row
decreases-flip_row l = 3 * (512 - l.i)

abbrev pub decreases-flip_tree : goal.decreases-flip_tree
decreases-flip_tree l = 3 * (512 - l.i) + 1

abbrev pub decreases-flip_trees : goal.decreases-flip_trees
decreases-flip_trees l = 3 * (512 - l.i) + 2

abbrev pub invariant-flip_trees-loop-j : goal.invariant-flip_trees-loop-j
invariant-flip_trees-loop-j l = Onward l.plan.table.now l.plan.index.now.firsts l.plan.index.now.ends l.plan.index.now.uses l.masks l.sizes l.cells l.until l.count l.own l.row l.digits l.word l.add l.initial.j l.initial.out l.j l.out

abbrev pub decreases-flip_trees-loop-j : goal.decreases-flip_trees-loop-j
decreases-flip_trees-loop-j l = l.until - l.j
