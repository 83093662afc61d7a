use Rattle.std.proofs.Common.{◌≡◌, ◌-◌, ◌≤◌, length}
use Rattle.cells_tuples.proofs.Rows.{RowsGive}
use Rattle.cells_tuples.proofs.all_rows.Given as goal

abbrev pub invariant-loop-number : goal.invariant-loop-number
invariant-loop-number l = (l.number ≤ l.count) × (length l.out ≡ length l.initial.out)
    × RowsGive l.plan.ports l.plan.table.now l.plan.index.now.firsts l.plan.index.now.ends l.plan.index.now.uses l.masks l.sizes l.cells l.i l.outer l.members l.resized l.number l.initial.out l.out l.sum
