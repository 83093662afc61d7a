use Rattle.std.proofs.Common.{◌≤◌, length, get_or}
use Rattle.logic.proofs.Written.{Written}
use Rattle.cells_row.proofs.put_row.Given as goal

abbrev pub invariant-loop-x : goal.invariant-loop-x
invariant-loop-x l = Written (λ y. get_or l.row y 0) l.at l.ports l.initial.cells l.cells l.x × (l.ports ≤ length l.row)
