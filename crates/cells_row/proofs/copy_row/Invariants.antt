use Rattle.std.proofs.Common.{get_or}
use Rattle.logic.proofs.Written.{Written}
use Rattle.cells_row.proofs.copy_row.Given as goal

abbrev pub invariant-loop-x : goal.invariant-loop-x
invariant-loop-x l = Written (λ j. get_or l.from j 0) 0 l.ports l.initial.out l.out l.x
