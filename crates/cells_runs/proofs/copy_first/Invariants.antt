use lib.ListN.{get_or}
use Rattle.logic.proofs.Written.{Written}
use Rattle.cells_runs.proofs.copy_first.Given as goal

abbrev pub invariant-loop-i : goal.invariant-loop-i
invariant-loop-i l = Written (λ j. get_or l.initial.cells j 0) l.to l.len l.initial.cells l.cells l.i
