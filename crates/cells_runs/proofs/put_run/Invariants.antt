use Rattle.logic.proofs.Written.{Written}
use Rattle.cells_runs.proofs.put_run.Given as goal

abbrev pub invariant-loop-i : goal.invariant-loop-i
invariant-loop-i l = Written (λ _. l.value) l.from l.len l.initial.cells l.cells l.i
