use Rattle.std.proofs.Common.{true}
use Rattle.logic.proofs.Written.{Written}
use Rattle.cells_row.proofs.Steps.{taken_at}
use Rattle.cells_row.proofs.add_row.Given as goal

abbrev pub invariant-loop-x : goal.invariant-loop-x
invariant-loop-x l = Written (taken_at true l.new l.old l.initial.out) 0 l.ports l.initial.out l.out l.x
