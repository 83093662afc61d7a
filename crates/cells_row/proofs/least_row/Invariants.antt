use Rattle.std.proofs.Common.{false}
use Rattle.logic.proofs.Written.{Written}
use Rattle.cells_row.proofs.Steps.{taken_at}
use Rattle.cells_row.proofs.least_row.Given as goal

abbrev pub invariant-loop-x : goal.invariant-loop-x
invariant-loop-x l = Written (taken_at false l.new l.new l.initial.out) 0 l.ports l.initial.out l.out l.x
