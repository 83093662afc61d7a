use Rattle.logic.proofs.Written.{Written}
use Rattle.cells_join.proofs.Prefix.{joined_at}
use Rattle.cells_join.proofs.merge_row.Given as goal

abbrev pub invariant-loop-t : goal.invariant-loop-t
invariant-loop-t l = Written (joined_at l.join l.first 1 l.at l.initial.cells) 0 l.over l.initial.cells l.cells l.t
