use Rattle.std.proofs.Common.{false}
use Rattle.logic.proofs.Written.{Written}
use Rattle.cells_join.specs.inner.Joined.{merged}
use Rattle.cells_join.proofs.Prefix.{joined_at}
use Rattle.cells_join.proofs.merge_rows.Given as goal

abbrev pub invariant-loop-t : goal.invariant-loop-t
invariant-loop-t l = Written (joined_at l.join false 1 l.at (merged l.join l.first l.over 1 l.held l.initial.cells)) 0 l.over l.initial.cells l.cells l.t
