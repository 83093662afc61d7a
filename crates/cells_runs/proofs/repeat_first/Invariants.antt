use Prim.Native.Nat.{◌-◌}
use Rattle.cells_runs.proofs.Rounds.{Repeating}
use Rattle.cells_runs.proofs.repeat_first.Given as goal

abbrev pub invariant-loop-t : goal.invariant-loop-t
invariant-loop-t l = Repeating l.period l.width l.initial.cells l.cells l.t

abbrev pub decreases-loop-t : goal.decreases-loop-t
decreases-loop-t l = l.width - l.t
