use Prim.Native.Nat.{◌-◌}
use Rattle.cells_members.proofs.Few.{Sparse}
use Rattle.cells_members.proofs.put_few.Given as goal

abbrev pub invariant-loop-p : goal.invariant-loop-p
invariant-loop-p l = Sparse l.inside l.outside l.mask l.row l.initial.cells l.cells l.p l.rest

abbrev pub decreases-loop-p : goal.decreases-loop-p
decreases-loop-p l = l.row - l.p
