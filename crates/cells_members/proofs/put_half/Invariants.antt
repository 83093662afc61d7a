use mathlib.Core.Bool.{cond}
use Rattle.logic.specs.Configuration.{in_mask}
use Rattle.logic.proofs.Written.{Written}
use Rattle.cells_members.proofs.put_half.Given as goal

abbrev pub invariant-loop-t : goal.invariant-loop-t
invariant-loop-t l = Written (λ i. cond (in_mask l.half i) l.inside l.outside) 0 l.len l.initial.cell-items l.cell-items l.t
