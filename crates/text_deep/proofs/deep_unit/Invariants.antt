use Prim.Native.Nat.{◌-◌}
use lib.ListN.{length}
use Rattle.text_deep.proofs.Loop.{Along}
use Rattle.text_deep.proofs.deep_unit.Given as goal

abbrev pub invariant-loop-p : goal.invariant-loop-p
invariant-loop-p l = Along l.text l.initial.out l.out l.at l.n l.p

abbrev pub decreases-loop-p : goal.decreases-loop-p
decreases-loop-p l = length l.text - l.p.next
