use Prim.Native.Nat.{◌-◌}
use Rattle.move_order.specs.inner.Stepping.{place}
use Rattle.move_order.proofs.Stepping.{Passed}
use Rattle.move_order.proofs.next_candidate.Given as goal

abbrev pub invariant-loop-at : goal.invariant-loop-at
invariant-loop-at l = Passed l.ports l.sets l.kinds l.masks l.initial.at l.at

abbrev pub decreases-loop-at : goal.decreases-loop-at
decreases-loop-at l = 6291456 - place l.at
