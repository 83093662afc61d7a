use Prim.Native.Nat.{◌-◌}
use Rattle.cells_zero.proofs.Telling.{Onward}
use Rattle.cells_zero.proofs.zero_among.Given as goal

abbrev pub invariant-loop-j : goal.invariant-loop-j
invariant-loop-j l = Onward l.plan.index.now.firsts l.plan.index.now.ends l.plan.index.now.uses l.cells l.initial.j l.until l.place l.word l.j

abbrev pub decreases-loop-j : goal.decreases-loop-j
decreases-loop-j l = l.until - l.j
