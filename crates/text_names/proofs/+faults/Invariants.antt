use Prim.Native.Nat.{◌+◌, ◌-◌, ◌*◌}
use Rattle.text_names.specs.inner.Faults.{Finds}
use Rattle.text_names.proofs.+faults.Given as goal

abbrev pub decreases-find_faults : goal.decreases-find_faults
decreases-find_faults l = 2 * l.e + 1

abbrev pub decreases-last_faults : goal.decreases-last_faults
decreases-last_faults l = 2 * l.e

abbrev pub invariant-find_faults-loop-j : goal.invariant-find_faults-loop-j
invariant-find_faults-loop-j l = Finds l.t (l.e - 2 * l.j) l.sets l.bound l.d l.faults
