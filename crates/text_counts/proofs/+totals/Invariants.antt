use Prim.Native.Nat.{◌+◌, ◌-◌, ◌*◌}
use Rattle.text_counts.specs.inner.Counts.{HasTotals}
use Rattle.text_counts.proofs.+totals.Given as goal

abbrev pub decreases-last_totals : goal.decreases-last_totals
decreases-last_totals l = 2 * l.e

abbrev pub decreases-part_totals : goal.decreases-part_totals
decreases-part_totals l = 2 * l.e + 1

abbrev pub invariant-part_totals-loop-j : goal.invariant-part_totals-loop-j
invariant-part_totals-loop-j l = HasTotals l.t (l.e - 2 * l.j) l.u l.limit l.totals
