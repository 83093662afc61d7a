use mathlib.Core.Path.{◌≡◌}
use Prim.Native.Nat.{◌-◌, ◌*◌, ◌/◌, ◌%◌}
use Rattle.cells_runs.specs.inner.Ports.{digit_at, DigitIs, by_order}
use Rattle.logic.proofs.Written.{Written}
use Rattle.cells_compare.proofs.put_nested.Given as goal

abbrev pub invariant-loop-t : goal.invariant-loop-t
invariant-loop-t l = Written (λ i. by_order l.less l.same l.more (digit_at l.ports l.other i) (digit_at l.ports l.block i)) 0 (l.ports * l.block) l.initial.cells l.cells l.t × (l.t % (l.ports * l.other) ≡ 0) × DigitIs l.ports (l.block / (l.ports * l.other)) (l.t / (l.ports * l.other)) l.v

abbrev pub decreases-loop-t : goal.decreases-loop-t
decreases-loop-t l = l.ports * l.block - l.t
