use Prim.Native.Nat.{◌+◌, ◌*◌, ◌-◌, min, max}
use Rattle.text_emit.specs.inner.Emits.{EmitsOnward}
use Rattle.text_emit.proofs.+emission.Given as goal

abbrev pub decreases-emit : goal.decreases-emit
decreases-emit l = 5 * l.e

abbrev pub decreases-joined : goal.decreases-joined
decreases-joined l = 5 * max l.m l.e + 2 * min 1 (l.operator - 8) + 2

abbrev pub decreases-operands : goal.decreases-operands
decreases-operands l = 5 * max l.m l.e + 2 * min 1 (l.operator - 8) + 1

abbrev pub invariant-operands-loop-next : goal.invariant-operands-loop-next
invariant-operands-loop-next l = EmitsOnward l.t l.initial.last l.sets l.bound l.initial.q l.up l.initial.n l.initial.out l.n l.last l.q l.out

abbrev pub decreases-operands-loop-next : goal.decreases-operands-loop-next
decreases-operands-loop-next l = l.last
