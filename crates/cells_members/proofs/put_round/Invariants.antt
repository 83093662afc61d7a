use mathlib.Core.Path.{◌≡◌}
use mathlib.Core.Bool.{cond}
use Prim.Native.Nat.{◌*◌}
use Rattle.logic.specs.Configuration.{in_mask}
use Rattle.cells_runs.specs.inner.Ports.{digit_at}
use Rattle.logic.proofs.Written.{Written}
use Rattle.cells_members.proofs.put_round.Given as goal

abbrev pub invariant-loop-port : goal.invariant-loop-port
invariant-loop-port l = Written (λ i. cond (in_mask l.mask (digit_at l.ports l.block i)) l.inside l.outside) 0 l.width l.initial.cells l.cells l.t × (l.t ≡ l.port * l.block)
