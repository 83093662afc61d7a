use mathlib.Core.Path.{ap}
use Prim.Native.Nat.{ℕ}
use lib.Bits.{bit_xor}
use Rattle.logic.specs.inner.Flip.{flip_port}
use Rattle.logic.proofs.Masks.{port-bit}
use Rattle.logic.proofs.flip_port.Goals as goal

pub returns : goal.returns
unfolding flip_port
returns c = ap (λ (x : ℕ). bit_xor c.args.mask x) (port-bit c.args.p c.requires)
