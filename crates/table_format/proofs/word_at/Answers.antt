use mathlib.Core.Path.{ap₂}
use native.Mathlib.Omega.{arith}
use Prim.Native.Nat.{ℕ, ◌+◌, ◌*◌}
use Rattle.table_format.specs.Bytes.{word}
use Rattle.table_format.proofs.word_at.Goals as goal

pub returns : goal.returns
unfolding word
returns c =
    record { is = ap₂ (λ (x y : ℕ). x + 256 * y) c.wide.ensures.0 c.wide-2.ensures.0; fits = omega (arith, c.wide.ensures.1, c.wide-2.ensures.1); bytes = λ i. (c.shared_slice_known-1.given i).fits }
