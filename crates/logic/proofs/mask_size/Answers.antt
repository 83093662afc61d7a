use mathlib.Core.Path.{sym, ap, ◌∙◌}
use Prim.Native.Nat.{◌^◌, ◌<◌}
use native.Mathlib.Omega.{arith}
use lib.Bits.{bit_and, bit_xor, and_le_l}
use lib.Count.{ones-le}
use Rattle.logic.specs.Configuration.{ports_in}
use Rattle.logic.proofs.Masks.{ports-mask, in-out-of-test}
use Rattle.logic.proofs.mask_size.Goals as goal

pub returns : goal.returns
returns c = let m = c.args.mask in
    let t = c.args.test in
    let h : bit_and m (bit_xor m t) < 2 ^ 64 = omega (arith, and_le_l m (bit_xor m t)) in
    (sym (ports-mask 64 (bit_and m (bit_xor m t)) h) ∙ ap (ports_in 64) (in-out-of-test m t), ones-le 64 (bit_and m (bit_xor m t)) h)
