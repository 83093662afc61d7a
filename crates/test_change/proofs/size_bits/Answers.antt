use mathlib.Core.Path.{◌≡◌, refl, ap, ap₂, ◌∙◌}
use Prim.Native.Nat.{ℕ, suc, ◌+◌, ◌<◌}
use native.Mathlib.Omega.{arith}
use lib.Bits.{bit_or}
use lib.Seq.{get_or-take, length-take-le}
use Rattle.test_change.specs.inner.Holders.{held_bit, size_bits}
use Rattle.test_change.proofs.size_bits.Goals as goal

pub loop-set-init : goal.loop-set-init
unfolding size_bits
loop-set-init c = refl

pub held_bit-word-requires : goal.held_bit-word-requires
held_bit-word-requires c =
    (omega (arith, length-take-le c.args.sets c.args.masks.now c.requires.1), c.requires.2)

pub loop-set-preserved : goal.loop-set-preserved
unfolding size_bits
loop-set-preserved c =
    let n : c.loop-set.set < c.args.sets = omega (arith, length-take-le c.args.sets c.args.masks.now c.requires.1) in
    let e : suc c.loop-set.set ≡ c.loop-set.set + 1 = omega arith in
    ap₂ bit_or c.loop-set.invariant (c.held_bit-word.ensures ∙ ap (λ (x : ℕ). held_bit x c.loop-set.set c.args.port) (get_or-take c.args.sets c.args.masks.now c.loop-set.set 0 n))
    ∙ ap (size_bits c.args.masks.now c.args.port) e
