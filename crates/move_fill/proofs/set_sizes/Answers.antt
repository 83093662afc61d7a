use mathlib.Core.Path.{refl, ◌∙◌}
use Prim.Native.Nat.{◌-◌}
use native.Mathlib.Omega.{arith}
use Rattle.move_fill.proofs.Sizes.{none-set, one_set, all_set, sixteen}
use Rattle.move_fill.proofs.set_sizes.Goals as goal

pub loop-s-init : goal.loop-s-init
loop-s-init c =
    (omega arith, c.requires.0, c.requires.1, refl, none-set _ _ _ sixteen)

pub set_size-requires : goal.set_size-requires
set_size-requires c =
    (omega arith, c.loop-s.invariant.2)

pub bounds-sizes-s : goal.bounds-sizes-s
bounds-sizes-s c =
    omega arith

pub loop-s-preserved : goal.loop-s-preserved
loop-s-preserved c =
    (omega arith, c.loop-s.invariant.1, c.loop-s.invariant.2, (one_set _ _ _ _ _ c.loop-s.invariant.4 (omega (arith, c.loop-s.invariant.3)) c.set_size.ensures.0 c.set_size.ensures.1).0 ∙ c.loop-s.invariant.3, (one_set _ _ _ _ _ c.loop-s.invariant.4 (omega (arith, c.loop-s.invariant.3)) c.set_size.ensures.0 c.set_size.ensures.1).1)

pub returns : goal.returns
returns c =
    all_set _ _ _ _ c.loop-s.invariant.4 c.loop-s-test.false c.loop-s.invariant.0
