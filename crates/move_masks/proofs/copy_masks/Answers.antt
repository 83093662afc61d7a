use mathlib.Core.Path.{refl}
use Prim.Native.Nat.{◌-◌}
use Rattle.logic.proofs.Written.{start, one-more-first, all_first, take-tabulate}
use Rattle.move_masks.proofs.copy_masks.Goals as goal

pub loop-s-init : goal.loop-s-init
loop-s-init c =
    start _ _ _ _

pub loop-s-preserved : goal.loop-s-preserved
loop-s-preserved c =
    one-more-first _ _ _ _ _ _ c.loop-s.invariant c.loop-s-test.true c.requires.1 refl

pub returns : goal.returns
returns c =
    rw (take-tabulate c.args.count c.args.masks.now c.requires.0) (all_first _ _ _ _ _ c.loop-s.invariant c.loop-s-test.false)
