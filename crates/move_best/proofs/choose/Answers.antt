use native.Mathlib.Omega.{arith}
use Rattle.call_open.proofs.OpenPlan.{sets-fit}
use Rattle.move_best.proofs.choose.Goals as goal

pub own_masks-own-requires : goal.own_masks-own-requires
own_masks-own-requires c =
    sets-fit c.requires.tables-open.opened

pub slice_bounds-work-end : goal.slice_bounds-work-end
slice_bounds-work-end c =
    omega (arith, sets-fit c.requires.tables-open.opened, c.own_masks-own.ensures)
