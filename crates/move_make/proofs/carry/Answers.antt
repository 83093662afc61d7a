use mathlib.Core.Path.{ap, ◌∙◌}
use Prim.Native.Nat.{ℕ}
use native.Mathlib.Nat.{sub-zero}
use native.Mathlib.Omega.{arith}
use lib.ListN.{take}
use Rattle.call_open.proofs.OpenPlan.{ports-fit, sets-fit, masks-long}
use Rattle.move_try.proofs.OpenMove.{legal-over, sets-ready, root-ready}
use Rattle.move_make.proofs.Carrying.{back_fits, lent_again, carried}
use Rattle.move_make.proofs.carry.Goals as goal

pub own_masks-own-requires : goal.own_masks-own-requires
own_masks-own-requires c =
    sets-fit c.requires.tables-open.opened

pub narrow-requires : goal.narrow-requires
narrow-requires c =
    ports-fit c.requires.tables-open.opened

pub narrow-requires-2 : goal.narrow-requires-2
narrow-requires-2 c =
    let h = sets-fit c.requires.tables-open.opened in omega (arith, h)

pub slice_bounds-masks_after-end : goal.slice_bounds-masks_after-end
slice_bounds-masks_after-end c =
    let h = masks-long c.requires.tables-open.opened in omega (arith, h, c.own_masks-own.ensures)

pub masks_after-requires : goal.masks_after-requires
masks_after-requires c =
    legal-over c.requires _ _ c.narrow.ensures c.narrow-2.ensures _ (ap (λ (j : ℕ). take j c.args.masks.now) (sub-zero c.own_masks-own.result ∙ c.own_masks-own.ensures))

pub slice_bounds-root_written-end : goal.slice_bounds-root_written-end
slice_bounds-root_written-end c =
    back_fits c.requires c.masks_after.new.masks _ (sub-zero c.own_masks-own.result ∙ c.own_masks-own.ensures) c.masks_after.ensures _ _ (omega arith)

pub change_of-requires : goal.change_of-requires
change_of-requires c =
    sets-ready c.requires

pub root_written-requires : goal.root_written-requires
root_written-requires c =
    root-ready c.requires _ c.change_of.ensures _ (lent_again c.requires c.masks_after.new.masks _ (sub-zero c.own_masks-own.result ∙ c.own_masks-own.ensures) c.masks_after.ensures _)

pub returns : goal.returns
returns c =
    carried c.requires c.masks_after.new.masks _ (sub-zero c.own_masks-own.result ∙ c.own_masks-own.ensures) c.masks_after.ensures _ c.change_of.ensures _ (lent_again c.requires c.masks_after.new.masks _ (sub-zero c.own_masks-own.result ∙ c.own_masks-own.ensures) c.masks_after.ensures _) _ _ c.root_written.ensures.0 c.root_written.ensures.1
