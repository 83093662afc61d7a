use mathlib.Core.Path.{◌∙◌, ap, sym}
use native.Mathlib.Omega.{arith}
use Prim.Native.Nat.{ℕ}
use lib.ListN.{take}
use Rattle.call_open.proofs.OpenPlan.{ports-fit, sets-fit, masks-long}
use Rattle.move_try.proofs.OpenMove.{legal-over, sets-ready, masks-made, root-ready, numbers-are}
use Rattle.move_masks.proofs.Copying.{copied-whole}
use Rattle.move_try.proofs.try_move.Goals as goal

pub own_masks-requires : goal.own_masks-requires
own_masks-requires c =
    sets-fit c.requires.legal-move.tables-open.opened

pub copy_masks-requires : goal.copy_masks-requires
copy_masks-requires c =
    let h = masks-long c.requires.legal-move.tables-open.opened in (omega (arith, c.own_masks.ensures, h), omega (arith, c.own_masks.ensures, c.requires.work-long))

pub narrow-requires : goal.narrow-requires
narrow-requires c =
    ports-fit c.requires.legal-move.tables-open.opened

pub narrow-requires-2 : goal.narrow-requires-2
narrow-requires-2 c =
    let h = sets-fit c.requires.legal-move.tables-open.opened in omega (arith, h)

pub masks_after-requires : goal.masks_after-requires
masks_after-requires c =
    legal-over c.requires.legal-move _ _ c.narrow.ensures c.narrow-2.ensures _ (copied-whole _ _ _ _ c.copy_masks.ensures (c.requires.work-long ∙ sym c.own_masks.ensures) ∙ ap (λ (j : ℕ). take j c.args.masks.now) c.own_masks.ensures)

pub change_of-requires : goal.change_of-requires
change_of-requires c =
    sets-ready c.requires.legal-move

pub root_after-requires : goal.root_after-requires
root_after-requires c =
    root-ready c.requires.legal-move _ c.change_of.ensures _ (masks-made c.requires.legal-move _ _ (copied-whole _ _ _ _ c.copy_masks.ensures (c.requires.work-long ∙ sym c.own_masks.ensures) ∙ ap (λ (j : ℕ). take j c.args.masks.now) c.own_masks.ensures) c.masks_after.ensures)

pub returns : goal.returns
returns c =
    numbers-are c.requires.legal-move _ c.change_of.ensures _ (masks-made c.requires.legal-move _ _ (copied-whole _ _ _ _ c.copy_masks.ensures (c.requires.work-long ∙ sym c.own_masks.ensures) ∙ ap (λ (j : ℕ). take j c.args.masks.now) c.own_masks.ensures) c.masks_after.ensures) _ c.root_after.ensures
