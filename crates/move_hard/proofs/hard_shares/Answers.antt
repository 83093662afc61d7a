use native.Mathlib.Omega.{arith}
use Rattle.call_open.proofs.OpenPlan.{ports-fit, sets-fit, masks-long}
use Rattle.move_try.proofs.OpenMove.{legal-over, sets-ready, masks-made}
use Rattle.move_hard.proofs.Hards.{copied, no-shares, list-ready, shares-given}
use Rattle.move_hard.proofs.hard_shares.Goals as goal

pub returns-then-count-eq0 : goal.returns-then-count-eq0
returns-then-count-eq0 c =
    no-shares c.requires c.if-count-eq0.true

pub own_masks-requires : goal.own_masks-requires
own_masks-requires c =
    sets-fit c.requires.move-ready.legal-move.tables-open.opened

pub copy_masks-requires : goal.copy_masks-requires
copy_masks-requires c =
    let h = masks-long c.requires.move-ready.legal-move.tables-open.opened in (omega (arith, c.own_masks.ensures, h), omega (arith, c.own_masks.ensures, c.requires.move-ready.work-long))

pub narrow-requires : goal.narrow-requires
narrow-requires c =
    ports-fit c.requires.move-ready.legal-move.tables-open.opened

pub narrow-requires-2 : goal.narrow-requires-2
narrow-requires-2 c =
    let h = sets-fit c.requires.move-ready.legal-move.tables-open.opened in omega (arith, h)

pub masks_after-requires : goal.masks_after-requires
masks_after-requires c =
    legal-over c.requires.move-ready.legal-move _ _ c.narrow.ensures c.narrow-2.ensures _ (copied c.requires _ _ c.copy_masks.ensures c.own_masks.ensures)

pub change_of-requires : goal.change_of-requires
change_of-requires c =
    sets-ready c.requires.move-ready.legal-move

pub list_shares-requires : goal.list_shares-requires
list_shares-requires c =
    list-ready c.requires _ c.change_of.ensures _ (masks-made c.requires.move-ready.legal-move _ _ (copied c.requires _ _ c.copy_masks.ensures c.own_masks.ensures) c.masks_after.ensures)

pub returns : goal.returns
returns c =
    shares-given c.requires _ c.change_of.ensures _ (masks-made c.requires.move-ready.legal-move _ _ (copied c.requires _ _ c.copy_masks.ensures c.own_masks.ensures) c.masks_after.ensures) _ c.list_shares.ensures
