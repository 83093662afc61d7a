use mathlib.Core.Path.{◌∙◌}
use native.Mathlib.Nat.{sub-zero}
use native.Mathlib.Omega.{arith}
use Rattle.call_open.proofs.OpenPlan.{sets-fit, masks-long}
use Rattle.test_make.proofs.Putting.{asks-change, lent-enough, root-ready, port-put}
use Rattle.test_make.proofs.put_port.Goals as goal

pub test_change-change-requires : goal.test_change-change-requires
test_change-change-requires c =
    asks-change c.requires

pub narrow-requires : goal.narrow-requires
narrow-requires c =
    omega (arith, sets-fit c.requires.tables-open.opened)

pub flip_at-requires : goal.flip_at-requires
flip_at-requires c =
    let a = asks-change c.requires in (omega (arith, c.narrow.ensures, masks-long c.requires.tables-open.opened), a.2)

pub own_masks-own-requires : goal.own_masks-own-requires
own_masks-own-requires c =
    sets-fit c.requires.tables-open.opened

pub slice_bounds-root_written-end : goal.slice_bounds-root_written-end
slice_bounds-root_written-end c =
    lent-enough c.requires _ _ c.narrow.ensures c.own_masks-own.ensures _ c.flip_at.ensures

pub root_written-requires : goal.root_written-requires
root_written-requires c =
    root-ready c.requires _ _ c.narrow.ensures (sub-zero c.own_masks-own.result ∙ c.own_masks-own.ensures) _ c.flip_at.ensures _ c.test_change-change.ensures

pub returns : goal.returns
returns c =
    port-put c.requires _ _ c.narrow.ensures (sub-zero c.own_masks-own.result ∙ c.own_masks-own.ensures) _ c.flip_at.ensures _ c.test_change-change.ensures _ _ c.root_written.ensures.0 c.root_written.ensures.1
