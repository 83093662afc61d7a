use mathlib.Core.Path.{ap, ◌∙◌}
use native.Mathlib.Nat.{sub-zero}
use native.Mathlib.Omega.{arith}
use Rattle.logic.specs.Configuration.{mask_count, own_masks}
use Rattle.table_format.proofs.Ready.{ready}
use Rattle.cells_fill.proofs.Loading.{placed-plan, plan-filled}
use Rattle.cells_fill.proofs.fill.Goals as goal

pub below_root-below-requires : goal.below_root-below-requires
below_root-below-requires c =
    let r = ready c.args.table.now c.requires.plan c.args.nodes c.requires.decodes c.requires.nodes-are in
    (omega (arith, r.count), omega (arith, r.facts.nodes512, r.count), r.long)

pub own_masks-own-requires : goal.own_masks-own-requires
own_masks-own-requires c =
    let r = ready c.args.table.now c.requires.plan c.args.nodes c.requires.decodes c.requires.nodes-are in
    omega (arith, r.facts.sets16, c.requires.sets-are)

pub slice_bounds-fill_children-end : goal.slice_bounds-fill_children-end
slice_bounds-fill_children-end c =
    omega (arith, c.own_masks-own.ensures, c.requires.own-masks)

pub fill_children-requires : goal.fill_children-requires
unfolding own_masks
fill_children-requires c =
    let e0 = sub-zero c.own_masks-own.result ∙ c.own_masks-own.ensures ∙ ap mask_count c.requires.sets-are in
    rw (e0, c.below_root-below.ensures, c.requires.ports-are, c.requires.sets-are)
    (placed-plan c.args.table.now c.requires.plan c.args.nodes c.args.masks.now _
    (ready c.args.table.now c.requires.plan c.args.nodes c.requires.decodes c.requires.nodes-are)
    (rw c.requires.sets-are at c.requires.own-masks)
    (rw (c.requires.ports-are, c.requires.sets-are) at c.requires.within)
    (omega (arith, c.requires.own-cells)))

pub returns : goal.returns
unfolding own_masks
returns c =
    let e0 = sub-zero c.own_masks-own.result ∙ c.own_masks-own.ensures ∙ ap mask_count c.requires.sets-are in
    plan-filled c.args.table.now c.requires.plan c.args.nodes c.fill_children.result c.args.masks.now c.args.cells.now _ c.requires.decodes
    (ready c.args.table.now c.requires.plan c.args.nodes c.requires.decodes c.requires.nodes-are)
    c.requires.own-cells
    (rw (e0, c.below_root-below.ensures, c.requires.ports-are, c.requires.sets-are) at c.fill_children.ensures)
