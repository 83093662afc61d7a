use Prim.Native.Nat.{ℕ}
use native.Mathlib.Omega.{arith}
use lib.ListN.{length-replicate}
use Rattle.call_open.proofs.OpenPlan.{sets-fit, masks-long}
use Rattle.move_best.proofs.Owning.{zeros-empty, fill-ready, chooses-whole}
use Rattle.move_best.proofs.best_move.Goals as goal

pub own_masks-own-requires : goal.own_masks-own-requires
own_masks-own-requires c =
    sets-fit c.requires.tables-open.opened

pub slice_bounds-fill_tables-end : goal.slice_bounds-fill_tables-end
slice_bounds-fill_tables-end c =
    omega (arith, c.own_masks-own.ensures, masks-long c.requires.tables-open.opened)

pub slice_bounds-fill_tables-end-2 : goal.slice_bounds-fill_tables-end-2
slice_bounds-fill_tables-end-2 c =
    omega (arith, c.requires.tables-open.opened.own-cells, c.requires.cells-own c.requires.tables-open.opened.plan c.requires.tables-open.opened.decodes)

pub fill_tables-left-requires : goal.fill_tables-left-requires
fill_tables-left-requires c =
    fill-ready c.requires.tables-open.opened _ (omega arith) c.requires.tables-open.cells_fit _ _ c.own_masks-own.ensures c.requires.cells-own _ _ _ _ (length-replicate {A = ℕ} 4096 0) (length-replicate {A = ℕ} 64 0) (length-replicate {A = ℕ} 16384 0) (length-replicate {A = ℕ} 1024 0) (zeros-empty 4096) (zeros-empty 64) (zeros-empty 16384)

pub slice_bounds-choose-end : goal.slice_bounds-choose-end
slice_bounds-choose-end c =
    omega (arith, c.own_masks-own.ensures, masks-long c.requires.tables-open.opened)

pub slice_bounds-choose-end-2 : goal.slice_bounds-choose-end-2
slice_bounds-choose-end-2 c =
    omega (arith, c.requires.tables-open.opened.own-cells, c.requires.cells-own c.requires.tables-open.opened.plan c.requires.tables-open.opened.decodes)

pub choose-requires : goal.choose-requires
choose-requires c =
    c.fill_tables-left.ensures

pub returns : goal.returns
returns c =
    chooses-whole c.requires.tables-open.opened _ (omega arith) c.requires.tables-open.cells_fit _ _ c.own_masks-own.ensures c.requires.cells-own _ _ c.choose.ensures
