use Rattle.std.proofs.Common.{◌≡◌, suc, ◌-◌, sym, arith}
use Rattle.cells_tuples.proofs.Cell.{cell-ready, cell-within, cell-gives}
use Rattle.cells_tuples.proofs.Depths.{ready_at, gives_at}
use Rattle.cells_tuples.proofs.all_ports.Goals as goal

pub flip_row-requires : goal.flip_row-requires
flip_row-requires c =
    cell-ready _ _ _ _ _ _ _ _ _ _ _ _ _ (ready_at _ _ _ _ _ _ _ _ _ _ _ _ _ c.if-depth-eq0.true _ c.requires) (omega arith)

pub cell_at-requires : goal.cell_at-requires
cell_at-requires c =
    cell-within _ _ _ _ _ _ _ _ _ _ _ _ (ready_at _ _ _ _ _ _ _ _ _ _ _ _ _ c.if-depth-eq0.true _ c.requires)

pub returns-then-depth-eq0 : goal.returns-then-depth-eq0
returns-then-depth-eq0 c =
    gives_at _ _ _ _ _ _ _ _ _ _ _ _ _ (sym c.if-depth-eq0.true) _ _ _ (cell-gives _ _ _ _ _ _ _ _ _ _ _ _ _ _ _ _ c.flip_row.ensures c.first_cell.ensures (λ x. omega (arith, c.slice_known-1.given x)) c.cell_at.ensures c.with_difference.ensures)

pub all_rows-requires : goal.all_rows-requires
all_rows-requires c =
    ready_at _ _ _ _ _ _ _ _ _ _ _ _ _ (let e : c.args.depth ≡ suc (c.args.depth - 1) = omega arith in e) _ c.requires

pub returns : goal.returns
returns c =
    gives_at _ _ _ _ _ _ _ _ _ _ _ _ _ (let e : suc (c.args.depth - 1) ≡ c.args.depth = omega arith in e) _ _ _ c.all_rows.ensures
