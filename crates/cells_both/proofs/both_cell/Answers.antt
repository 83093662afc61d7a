use Rattle.cells_both.proofs.Decided.{zero-ready}
use Rattle.cells_both.proofs.Tuples.{cell-ready, cell-gives}
use Rattle.cells_both.proofs.both_cell.Goals as goal

pub zero_below-decided-requires : goal.zero_below-decided-requires
zero_below-decided-requires c =
    zero-ready _ _ _ _ _ _ _ _ _ _ _ (cell-ready _ _ _ _ _ _ _ _ _ _ _ _ _ _ _ _ _ _ c.requires)

pub one_cell-both-requires : goal.one_cell-both-requires
one_cell-both-requires c =
    cell-ready _ _ _ _ _ _ _ _ _ _ _ _ _ _ _ _ _ _ c.requires

pub one_cell-at_p-requires : goal.one_cell-at_p-requires
one_cell-at_p-requires c =
    cell-ready _ _ _ _ _ _ _ _ _ _ _ _ _ _ _ _ _ _ c.requires

pub one_cell-at_q-requires : goal.one_cell-at_q-requires
one_cell-at_q-requires c =
    cell-ready _ _ _ _ _ _ _ _ _ _ _ _ _ _ _ _ _ _ c.requires

pub one_cell-alone-requires : goal.one_cell-alone-requires
one_cell-alone-requires c =
    cell-ready _ _ _ _ _ _ _ _ _ _ _ _ _ _ _ _ _ _ c.requires

pub returns : goal.returns
returns c =
    cell-gives _ _ _ _ _ _ _ _ _ _ _ _ _ _ _ _ _ _ _ _ _ _ _ _ c.one_cell-both.ensures c.one_cell-at_p.ensures c.one_cell-at_q.ensures c.one_cell-alone.ensures c.with_difference.ensures c.with_difference-2.ensures
