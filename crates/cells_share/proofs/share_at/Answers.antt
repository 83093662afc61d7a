use Rattle.cells_visit.proofs.Walking.{node-low, cell_room}
use Rattle.cells_share.proofs.Sharing.{zero-ready, cell-ready, gives-zero, gives-cell}
use Rattle.cells_share.proofs.share_at.Goals as goal

pub zero_below-requires : goal.zero_below-requires
zero_below-requires c =
    zero-ready _ _ _ _ _ _ _ _ _ _ _ _ _ _ c.requires

pub cell_at-requires : goal.cell_at-requires
cell_at-requires c =
    (node-low _ _ _ _ _ _ _ _ _ _ _ _ _ _ (cell-ready _ _ _ _ _ _ _ _ _ _ _ _ _ _ c.requires), cell_room _ _ _ _ _ _ _ _ _ _ _ _ _ _ (cell-ready _ _ _ _ _ _ _ _ _ _ _ _ _ _ c.requires))

pub returns-then-zero_below : goal.returns-then-zero_below
returns-then-zero_below c =
    gives-zero _ _ _ _ _ _ _ _ _ _ _ _ _ _ c.requires.touched _ _ _ c.zero_below.ensures c.if-zero_below.true c.cell_at.ensures c.with_difference.ensures

pub cell_after-after-requires : goal.cell_after-after-requires
cell_after-after-requires c =
    cell-ready _ _ _ _ _ _ _ _ _ _ _ _ _ _ c.requires

pub returns : goal.returns
returns c =
    gives-cell _ _ _ _ _ _ _ _ _ _ _ _ _ _ c.requires.touched _ _ c.cell_after-after.ensures c.with_difference-2.ensures
