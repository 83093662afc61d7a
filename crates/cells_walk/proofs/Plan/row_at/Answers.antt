use Rattle.cells_walk.proofs.Plan.row_at.Goals as goal

pub returns : goal.returns
returns c =
    cc
