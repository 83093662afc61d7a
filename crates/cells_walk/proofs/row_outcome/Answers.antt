use Rattle.cells_walk.proofs.row_outcome.Goals as goal

pub returns : goal.returns
returns c =
    (c.outcome.ensures.0, cc, cc)
