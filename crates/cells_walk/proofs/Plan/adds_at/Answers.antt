use Rattle.cells_walk.proofs.Plan.adds_at.Goals as goal

pub returns : goal.returns
returns c =
    cc
