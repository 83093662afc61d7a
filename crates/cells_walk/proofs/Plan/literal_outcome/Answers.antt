use Rattle.cells_walk.proofs.Outcomes.{literal-outcome}
use Rattle.cells_walk.proofs.Plan.literal_outcome.Goals as goal

pub returns : goal.returns
returns c =
    literal-outcome _ _ _ _ _ _ _ _ _ _ c.literal_at-value.ensures c.outcome.ensures
