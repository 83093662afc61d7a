use Rattle.cells_row.proofs.Steps.{filled_row}
use Rattle.cells_row.proofs.fill_row.Goals as goal

pub returns : goal.returns
returns c =
    filled_row _ _ _ _ c.requires (c.fill.ensures.after (λ y h. h))
