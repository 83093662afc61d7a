use Rattle.text_counts.proofs.Counting.{counts-cells}
use Rattle.text_counts.proofs.cell_count.Goals as goal

pub returns : goal.returns
returns c =
    counts-cells _ _ _ _ _ c.part_totals.ensures c.capped.ensures
