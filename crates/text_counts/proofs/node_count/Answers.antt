use Rattle.text_counts.proofs.Counting.{counts-nodes}
use Rattle.text_counts.proofs.node_count.Goals as goal

pub returns : goal.returns
returns c =
    counts-nodes _ _ _ _ c.part_totals.ensures c.capped.ensures
