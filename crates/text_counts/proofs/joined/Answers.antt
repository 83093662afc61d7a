use Rattle.text_counts.proofs.Counting.{both-joined}
use Rattle.text_counts.proofs.joined.Goals as goal

pub returns : goal.returns
returns c =
    both-joined _ _ _ _ _ c.join_total.ensures c.join_total-2.ensures
