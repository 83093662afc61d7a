use Rattle.text_counts.proofs.Counting.{quantified}
use Rattle.text_counts.proofs.quantified.Goals as goal

pub returns : goal.returns
returns c =
    quantified _ _ _ _ _ _ _ c.same.ensures c.same-2.ensures c.scaled.ensures c.scaled-2.ensures
