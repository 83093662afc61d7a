use Rattle.std.proofs.Common.{arith}
use Rattle.text_counts.proofs.Counting.{scaled-is}
use Rattle.text_counts.proofs.scaled.Goals as goal

pub returns : goal.returns
returns c =
    scaled-is _ _ _ _ _ c.requires.low (omega arith) (omega (arith, c.saturating_mul.ensures)) c.capped.ensures
