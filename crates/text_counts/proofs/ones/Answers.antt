use Rattle.std.proofs.Common.{arith}
use Rattle.text_counts.proofs.Counting.{both-held, alike}
use Rattle.text_counts.proofs.ones.Goals as goal

pub returns : goal.returns
returns c =
    let one = alike c.args.limit 1 _ _ c.same-one.ensures (omega (arith, c.min.ensures)) in both-held _ _ _ one one
