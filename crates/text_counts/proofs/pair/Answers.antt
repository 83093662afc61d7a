use Rattle.text_counts.proofs.Counting.{pair-and, pair_or}
use Rattle.text_counts.proofs.pair.Goals as goal

pub returns-then-j : goal.returns-then-j
returns-then-j c =
    rw (c.if-j.true, c.same.ensures) (pair-and _ _ _ _ _ c.capped.ensures c.capped-and.ensures)

pub returns-else-j : goal.returns-else-j
returns-else-j c =
    rw (c.if-j.false, c.same-else-j.ensures) (pair_or _ _ _ _ _ c.capped-else-j.ensures c.capped-or.ensures)
