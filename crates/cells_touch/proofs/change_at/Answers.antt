use native.Mathlib.Nat.{min-eq_left, max-eq_right, min-eq_right, max-eq_left, le_of_lt}
use Rattle.cells_touch.specs.inner.Hits.{change_at}
use Rattle.cells_touch.proofs.change_at.Goals as goal

pub returns-then-p-q : goal.returns-then-p-q
unfolding change_at
returns-then-p-q c =
    rw (min-eq_left c.if-p-q.true, max-eq_right c.if-p-q.true) cc

pub returns : goal.returns
unfolding change_at
returns c =
    rw (min-eq_right (le_of_lt c.if-p-q.false), max-eq_left (le_of_lt c.if-p-q.false)) cc
