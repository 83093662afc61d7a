use Rattle.move_order.specs.inner.Stepping.{outset}
use Rattle.move_rank.specs.inner.Ranking.{choice_of}
use Rattle.move_rank.proofs.none_yet.Goals as goal

pub returns : goal.returns
unfolding choice_of outset
returns c = rw c.no_move.ensures
