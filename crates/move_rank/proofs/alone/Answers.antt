use borrow.Author.Rules.{rules}
use Rattle.move_rank.specs.inner.Ranking.{choice_of}
use Rattle.move_rank.proofs.alone.Goals as goal

pub returns : goal.returns
unfolding choice_of
returns c = search rules
