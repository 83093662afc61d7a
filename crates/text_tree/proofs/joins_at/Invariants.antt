use Rattle.text_tree.proofs.Joins.{JoinsMet}
use Rattle.text_tree.proofs.joins_at.Given as goal

abbrev pub invariant-loop-n : goal.invariant-loop-n
invariant-loop-n l = JoinsMet l.t l.e l.n l.at

abbrev pub decreases-loop-n : goal.decreases-loop-n
decreases-loop-n l = l.at
