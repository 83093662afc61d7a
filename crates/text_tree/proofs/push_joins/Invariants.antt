use Rattle.text_tree.proofs.Links.{Writing}
use Rattle.text_tree.proofs.push_joins.Given as goal

abbrev pub invariant-loop-link : goal.invariant-loop-link
invariant-loop-link l = Writing l.initial.out l.out l.n l.last l.e l.operator l.link l.end

abbrev pub decreases-loop-link : goal.decreases-loop-link
decreases-loop-link l = l.link
