use borrow.Author.Tests.{lt-ltb, le-ltb}
use Rattle.call_node.specs.inner.Bounds.{bound_at}
use Rattle.call_node.proofs.bound_of.Goals as goal

pub returns-then-i-nodes : goal.returns-then-i-nodes
unfolding bound_at
returns-then-i-nodes c =
    rw (lt-ltb _ _ c.if-i-nodes.true) c.wide.ensures.0

pub returns-else-i-nodes : goal.returns-else-i-nodes
unfolding bound_at
returns-else-i-nodes c =
    rw (le-ltb _ _ c.if-i-nodes.false)
