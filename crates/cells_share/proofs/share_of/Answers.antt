use borrow.Author.Tests.{not-true}
use Rattle.cells_share.proofs.Sharing.{node-low, gives_none}
use Rattle.cells_share.proofs.share_of.Goals as goal

pub touched_at-requires : goal.touched_at-requires
touched_at-requires c =
    node-low _ _ _ _ _ _ _ _ _ _ _ _ _ _ _ c.requires

pub returns-then-not-touched_at : goal.returns-then-not-touched_at
returns-then-not-touched_at c =
    gives_none _ _ _ _ _ _ _ _ _ _ _ _ _ _ _ _ c.touched_at.ensures (not-true _ c.if-not-touched_at.true-raw)

pub share_over-requires : goal.share_over-requires
share_over-requires c =
    c.requires

pub returns : goal.returns
returns c =
    c.share_over.ensures
