use Rattle.move_root.proofs.Both.{crossed-ready, both-swap, both-other, both-nothing}
use Rattle.move_root.proofs.both_read.Goals as goal

pub returns-then-m-ne4 : goal.returns-then-m-ne4
returns-then-m-ne4 c =
    both-other c.requires c.if-m-ne4.true

pub returns-then-count-eq0 : goal.returns-then-count-eq0
returns-then-count-eq0 c =
    both-nothing c.requires c.if-count-eq0.true

pub crossed_shares-requires : goal.crossed_shares-requires
crossed_shares-requires c =
    crossed-ready c.requires c.if-m-ne4.false

pub returns : goal.returns
returns c =
    both-swap c.requires _ c.if-m-ne4.false c.crossed_shares.ensures
