use Rattle.std.proofs.Common.{arith}
use Rattle.text_write.proofs.Forming.{only-few, open-put}
use Rattle.text_write.proofs.open_node.Goals as goal

pub put_own-requires : goal.put_own-requires
put_own-requires c =
    (omega (arith, c.requires.room, c.put_if-own.ensures.end_is, only-few c.args.bracket 40), omega arith, omega arith, c.requires.depth3)

pub returns : goal.returns
returns c =
    open-put _ _ _ _ _ _ _ _ _ _ _ _ _ c.kind_of.ensures c.relation_of.ensures c.a_of.ensures c.b_of.ensures c.put_if-own.ensures c.put_own.ensures
