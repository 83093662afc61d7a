use Rattle.std.proofs.Common.{refl}
use Rattle.std.proofs.Common.{arith}
use Rattle.cells_share.proofs.Listing.{onward-first, entry-low, share-ready, onward-next, onward-last}
use Rattle.cells_share.proofs.list_shares.Goals as goal

pub loop-j-init : goal.loop-j-init
loop-j-init c =
    onward-first _ _ _ _ _ _ _ _ _ _ _ c.requires

pub entry_node-requires : goal.entry_node-requires
entry_node-requires c =
    entry-low _ _ _ _ _ _ _ _ _ _ _ _ _ c.loop-j.invariant (omega (arith, c.loop-j-test.true))

pub entry_depth-requires : goal.entry_depth-requires
entry_depth-requires c =
    entry-low _ _ _ _ _ _ _ _ _ _ _ _ _ c.loop-j.invariant (omega (arith, c.loop-j-test.true))

pub share_of-more-requires : goal.share_of-more-requires
share_of-more-requires c =
    share-ready _ _ _ _ _ _ _ _ _ _ _ _ _ c.loop-j.invariant (omega (arith, c.loop-j-test.true)) _ _ _ c.entry_node.ensures c.entry_depth.ensures c.first_word-word.ensures

pub loop-j-preserved : goal.loop-j-preserved
loop-j-preserved c =
    onward-next _ _ _ _ _ _ _ _ _ _ _ _ _ c.loop-j.invariant (omega (arith, c.loop-j-test.true)) _ _ _ _ _ c.entry_node.ensures c.entry_depth.ensures c.first_word-word.ensures c.share_of-more.ensures refl

pub returns : goal.returns
returns c =
    onward-last _ _ _ _ _ _ _ _ _ _ _ _ _ c.loop-j.invariant c.loop-j-test.false
