use Rattle.std.proofs.Common.{refl}
use Rattle.std.proofs.Common.{arith}
use Rattle.move_crossed.proofs.Listing.{set-low, size-after, onward-first, entry-low, share-asked, onward-next, onward-last}
use Rattle.move_crossed.proofs.crossed_shares.Goals as goal

pub set_size-before-requires : goal.set_size-before-requires
set_size-before-requires c =
    (omega (arith, (set-low _ _ _ _ _ _ _ _ _ _ _ c.requires).0, c.wide-s.ensures.0), (set-low _ _ _ _ _ _ _ _ _ _ _ c.requires).1)

pub mask_at-requires : goal.mask_at-requires
mask_at-requires c =
    (set-low _ _ _ _ _ _ _ _ _ _ _ c.requires).1

pub size_after-size-requires : goal.size_after-size-requires
size_after-size-requires c =
    (c.set_size-before.ensures.1, (set-low _ _ _ _ _ _ _ _ _ _ _ c.requires).3, (set-low _ _ _ _ _ _ _ _ _ _ _ c.requires).4)

pub one_size-sizes-requires : goal.one_size-sizes-requires
one_size-sizes-requires c =
    (omega (arith, (set-low _ _ _ _ _ _ _ _ _ _ _ c.requires).2, c.wide-s.ensures.0), omega (arith, c.set_size-before.ensures.1, c.size_after-size.ensures.1))

pub loop-j-init : goal.loop-j-init
loop-j-init c =
    onward-first _ _ _ _ _ _ _ _ _ _ _ _ c.requires (size-after _ _ _ _ _ _ _ _ _ _ _ _ _ _ _ c.wide-s.ensures.0 c.set_size-before.ensures.0 c.mask_at.ensures c.size_after-size.ensures.0 c.one_size-sizes.ensures)

pub entry_node-requires : goal.entry_node-requires
entry_node-requires c =
    entry-low _ _ _ _ _ _ _ _ _ _ _ _ _ _ c.loop-j.invariant (omega (arith, c.loop-j-test.true))

pub entry_depth-requires : goal.entry_depth-requires
entry_depth-requires c =
    entry-low _ _ _ _ _ _ _ _ _ _ _ _ _ _ c.loop-j.invariant (omega (arith, c.loop-j-test.true))

pub crossed_share-more-requires : goal.crossed_share-more-requires
crossed_share-more-requires c =
    share-asked _ _ _ _ _ _ _ _ _ _ _ _ _ _ c.loop-j.invariant (omega (arith, c.loop-j-test.true)) _ _ c.entry_node.ensures c.entry_depth.ensures

pub loop-j-preserved : goal.loop-j-preserved
loop-j-preserved c =
    onward-next _ _ _ _ _ _ _ _ _ _ _ _ _ _ c.loop-j.invariant (omega (arith, c.loop-j-test.true)) _ _ _ _ c.entry_node.ensures c.entry_depth.ensures c.crossed_share-more.ensures refl

pub returns : goal.returns
returns c =
    onward-last _ _ _ _ _ _ _ _ _ _ _ _ _ _ c.loop-j.invariant (omega (arith, c.loop-j-test.false))
