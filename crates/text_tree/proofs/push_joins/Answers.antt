use native.Mathlib.Omega.{arith}
use Rattle.text_tree.proofs.Links.{writing_start, one_room, writing-on, written}
use Rattle.text_tree.proofs.push_joins.Goals as goal

pub loop-link-init : goal.loop-link-init
loop-link-init c =
    writing_start _ _ _ _ _ c.requires

pub loop-link-smaller : goal.loop-link-smaller
loop-link-smaller c =
    omega (arith, c.from-link.ensures, one_room _ _ _ _ _ _ _ _ c.requires c.loop-link.invariant c.loop-link-test.true)

pub loop-link-preserved : goal.loop-link-preserved
loop-link-preserved c =
    writing-on _ _ _ _ _ _ _ _ c.requires c.loop-link.invariant c.loop-link-test.true _ c.push.ensures _ c.from-link.ensures

pub shape_of-out : goal.shape_of-out
shape_of-out c =
    (c.loop-link.invariant c.requires.parts c.requires.linked).long

pub returns : goal.returns
returns c =
    written _ _ _ _ _ _ _ _ c.loop-link.invariant c.loop-link-test.false
