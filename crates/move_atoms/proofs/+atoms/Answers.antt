use mathlib.Core.Path.{sym, ap, ◌∙◌}
use native.Mathlib.Omega.{arith}
use Prim.Native.Nat.{◌-◌}
use borrow.Author.Rules.{rules}
use Rattle.move_tables.specs.inner.Taking.{is_sum}
use Rattle.move_atoms.proofs.Forests.{sum-tree, tree-asked, below-asked, atom-asked, here-low, here-deep, here-kind, onward-first, onward-less, onward-next, onward-last, onward-low}
use Rattle.move_atoms.proofs.+atoms.Goals as goal

pub take_atoms-loop-j-init : goal.take_atoms-loop-j-init
take_atoms-loop-j-init t c =
    onward-first c.requires

pub take_atoms-take_tree-found-requires : goal.take_atoms-take_tree-found-requires
take_atoms-take_tree-found-requires t c =
    (omega (arith, c.decreases, c.loop-j.invariant.late), tree-asked c.loop-j.invariant.ready c.loop-j-test.true)

pub take_atoms-end_at-j-requires : goal.take_atoms-end_at-j-requires
take_atoms-end_at-j-requires t c =
    onward-low c.loop-j.invariant c.loop-j-test.true

pub take_atoms-loop-j-smaller : goal.take_atoms-loop-j-smaller
take_atoms-loop-j-smaller t c =
    omega (arith, onward-less c.loop-j.invariant _ c.loop-j-test.true c.end_at-j.ensures, c.loop-j-test.true)

pub take_atoms-loop-j-preserved : goal.take_atoms-loop-j-preserved
take_atoms-loop-j-preserved t c =
    onward-next c.loop-j.invariant c.loop-j-test.true c.end_at-j.ensures (search rules) (search rules) (search rules) (search rules) (search rules) (search rules) c.take_tree-found.ensures

pub take_atoms-shape_of-mine : goal.take_atoms-shape_of-mine
take_atoms-shape_of-mine t c =
    c.loop-j.invariant.ready.room.mine-long ∙ sym c.requires.room.mine-long

pub take_atoms-shape_of-own : goal.take_atoms-shape_of-own
take_atoms-shape_of-own t c =
    c.loop-j.invariant.ready.room.own-long ∙ sym c.requires.room.own-long

pub take_atoms-shape_of-one : goal.take_atoms-shape_of-one
take_atoms-shape_of-one t c =
    c.loop-j.invariant.ready.room.one-long ∙ sym c.requires.room.one-long

pub take_atoms-shape_of-still : goal.take_atoms-shape_of-still
take_atoms-shape_of-still t c =
    c.loop-j.invariant.ready.room.still-long ∙ sym c.requires.room.still-long

pub take_atoms-shape_of-joint : goal.take_atoms-shape_of-joint
take_atoms-shape_of-joint t c =
    c.loop-j.invariant.ready.room.joint-long ∙ sym c.requires.room.joint-long

pub take_atoms-shape_of-lists : goal.take_atoms-shape_of-lists
take_atoms-shape_of-lists t c =
    c.loop-j.invariant.ready.room.lists-long ∙ sym c.requires.room.lists-long

pub take_atoms-returns : goal.take_atoms-returns
take_atoms-returns t c =
    onward-last c.loop-j.invariant c.loop-j-test.false

pub take_tree-kind_at-kind-requires : goal.take_tree-kind_at-kind-requires
take_tree-kind_at-kind-requires t c =
    here-kind c.requires

pub take_tree-overflow_add-i : goal.take_tree-overflow_add-i
take_tree-overflow_add-i t c =
    omega (arith, here-low c.requires)

pub take_tree-end_at-requires : goal.take_tree-end_at-requires
take_tree-end_at-requires t c =
    here-low c.requires

pub take_tree-depth_below-requires : goal.take_tree-depth_below-requires
take_tree-depth_below-requires t c =
    here-deep c.requires

pub take_tree-take_atoms-requires : goal.take_tree-take_atoms-requires
take_tree-take_atoms-requires t c =
    (omega (arith, c.decreases, here-low c.requires), below-asked c.requires _ _ _ c.kind_at-kind.ensures (sym c.is_sum.ensures ∙ c.if-is_sum.true) c.end_at.ensures c.depth_below.ensures)

pub take_tree-returns-then-is_sum : goal.take_tree-returns-then-is_sum
take_tree-returns-then-is_sum t c =
    sum-tree _ _ _ _ _ _ _ _ _ _ _ _ _ _ _ _ _ _ _ _ _ _ _ _ _ c.kind_at-kind.ensures (sym c.is_sum.ensures ∙ c.if-is_sum.true) c.end_at.ensures c.depth_below.ensures c.take_atoms.ensures

pub take_tree-take_atom-requires : goal.take_tree-take_atom-requires
take_tree-take_atom-requires t c =
    atom-asked c.requires (ap is_sum (sym c.kind_at-kind.ensures) ∙ sym c.is_sum.ensures ∙ c.if-is_sum.false)

pub take_tree-returns : goal.take_tree-returns
take_tree-returns t c =
    c.take_atom.ensures
