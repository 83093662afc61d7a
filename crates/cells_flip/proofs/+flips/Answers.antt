use mathlib.Core.Path.{sym, ◌∙◌}
use Prim.Native.Nat.{◌-◌}
use native.Mathlib.Omega.{arith}
use borrow.Author.Tests.{not-true, not-false}
use Rattle.cells_flip.proofs.Flipping.{node-low, place-low, from_low, old-room, record-room, count_low, again, literal-ready, trees-ready, gives-kept, gives-literal, gives-joint, joins-kept, joins-row, tree-ready, onward-first, onward-next, onward-last, onward-done}
use Rattle.cells_flip.proofs.+flips.Goals as goal

pub flip_row-place_at-requires : goal.flip_row-place_at-requires
flip_row-place_at-requires t c =
    place-low _ _ _ _ _ _ _ _ _ _ _ _ _ c.requires

pub flip_row-cells_from-old-requires : goal.flip_row-cells_from-old-requires
flip_row-cells_from-old-requires t c =
    from_low _ _ _ _ _ _ _ _ _ _ _ _ _ c.requires _ c.place_at.ensures

pub flip_row-uses_at-requires : goal.flip_row-uses_at-requires
flip_row-uses_at-requires t c =
    node-low _ _ _ _ _ _ _ _ _ _ _ _ _ c.requires

pub flip_row-copy_row-requires : goal.flip_row-copy_row-requires
flip_row-copy_row-requires t c =
    (old-room _ _ _ _ _ _ _ _ _ _ _ _ _ c.requires _ _ c.place_at.ensures c.cells_from-old.ensures, c.requires.room)

pub flip_row-returns-then-not-meet : goal.flip_row-returns-then-not-meet
flip_row-returns-then-not-meet t c =
    gives-kept _ _ _ _ _ _ _ _ _ _ _ _ _ _ c.uses_at.ensures _ _ _ _ c.place_at.ensures c.cells_from-old.ensures (sym c.meet.ensures ∙ not-true _ c.if-not-meet.true-raw) c.copy_row.ensures

pub flip_row-kind_at-kind-requires : goal.flip_row-kind_at-kind-requires
flip_row-kind_at-kind-requires t c =
    record-room _ _ _ _ _ _ _ _ _ _ _ _ _ c.requires

pub flip_row-literal_row-requires : goal.flip_row-literal_row-requires
flip_row-literal_row-requires t c =
    literal-ready _ _ _ _ _ _ _ _ _ _ _ _ _ c.requires _ _ _ c.kind_at-kind.ensures c.if-kind-ge5.true c.uses_at.ensures (sym c.meet.ensures ∙ not-false _ c.if-not-meet.false-raw)

pub flip_row-returns-then-kind-ge5 : goal.flip_row-returns-then-kind-ge5
flip_row-returns-then-kind-ge5 t c =
    gives-literal _ _ _ _ _ _ _ _ _ _ _ _ _ _ c.uses_at.ensures (sym c.meet.ensures ∙ not-false _ c.if-not-meet.false-raw) _ c.kind_at-kind.ensures _ c.if-kind-ge5.true c.literal_row.ensures

pub flip_row-begin_row-requires : goal.flip_row-begin_row-requires
flip_row-begin_row-requires t c =
    (old-room _ _ _ _ _ _ _ _ _ _ _ _ _ c.requires _ _ c.place_at.ensures c.cells_from-old.ensures, c.requires.room)

pub flip_row-overflow_add-i : goal.flip_row-overflow_add-i
flip_row-overflow_add-i t c =
    let l = node-low _ _ _ _ _ _ _ _ _ _ _ _ _ c.requires in omega arith

pub flip_row-end_at-requires : goal.flip_row-end_at-requires
flip_row-end_at-requires t c =
    node-low _ _ _ _ _ _ _ _ _ _ _ _ _ c.requires

pub flip_row-flip_trees-requires : goal.flip_row-flip_trees-requires
flip_row-flip_trees-requires t c =
    (omega (arith, c.decreases, node-low _ _ _ _ _ _ _ _ _ _ _ _ _ c.requires), trees-ready _ _ _ _ _ _ _ _ _ _ _ _ _ c.requires _ _ _ _ _ c.end_at.ensures c.place_at.ensures c.cells_from-old.ensures omega (arith, c.begin_row.auto.out, c.requires.room) c.begin_row.ensures)

pub flip_row-returns : goal.flip_row-returns
flip_row-returns t c =
    gives-joint _ _ _ _ _ _ _ _ _ _ _ _ _ _ c.uses_at.ensures (sym c.meet.ensures ∙ not-false _ c.if-not-meet.false-raw) _ c.kind_at-kind.ensures _ _ _ _ _ _ _ c.if-kind-ge5.false c.end_at.ensures c.adds_of-add.ensures c.place_at.ensures c.cells_from-old.ensures c.begin_row.ensures c.flip_trees.ensures

pub flip_tree-place_at-requires : goal.flip_tree-place_at-requires
flip_tree-place_at-requires t c =
    place-low _ _ _ _ _ _ _ _ _ _ _ _ _ c.requires.begins

pub flip_tree-cells_from-old-requires : goal.flip_tree-cells_from-old-requires
flip_tree-cells_from-old-requires t c =
    from_low _ _ _ _ _ _ _ _ _ _ _ _ _ c.requires.begins _ c.place_at.ensures

pub flip_tree-uses_at-requires : goal.flip_tree-uses_at-requires
flip_tree-uses_at-requires t c =
    node-low _ _ _ _ _ _ _ _ _ _ _ _ _ c.requires.begins

pub flip_tree-keep_row-requires : goal.flip_tree-keep_row-requires
flip_tree-keep_row-requires t c =
    (old-room _ _ _ _ _ _ _ _ _ _ _ _ _ c.requires.begins _ _ c.place_at.ensures c.cells_from-old.ensures, c.requires.begins.room)

pub flip_tree-returns-then-not-meet : goal.flip_tree-returns-then-not-meet
flip_tree-returns-then-not-meet t c =
    joins-kept _ _ _ _ _ _ _ _ _ _ _ _ _ _ _ _ _ _ c.place_at.ensures c.cells_from-old.ensures c.requires _ c.uses_at.ensures (sym c.meet.ensures ∙ not-true _ c.if-not-meet.true-raw) c.keep_row.ensures

pub flip_tree-flip_row-requires : goal.flip_tree-flip_row-requires
flip_tree-flip_row-requires t c =
    (omega (arith, c.decreases), again _ _ _ _ _ _ _ _ _ _ _ _ _ c.requires.begins _ (count_low _ _ _ _ _ _ _ _ _ _ _ _ _ c.requires.begins))

pub flip_tree-join_row-requires : goal.flip_tree-join_row-requires
flip_tree-join_row-requires t c =
    (omega (arith, c.flip_row.auto.out, count_low _ _ _ _ _ _ _ _ _ _ _ _ _ c.requires.begins), old-room _ _ _ _ _ _ _ _ _ _ _ _ _ c.requires.begins _ _ c.place_at.ensures c.cells_from-old.ensures, c.requires.begins.room)

pub flip_tree-returns : goal.flip_tree-returns
flip_tree-returns t c =
    joins-row _ _ _ _ _ _ _ _ _ _ _ _ _ _ _ _ _ _ c.place_at.ensures c.cells_from-old.ensures c.requires _ c.flip_row.ensures c.join_row.ensures

pub flip_trees-loop-j-init : goal.flip_trees-loop-j-init
flip_trees-loop-j-init t c =
    onward-first _ _ _ _ _ _ _ _ _ _ _ _ _ _ _ _ c.requires

pub flip_trees-is_done-requires : goal.flip_trees-is_done-requires
flip_trees-is_done-requires t c =
    (c.loop-j.invariant.ready.0.visit.line.some, c.loop-j.invariant.ready.0.room)

pub flip_trees-shape_of-out-then-is_done : goal.flip_trees-shape_of-out-then-is_done
flip_trees-shape_of-out-then-is_done t c =
    c.loop-j.invariant.ready.1

pub flip_trees-returns-then-is_done : goal.flip_trees-returns-then-is_done
flip_trees-returns-then-is_done t c =
    onward-done _ _ _ _ _ _ _ _ _ _ _ _ _ _ _ _ _ _ c.loop-j.invariant (c.is_done.ensures c.if-is_done.true)

pub flip_trees-flip_tree-requires : goal.flip_trees-flip_tree-requires
flip_trees-flip_tree-requires t c =
    (omega (arith, c.decreases, c.loop-j.invariant.late), (tree-ready _ _ _ _ _ _ _ _ _ _ _ _ _ _ c.loop-j.invariant.ready.0 c.loop-j-test.true))

pub flip_trees-end_at-j-requires : goal.flip_trees-end_at-j-requires
flip_trees-end_at-j-requires t c =
    node-low _ _ _ _ _ _ _ _ _ _ _ _ _ (tree-ready _ _ _ _ _ _ _ _ _ _ _ _ _ _ c.loop-j.invariant.ready.0 c.loop-j-test.true).begins

pub flip_trees-loop-j-smaller : goal.flip_trees-loop-j-smaller
flip_trees-loop-j-smaller t c =
    let n = onward-next _ _ _ _ _ _ _ _ _ _ _ _ _ _ _ _ _ _ c.loop-j-test.true c.end_at-j.ensures c.flip_tree.ensures _ _ c.loop-j.invariant c.flip_tree.auto.out in omega (arith, n.0, c.loop-j-test.true)

pub flip_trees-loop-j-preserved : goal.flip_trees-loop-j-preserved
flip_trees-loop-j-preserved t c =
    (onward-next _ _ _ _ _ _ _ _ _ _ _ _ _ _ _ _ _ _ c.loop-j-test.true c.end_at-j.ensures c.flip_tree.ensures _ _ c.loop-j.invariant c.flip_tree.auto.out).1

pub flip_trees-shape_of-out : goal.flip_trees-shape_of-out
flip_trees-shape_of-out t c =
    c.loop-j.invariant.ready.1

pub flip_trees-returns : goal.flip_trees-returns
flip_trees-returns t c =
    onward-last _ _ _ _ _ _ _ _ _ _ _ _ _ _ _ _ _ _ c.loop-j.invariant c.loop-j-test.false
