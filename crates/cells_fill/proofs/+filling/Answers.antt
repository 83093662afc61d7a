use mathlib.Core.Path.{refl}
use Prim.Native.Nat.{◌+◌}
use native.Mathlib.Omega.{arith}
use lib.ListN.{length}
use Rattle.logic.proofs.Lent.{back-length, back-to-length}
use Rattle.table_format.specs.Bytes.{record_length, kind_field, relation_field, a_field, b_field, end_field}
use Rattle.table_format.proofs.Parts.{length-rest-all}
use Rattle.cells_fill.proofs.Trees.{tree-facts, fill-literal, fill-inner}
use Rattle.cells_fill.proofs.Filling.{passed_none, passed-all, passed-tree, placed_on, tree-long, tree-ahead, join-placed, held-placed, held-lows}
use Rattle.cells_fill.proofs.+filling.Goals as goal

pub fill_children-loop-place-init : goal.fill_children-loop-place-init
fill_children-loop-place-init t c =
    passed_none _ _ _ _ _ _ _ _ _ _ c.requires c.begin_join-join.result c.begin_join-join.ensures

pub fill_children-slice_bounds-tree-count : goal.fill_children-slice_bounds-tree-count
fill_children-slice_bounds-tree-count t c =
    c.loop-place.invariant.within

pub fill_children-slice_bounds-tree-start : goal.fill_children-slice_bounds-tree-start
fill_children-slice_bounds-tree-start t c =
    omega (arith, c.loop-place.invariant.within)

pub fill_children-end_of-end-requires : goal.fill_children-end_of-end-requires
unfolding record_length
fill_children-end_of-end-requires t c =
    tree-long c.args.part.now c.args.i c.args.above c.args.ports c.args.sets c.args.depth c.args.width c.args.over c.args.masks.now c.args.cells.now c.loop-place.place c.loop-place.node c.loop-place.at c.loop-place.held c.loop-place.join c.loop-place.cells c.loop-place.invariant c.loop-place-test.true

pub fill_children-kind_of-requires : goal.fill_children-kind_of-requires
unfolding record_length
fill_children-kind_of-requires t c =
    tree-long c.args.part.now c.args.i c.args.above c.args.ports c.args.sets c.args.depth c.args.width c.args.over c.args.masks.now c.args.cells.now c.loop-place.place c.loop-place.node c.loop-place.at c.loop-place.held c.loop-place.join c.loop-place.cells c.loop-place.invariant c.loop-place-test.true

pub fill_children-fill_tree-n-requires : goal.fill_children-fill_tree-n-requires
fill_children-fill_tree-n-requires t c =
    let n = length-rest-all c.loop-place.place c.args.part.now in
    (omega (arith, n, c.decreases), (tree-long c.args.part.now c.args.i c.args.above c.args.ports c.args.sets c.args.depth c.args.width c.args.over c.args.masks.now c.args.cells.now c.loop-place.place c.loop-place.node c.loop-place.at c.loop-place.held c.loop-place.join c.loop-place.cells c.loop-place.invariant c.loop-place-test.true, placed_on c.args.part.now c.args.i c.args.above c.args.ports c.args.sets c.args.depth c.args.width c.args.over c.args.masks.now c.args.cells.now c.loop-place.place c.loop-place.node c.loop-place.at c.loop-place.held c.loop-place.join c.loop-place.cells c.loop-place.invariant))

pub fill_children-join_child-held-requires : goal.fill_children-join_child-held-requires
fill_children-join_child-held-requires t c =
    join-placed c.args.part.now c.args.i c.args.above c.args.ports c.args.sets c.args.depth c.args.width c.args.over c.args.masks.now c.args.cells.now c.loop-place.place c.loop-place.node c.loop-place.at c.loop-place.held c.loop-place.join c.loop-place.cells c.loop-place.invariant c.loop-place-test.true c.end_of-end.result c.end_of-end.ensures.is c.kind_of.result c.join_with-join.result c.kind_of.ensures c.join_with-join.ensures c.fill_tree-n.result c.fill_tree-n.new.cells c.fill_tree-n.ensures (omega (arith, c.fill_tree-n.auto.cells))

pub fill_children-overflow_sub-place : goal.fill_children-overflow_sub-place
unfolding record_length
fill_children-overflow_sub-place t c =
    let h = tree-ahead c.args.part.now c.args.i c.args.above c.args.ports c.args.sets c.args.depth c.args.width c.args.over c.args.masks.now c.args.cells.now c.loop-place.place c.loop-place.node c.loop-place.at c.loop-place.held c.loop-place.join c.loop-place.cells c.loop-place.invariant c.loop-place-test.true c.end_of-end.result c.end_of-end.ensures.is in omega (arith, h.0)

pub fill_children-overflow_mul-place : goal.fill_children-overflow_mul-place
unfolding record_length
fill_children-overflow_mul-place t c =
    let h = tree-ahead c.args.part.now c.args.i c.args.above c.args.ports c.args.sets c.args.depth c.args.width c.args.over c.args.masks.now c.args.cells.now c.loop-place.place c.loop-place.node c.loop-place.at c.loop-place.held c.loop-place.join c.loop-place.cells c.loop-place.invariant c.loop-place-test.true c.end_of-end.result c.end_of-end.ensures.is in omega (arith, h.1)

pub fill_children-overflow_add-place : goal.fill_children-overflow_add-place
unfolding record_length
fill_children-overflow_add-place t c =
    let h = tree-ahead c.args.part.now c.args.i c.args.above c.args.ports c.args.sets c.args.depth c.args.width c.args.over c.args.masks.now c.args.cells.now c.loop-place.place c.loop-place.node c.loop-place.at c.loop-place.held c.loop-place.join c.loop-place.cells c.loop-place.invariant c.loop-place-test.true c.end_of-end.result c.end_of-end.ensures.is in omega (arith, c.well_formed, c.ranges, h.3)

pub fill_children-overflow_add-at : goal.fill_children-overflow_add-at
unfolding record_length
fill_children-overflow_add-at t c =
    let h = passed-tree c.args.part.now c.args.i c.args.above c.args.ports c.args.sets c.args.depth c.args.width c.args.over c.args.masks.now c.args.cells.now c.loop-place.place c.loop-place.node c.loop-place.at c.loop-place.held c.loop-place.join c.loop-place.cells c.loop-place.invariant c.loop-place-test.true c.end_of-end.result c.end_of-end.ensures.is c.kind_of.result c.join_with-join.result c.kind_of.ensures c.join_with-join.ensures c.fill_tree-n.result c.fill_tree-n.new.cells c.fill_tree-n.ensures (omega (arith, c.fill_tree-n.auto.cells)) c.join_child-held.result c.join_child-held.new.cells c.join_child-held.ensures (omega (arith, c.join_child-held.auto.cells, c.fill_tree-n.auto.cells)) in omega (arith, c.well_formed, c.ranges, h.0)

pub fill_children-loop-place-smaller : goal.fill_children-loop-place-smaller
unfolding record_length
fill_children-loop-place-smaller t c =
    let h = tree-ahead c.args.part.now c.args.i c.args.above c.args.ports c.args.sets c.args.depth c.args.width c.args.over c.args.masks.now c.args.cells.now c.loop-place.place c.loop-place.node c.loop-place.at c.loop-place.held c.loop-place.join c.loop-place.cells c.loop-place.invariant c.loop-place-test.true c.end_of-end.result c.end_of-end.ensures.is in omega (arith, h.2, h.3)

pub fill_children-loop-place-preserved : goal.fill_children-loop-place-preserved
unfolding record_length
fill_children-loop-place-preserved t c =
    (passed-tree c.args.part.now c.args.i c.args.above c.args.ports c.args.sets c.args.depth c.args.width c.args.over c.args.masks.now c.args.cells.now c.loop-place.place c.loop-place.node c.loop-place.at c.loop-place.held c.loop-place.join c.loop-place.cells c.loop-place.invariant c.loop-place-test.true c.end_of-end.result c.end_of-end.ensures.is c.kind_of.result c.join_with-join.result c.kind_of.ensures c.join_with-join.ensures c.fill_tree-n.result c.fill_tree-n.new.cells c.fill_tree-n.ensures (omega (arith, c.fill_tree-n.auto.cells)) c.join_child-held.result c.join_child-held.new.cells c.join_child-held.ensures (omega (arith, c.join_child-held.auto.cells, c.fill_tree-n.auto.cells))).1

pub fill_children-join_held-requires : goal.fill_children-join_held-requires
fill_children-join_held-requires t c =
    (held-placed c.args.part.now c.args.i c.args.above c.args.ports c.args.sets c.args.depth c.args.width c.args.over c.args.masks.now c.args.cells.now c.loop-place.place c.loop-place.node c.loop-place.at c.loop-place.held c.loop-place.join c.loop-place.cells c.loop-place.invariant (length c.loop-place.cells) (omega (arith, c.loop-place.invariant.placed.trees.room)), held-lows c.args.part.now c.args.i c.args.above c.args.ports c.args.sets c.args.depth c.args.width c.args.over c.args.masks.now c.args.cells.now c.loop-place.place c.loop-place.node c.loop-place.at c.loop-place.held c.loop-place.join c.loop-place.cells c.loop-place.invariant)

pub fill_children-shape_of-cells : goal.fill_children-shape_of-cells
fill_children-shape_of-cells t c =
    omega (arith, c.join_held.auto.cells, c.loop-place.invariant.same_length)

pub fill_children-returns : goal.fill_children-returns
fill_children-returns t c =
    passed-all c.args.part.now c.args.i c.args.above c.args.ports c.args.sets c.args.depth c.args.width c.args.over c.args.masks.now c.args.cells.now c.loop-place.place c.loop-place.node c.loop-place.at c.loop-place.held c.loop-place.join c.loop-place.cells c.loop-place.invariant c.join_held.new.cells c.loop-place-test.false c.join_held.ensures

pub fill_tree-kind_of-kind-requires : goal.fill_tree-kind_of-kind-requires
unfolding record_length
fill_tree-kind_of-kind-requires t c =
    c.requires.0

pub fill_tree-relation_of-requires : goal.fill_tree-relation_of-requires
unfolding record_length
fill_tree-relation_of-requires t c =
    c.requires.0

pub fill_tree-a_of-requires : goal.fill_tree-a_of-requires
unfolding record_length
fill_tree-a_of-requires t c =
    c.requires.0

pub fill_tree-b_of-requires : goal.fill_tree-b_of-requires
unfolding record_length
fill_tree-b_of-requires t c =
    c.requires.0

pub fill_tree-overflow_add-at : goal.fill_tree-overflow_add-at
unfolding record_length
fill_tree-overflow_add-at t c =
    let f = tree-facts c.args.part.now c.args.i c.args.ports c.args.sets c.args.depth c.args.width c.args.at c.args.masks.now c.args.cells.now c.requires.0 c.requires.1 (end_field c.args.part.now) refl (kind_field c.args.part.now) (relation_field c.args.part.now) (a_field c.args.part.now) (b_field c.args.part.now) refl refl refl refl in
    omega (arith, c.well_formed, c.ranges, f.own_room)

pub fill_tree-slice_bounds-put_literal-count : goal.fill_tree-slice_bounds-put_literal-count
unfolding record_length
fill_tree-slice_bounds-put_literal-count t c =
    let f = tree-facts c.args.part.now c.args.i c.args.ports c.args.sets c.args.depth c.args.width c.args.at c.args.masks.now c.args.cells.now c.requires.0 c.requires.1 (end_field c.args.part.now) refl (kind_field c.args.part.now) (relation_field c.args.part.now) (a_field c.args.part.now) (b_field c.args.part.now) refl refl refl refl in
    omega (arith, f.own_room)

pub fill_tree-slice_bounds-put_literal-start : goal.fill_tree-slice_bounds-put_literal-start
unfolding record_length
fill_tree-slice_bounds-put_literal-start t c =
    let f = tree-facts c.args.part.now c.args.i c.args.ports c.args.sets c.args.depth c.args.width c.args.at c.args.masks.now c.args.cells.now c.requires.0 c.requires.1 (end_field c.args.part.now) refl (kind_field c.args.part.now) (relation_field c.args.part.now) (a_field c.args.part.now) (b_field c.args.part.now) refl refl refl refl in
    omega (arith, f.own_room)

pub fill_tree-slice_bounds-put_literal-end : goal.fill_tree-slice_bounds-put_literal-end
unfolding record_length
fill_tree-slice_bounds-put_literal-end t c =
    let f = tree-facts c.args.part.now c.args.i c.args.ports c.args.sets c.args.depth c.args.width c.args.at c.args.masks.now c.args.cells.now c.requires.0 c.requires.1 (end_field c.args.part.now) refl (kind_field c.args.part.now) (relation_field c.args.part.now) (a_field c.args.part.now) (b_field c.args.part.now) refl refl refl refl in
    omega (arith, f.own_room)

pub fill_tree-put_literal-requires : goal.fill_tree-put_literal-requires
unfolding record_length
fill_tree-put_literal-requires t c =
    let f = tree-facts c.args.part.now c.args.i c.args.ports c.args.sets c.args.depth c.args.width c.args.at c.args.masks.now c.args.cells.now c.requires.0 c.requires.1 (end_field c.args.part.now) refl c.kind_of-kind.result c.relation_of.result c.a_of.result c.b_of.result c.kind_of-kind.ensures c.relation_of.ensures c.a_of.ensures c.b_of.ensures in
    f.literal (omega arith)

pub fill_tree-shape_of-cells-then-kind-ge5 : goal.fill_tree-shape_of-cells-then-kind-ge5
unfolding record_length
fill_tree-shape_of-cells-then-kind-ge5 t c =
    let f = tree-facts c.args.part.now c.args.i c.args.ports c.args.sets c.args.depth c.args.width c.args.at c.args.masks.now c.args.cells.now c.requires.0 c.requires.1 (end_field c.args.part.now) refl c.kind_of-kind.result c.relation_of.result c.a_of.result c.b_of.result c.kind_of-kind.ensures c.relation_of.ensures c.a_of.ensures c.b_of.ensures in
    back-to-length c.args.at (c.args.at + c.args.width) c.args.cells.now c.put_literal.new.cells (omega arith) f.own_room (omega (arith, c.put_literal.auto.cells))

pub fill_tree-returns-then-kind-ge5 : goal.fill_tree-returns-then-kind-ge5
fill_tree-returns-then-kind-ge5 t c =
    fill-literal c.args.part.now c.args.i c.args.ports c.args.sets c.args.depth c.args.width c.args.at c.args.masks.now c.args.cells.now c.requires.0 c.requires.1 c.kind_of-kind.result c.kind_of-kind.ensures c.relation_of.result c.a_of.result c.b_of.result c.relation_of.ensures c.a_of.ensures c.b_of.ensures (omega arith) c.put_literal.new.cells c.put_literal.ensures

pub fill_tree-end_of-end-requires : goal.fill_tree-end_of-end-requires
unfolding record_length
fill_tree-end_of-end-requires t c =
    c.requires.0

pub fill_tree-overflow_sub-span : goal.fill_tree-overflow_sub-span
unfolding record_length
fill_tree-overflow_sub-span t c =
    let f = tree-facts c.args.part.now c.args.i c.args.ports c.args.sets c.args.depth c.args.width c.args.at c.args.masks.now c.args.cells.now c.requires.0 c.requires.1 c.end_of-end.result c.end_of-end.ensures.is c.kind_of-kind.result (relation_field c.args.part.now) (a_field c.args.part.now) (b_field c.args.part.now) c.kind_of-kind.ensures refl refl refl in
    omega (arith, f.after)

pub fill_tree-overflow_mul-span : goal.fill_tree-overflow_mul-span
unfolding record_length
fill_tree-overflow_mul-span t c =
    let f = tree-facts c.args.part.now c.args.i c.args.ports c.args.sets c.args.depth c.args.width c.args.at c.args.masks.now c.args.cells.now c.requires.0 c.requires.1 c.end_of-end.result c.end_of-end.ensures.is c.kind_of-kind.result (relation_field c.args.part.now) (a_field c.args.part.now) (b_field c.args.part.now) c.kind_of-kind.ensures refl refl refl in
    omega (arith, f.few)

pub fill_tree-child_depth-below-requires : goal.fill_tree-child_depth-below-requires
unfolding record_length
fill_tree-child_depth-below-requires t c =
    let f = tree-facts c.args.part.now c.args.i c.args.ports c.args.sets c.args.depth c.args.width c.args.at c.args.masks.now c.args.cells.now c.requires.0 c.requires.1 c.end_of-end.result c.end_of-end.ensures.is c.kind_of-kind.result (relation_field c.args.part.now) (a_field c.args.part.now) (b_field c.args.part.now) c.kind_of-kind.ensures refl refl refl in
    omega (arith, f.depth3)

pub fill_tree-child_width-wider-requires : goal.fill_tree-child_width-wider-requires
unfolding record_length
fill_tree-child_width-wider-requires t c =
    let f = tree-facts c.args.part.now c.args.i c.args.ports c.args.sets c.args.depth c.args.width c.args.at c.args.masks.now c.args.cells.now c.requires.0 c.requires.1 c.end_of-end.result c.end_of-end.ensures.is c.kind_of-kind.result (relation_field c.args.part.now) (a_field c.args.part.now) (b_field c.args.part.now) c.kind_of-kind.ensures refl refl refl in
    (omega (arith, f.width_low), c.requires.1.ports64)

pub fill_tree-slice_bounds-fill_children-count : goal.fill_tree-slice_bounds-fill_children-count
unfolding record_length
fill_tree-slice_bounds-fill_children-count t c =
    let f = tree-facts c.args.part.now c.args.i c.args.ports c.args.sets c.args.depth c.args.width c.args.at c.args.masks.now c.args.cells.now c.requires.0 c.requires.1 c.end_of-end.result c.end_of-end.ensures.is c.kind_of-kind.result (relation_field c.args.part.now) (a_field c.args.part.now) (b_field c.args.part.now) c.kind_of-kind.ensures refl refl refl in
    omega (arith, f.after)

pub fill_tree-slice_bounds-fill_children-start : goal.fill_tree-slice_bounds-fill_children-start
unfolding record_length
fill_tree-slice_bounds-fill_children-start t c =
    let f = tree-facts c.args.part.now c.args.i c.args.ports c.args.sets c.args.depth c.args.width c.args.at c.args.masks.now c.args.cells.now c.requires.0 c.requires.1 c.end_of-end.result c.end_of-end.ensures.is c.kind_of-kind.result (relation_field c.args.part.now) (a_field c.args.part.now) (b_field c.args.part.now) c.kind_of-kind.ensures refl refl refl in
    omega (arith, f.after)

pub fill_tree-slice_bounds-fill_children-end : goal.fill_tree-slice_bounds-fill_children-end
unfolding record_length
fill_tree-slice_bounds-fill_children-end t c =
    let f = tree-facts c.args.part.now c.args.i c.args.ports c.args.sets c.args.depth c.args.width c.args.at c.args.masks.now c.args.cells.now c.requires.0 c.requires.1 c.end_of-end.result c.end_of-end.ensures.is c.kind_of-kind.result (relation_field c.args.part.now) (a_field c.args.part.now) (b_field c.args.part.now) c.kind_of-kind.ensures refl refl refl in
    omega (arith, f.within)

pub fill_tree-overflow_add-i : goal.fill_tree-overflow_add-i
unfolding record_length
fill_tree-overflow_add-i t c =
    let f = tree-facts c.args.part.now c.args.i c.args.ports c.args.sets c.args.depth c.args.width c.args.at c.args.masks.now c.args.cells.now c.requires.0 c.requires.1 c.end_of-end.result c.end_of-end.ensures.is c.kind_of-kind.result (relation_field c.args.part.now) (a_field c.args.part.now) (b_field c.args.part.now) c.kind_of-kind.ensures refl refl refl in
    omega (arith, f.few, f.after)

pub fill_tree-slice_bounds-fill_children-count-2 : goal.fill_tree-slice_bounds-fill_children-count-2
fill_tree-slice_bounds-fill_children-count-2 t c =
    omega (arith, c.requires.1.room)

pub fill_tree-slice_bounds-fill_children-start-2 : goal.fill_tree-slice_bounds-fill_children-start-2
fill_tree-slice_bounds-fill_children-start-2 t c =
    omega (arith, c.requires.1.room)

pub fill_tree-fill_children-requires : goal.fill_tree-fill_children-requires
unfolding record_length
fill_tree-fill_children-requires t c =
    let f = tree-facts c.args.part.now c.args.i c.args.ports c.args.sets c.args.depth c.args.width c.args.at c.args.masks.now c.args.cells.now c.requires.0 c.requires.1 c.end_of-end.result c.end_of-end.ensures.is c.kind_of-kind.result (relation_field c.args.part.now) (a_field c.args.part.now) (b_field c.args.part.now) c.kind_of-kind.ensures refl refl refl in
    (omega (arith, f.kids-shorter, c.decreases), f.kids c.child_depth-below.result c.child_width-wider.result c.child_depth-below.ensures c.child_width-wider.ensures)

pub fill_tree-shape_of-cells : goal.fill_tree-shape_of-cells
fill_tree-shape_of-cells t c =
    back-length c.args.at c.args.cells.now c.fill_children.new.cells (omega (arith, c.requires.1.room)) (omega (arith, c.fill_children.auto.cells))

pub fill_tree-returns : goal.fill_tree-returns
unfolding record_length
fill_tree-returns t c =
    fill-inner c.args.part.now c.args.i c.args.ports c.args.sets c.args.depth c.args.width c.args.at c.args.masks.now c.args.cells.now c.requires.0 c.requires.1 c.kind_of-kind.result c.kind_of-kind.ensures c.end_of-end.result c.end_of-end.ensures.is (omega arith) c.child_depth-below.result c.fill_children.result c.child_depth-below.ensures c.fill_children.new.cells c.fill_children.ensures
