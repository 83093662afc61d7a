use mathlib.Core.Path.{refl}
use native.Mathlib.Omega.{arith}
use Rattle.table_format.specs.Bytes.{record_length}
use Rattle.text_write.proofs.Forming.{only-few, open-few, join-few, nest-few, form-none, form-facts, form-last, form-more}
use Rattle.text_write.proofs.+form_trees.Goals as goal

pub returns-then-part-lt-RECORD : goal.returns-then-part-lt-RECORD
unfolding record_length
returns-then-part-lt-RECORD t c =
    form-none _ _ _ _ _ _ _ _ c.if-part-lt-RECORD.true refl refl

pub overflow_sub-span : goal.overflow_sub-span
unfolding record_length
overflow_sub-span t c =
    let f = form-facts _ _ _ _ _ c.requires c.if-part-lt-RECORD.false _ c.end_of-end.ensures.is _ refl in omega (arith, f.after)

pub open_node-inner-requires : goal.open_node-inner-requires
unfolding record_length
open_node-inner-requires t c =
    let f = form-facts _ _ _ _ _ c.requires c.if-part-lt-RECORD.false _ c.end_of-end.ensures.is _ c.kind_of-kind.ensures in f.node

pub nest_below-around-requires : goal.nest_below-around-requires
unfolding record_length
nest_below-around-requires t c =
    let f = form-facts _ _ _ _ _ c.requires c.if-part-lt-RECORD.false _ c.end_of-end.ensures.is _ c.kind_of-kind.ensures in f.nest-room

pub slice_bounds-form_trees-count : goal.slice_bounds-form_trees-count
unfolding record_length
slice_bounds-form_trees-count t c =
    let f = form-facts _ _ _ _ _ c.requires c.if-part-lt-RECORD.false _ c.end_of-end.ensures.is _ c.kind_of-kind.ensures in omega (arith, f.after)

pub slice_bounds-form_trees-start : goal.slice_bounds-form_trees-start
unfolding record_length
slice_bounds-form_trees-start t c =
    let f = form-facts _ _ _ _ _ c.requires c.if-part-lt-RECORD.false _ c.end_of-end.ensures.is _ c.kind_of-kind.ensures in omega (arith, f.after)

pub slice_bounds-form_trees-end : goal.slice_bounds-form_trees-end
unfolding record_length
slice_bounds-form_trees-end t c =
    let f = form-facts _ _ _ _ _ c.requires c.if-part-lt-RECORD.false _ c.end_of-end.ensures.is _ c.kind_of-kind.ensures in omega (arith, f.within)

pub form_trees-c-requires : goal.form_trees-c-requires
unfolding record_length
form_trees-c-requires t c =
    let f = form-facts _ _ _ _ _ c.requires c.if-part-lt-RECORD.false _ c.end_of-end.ensures.is _ c.kind_of-kind.ensures in (
      omega (arith, f.kids-shorter, c.decreases),
      f.kids _ _ _ c.child_depth-below.ensures (omega (arith, c.nest_below-around.ensures, nest-few c.kind_of-kind.result c.needs_brackets-bracket.result c.args.nest))
          (omega (arith, open-few c.args.part.now c.args.depth c.needs_brackets-bracket.result)),
    )

pub put_if-closed-requires : goal.put_if-closed-requires
unfolding record_length
put_if-closed-requires t c =
    let f = form-facts _ _ _ _ _ c.requires c.if-part-lt-RECORD.false _ c.end_of-end.ensures.is _ c.kind_of-kind.ensures in
    let k = f.kids-end c.child_depth-below.result c.nest_below-around.result c.open_node-inner.result _ _ c.form_trees-c.result c.child_depth-below.ensures
    (omega (arith, open-few c.args.part.now c.args.depth c.needs_brackets-bracket.result)) c.form_trees-c.ensures in omega (arith, k.0)

pub returns-then-part-span : goal.returns-then-part-span
unfolding record_length
returns-then-part-span t c =
    form-last _ _ _ _ _ _ c.requires c.if-part-lt-RECORD.false _ _ _ _ _ _ (record { bracket = c.needs_brackets-bracket.result; below = c.child_depth-below.result; around = c.nest_below-around.result; inner = c.open_node-inner.result; y = _; z = _; kids = c.form_trees-c.result; kind-is = c.kind_of-kind.ensures; end_is = c.end_of-end.ensures.is; bracket-is = c.needs_brackets-bracket.ensures; below-is = c.child_depth-below.ensures; around-is = c.nest_below-around.ensures; opened = c.open_node-inner.ensures; kids-put = c.form_trees-c.ensures; closed-put = c.put_if-closed.ensures; deep_is = refl }) _ c.if-part-span.true refl refl

pub put_join-next-requires : goal.put_join-next-requires
unfolding record_length
put_join-next-requires t c =
    let f = form-facts _ _ _ _ _ c.requires c.if-part-lt-RECORD.false _ c.end_of-end.ensures.is _ c.kind_of-kind.ensures in
    let k = f.kids-end c.child_depth-below.result c.nest_below-around.result c.open_node-inner.result _ _ c.form_trees-c.result c.child_depth-below.ensures
    (omega (arith, open-few c.args.part.now c.args.depth c.needs_brackets-bracket.result)) c.form_trees-c.ensures in omega (arith, k.0, only-few c.needs_brackets-bracket.result 41)

pub form_trees-s-requires : goal.form_trees-s-requires
unfolding record_length
form_trees-s-requires t c =
    let f = form-facts _ _ _ _ _ c.requires c.if-part-lt-RECORD.false _ c.end_of-end.ensures.is _ c.kind_of-kind.ensures in
    let k = f.kids-end c.child_depth-below.result c.nest_below-around.result c.open_node-inner.result _ _ c.form_trees-c.result c.child_depth-below.ensures
    (omega (arith, open-few c.args.part.now c.args.depth c.needs_brackets-bracket.result)) c.form_trees-c.ensures in
    (omega (arith, f.rest-shorter, c.decreases), k.1 c.put_join-next.result (omega (arith, only-few c.needs_brackets-bracket.result 41, join-few c.args.above)))

pub returns-then-c : goal.returns-then-c
unfolding record_length
returns-then-c t c =
    form-more _ _ _ _ _ _ c.requires c.if-part-lt-RECORD.false _ _ _ _ _ _ (record { bracket = c.needs_brackets-bracket.result; below = c.child_depth-below.result; around = c.nest_below-around.result; inner = c.open_node-inner.result; y = _; z = _; kids = c.form_trees-c.result; kind-is = c.kind_of-kind.ensures; end_is = c.end_of-end.ensures.is; bracket-is = c.needs_brackets-bracket.ensures; below-is = c.child_depth-below.ensures; around-is = c.nest_below-around.ensures; opened = c.open_node-inner.ensures; kids-put = c.form_trees-c.ensures; closed-put = c.put_if-closed.ensures; deep_is = refl }) _ _ _ _ _ c.if-part-span.false c.put_join-next.ensures c.form_trees-s.ensures refl (rw c.if-c.true)

pub returns-else-c : goal.returns-else-c
unfolding record_length
returns-else-c t c =
    form-more _ _ _ _ _ _ c.requires c.if-part-lt-RECORD.false _ _ _ _ _ _ (record { bracket = c.needs_brackets-bracket.result; below = c.child_depth-below.result; around = c.nest_below-around.result; inner = c.open_node-inner.result; y = _; z = _; kids = c.form_trees-c.result; kind-is = c.kind_of-kind.ensures; end_is = c.end_of-end.ensures.is; bracket-is = c.needs_brackets-bracket.ensures; below-is = c.child_depth-below.ensures; around-is = c.nest_below-around.ensures; opened = c.open_node-inner.ensures; kids-put = c.form_trees-c.ensures; closed-put = c.put_if-closed.ensures; deep_is = refl }) _ _ _ _ _ c.if-part-span.false c.put_join-next.ensures c.form_trees-s.ensures refl (rw c.if-c.false)
