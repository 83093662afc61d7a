use mathlib.Core.Path.{◌∙◌, refl}
use Prim.Native.Nat.{◌-◌}
use native.Mathlib.Omega.{arith}
use borrow.Author.Tests.{not-true, not-false}
use Rattle.call_list.proofs.Extending.{outset, within, one-ready, worked-at, none-at, goes_on, worked-there, unknown-there, answers-there, ends_there, same-answers, same-scratch, fits-true}
use Rattle.call_list.proofs.work.Goals as goal

pub loop-from-init : goal.loop-from-init
loop-from-init c =
    outset _ _ _

pub next_fits-requires : goal.next_fits-requires
next_fits-requires c =
    within _ _ _ _ _ c.loop-from.invariant

pub overflow_mul-from : goal.overflow_mul-from
overflow_mul-from c =
    let f = within _ _ _ _ _ c.loop-from.invariant in omega (arith, f.0, c.well_formed)

pub overflow_mul-to : goal.overflow_mul-to
overflow_mul-to c =
    let f = within _ _ _ _ _ c.loop-from.invariant in omega (arith, f.1, c.well_formed)

pub newest_place-requires : goal.newest_place-requires
newest_place-requires c =
    tt

pub record_at-newest-requires : goal.record_at-newest-requires
record_at-newest-requires c =
    tt

pub offset_bounds-calls-from : goal.offset_bounds-calls-from
offset_bounds-calls-from c =
    let f = within _ _ _ _ _ c.loop-from.invariant in omega (arith, f.0, c.well_formed)

pub slice_bounds-work_one-count : goal.slice_bounds-work_one-count
slice_bounds-work_one-count c =
    (within _ _ _ _ _ c.loop-from.invariant).0

pub slice_bounds-work_one-start : goal.slice_bounds-work_one-start
slice_bounds-work_one-start c =
    let f = within _ _ _ _ _ c.loop-from.invariant in omega (arith, f.0)

pub slice_bounds-work_one-end : goal.slice_bounds-work_one-end
slice_bounds-work_one-end c =
    omega arith

pub offset_bounds-answers-to : goal.offset_bounds-answers-to
offset_bounds-answers-to c =
    let f = within _ _ _ _ _ c.loop-from.invariant in omega (arith, f.1, c.well_formed)

pub slice_bounds-work_one-count-in-loop-from : goal.slice_bounds-work_one-count-in-loop-from
slice_bounds-work_one-count-in-loop-from c =
    (within _ _ _ _ _ c.loop-from.invariant).1

pub slice_bounds-work_one-start-in-loop-from : goal.slice_bounds-work_one-start-in-loop-from
slice_bounds-work_one-start-in-loop-from c =
    let f = within _ _ _ _ _ c.loop-from.invariant in omega (arith, f.1)

pub slice_bounds-work_one-end-in-loop-from : goal.slice_bounds-work_one-end-in-loop-from
slice_bounds-work_one-end-in-loop-from c =
    omega arith

pub work_one-requires : goal.work_one-requires
work_one-requires c =
    let f = (fits-true _ _ _ _ c.loop-from-test.true c.next_fits.ensures) in one-ready _ _ _ _ _ c.loop-from.invariant f.0 f.1

pub shape_of-masks-in_default : goal.shape_of-masks-in_default
shape_of-masks-in_default c =
    c.work_one.auto.masks ∙ c.loop-from.invariant.masks-length

pub shape_of-cells-in_default : goal.shape_of-cells-in_default
shape_of-cells-in_default c =
    c.work_one.auto.cells ∙ c.loop-from.invariant.cells-length

pub shape_of-scratch-in_default : goal.shape_of-scratch-in_default
shape_of-scratch-in_default c =
    c.work_one.auto.scratch ∙ same-scratch _ _ _ _ _ c.loop-from.invariant

pub shape_of-journal-in_default : goal.shape_of-journal-in_default
shape_of-journal-in_default c =
    c.loop-from.invariant.journal-length

pub shape_of-list-in_default : goal.shape_of-list-in_default
shape_of-list-in_default c =
    c.work_one.auto.list ∙ c.loop-from.invariant.list_length

pub shape_of-answers-in_default : goal.shape_of-answers-in_default
shape_of-answers-in_default c =
    answers-there _ _ _ _ _ c.loop-from.invariant _ (fits-true _ _ _ _ c.loop-from-test.true c.next_fits.ensures) (none-at _ _ _ _ _ _ _ _ _ _ _ _ _ _ _ _ refl c.record_at-newest.ensures c.newest_place.ensures c.in_default.ensures)

pub record_place-requires : goal.record_place-requires
record_place-requires c =
    tt

pub put_record-requires : goal.put_record-requires
put_record-requires c =
    tt

pub overflow_add-worked : goal.overflow_add-worked
overflow_add-worked c =
    let f = (fits-true _ _ _ _ c.loop-from-test.true c.next_fits.ensures) in omega (arith, f.0, c.well_formed)

pub loop-from-smaller : goal.loop-from-smaller
loop-from-smaller c =
    let f = (fits-true _ _ _ _ c.loop-from-test.true c.next_fits.ensures) in omega (arith, f.0)

pub loop-from-preserved : goal.loop-from-preserved
loop-from-preserved c =
    goes_on _ _ _ _ _ c.loop-from.invariant _ (fits-true _ _ _ _ c.loop-from-test.true c.next_fits.ensures) (worked-at _ _ _ _ _ _ _ _ _ _ _ _ _ _ _ _ refl c.record_at-newest.ensures c.newest_place.ensures _ c.in-Some.ensures _ _ c.record_place.ensures c.put_record.ensures) c.work_one.auto.masks c.work_one.auto.cells c.put_record.auto.journal c.work_one.auto.list

pub shape_of-masks : goal.shape_of-masks
shape_of-masks c =
    c.loop-from.invariant.masks-length

pub shape_of-cells : goal.shape_of-cells
shape_of-cells c =
    c.loop-from.invariant.cells-length

pub shape_of-scratch : goal.shape_of-scratch
shape_of-scratch c =
    same-scratch _ _ _ _ _ c.loop-from.invariant

pub shape_of-journal : goal.shape_of-journal
shape_of-journal c =
    c.loop-from.invariant.journal-length

pub shape_of-list : goal.shape_of-list
shape_of-list c =
    c.loop-from.invariant.list_length

pub shape_of-answers : goal.shape_of-answers
shape_of-answers c =
    same-answers _ _ _ _ _ c.loop-from.invariant

pub returns-in_default : goal.returns-in_default
returns-in_default c =
    record { run = worked-there _ _ _ _ _ c.loop-from.invariant _ (fits-true _ _ _ _ c.loop-from-test.true c.next_fits.ensures) (none-at _ _ _ _ _ _ _ _ _ _ _ _ _ _ _ _ refl c.record_at-newest.ensures c.newest_place.ensures c.in_default.ensures); stopped = unknown-there _ _ _ _ _ c.loop-from.invariant _ (fits-true _ _ _ _ c.loop-from-test.true c.next_fits.ensures) (none-at _ _ _ _ _ _ _ _ _ _ _ _ _ _ _ _ refl c.record_at-newest.ensures c.newest_place.ensures c.in_default.ensures) }

pub returns : goal.returns
returns c =
    record { run = c.loop-from.invariant.so_far; stopped = ends_there _ _ _ _ _ c.loop-from.invariant _ c.loop-from-test.false c.next_fits.ensures }
