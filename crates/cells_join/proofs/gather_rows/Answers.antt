use Rattle.std.proofs.Common.{◌+◌, ◌*◌, ◌≤◌, true, length, get_or, refl, ap, ◌∙◌, arith}
use Rattle.logic.proofs.Written.{start, all_first}
use Rattle.cells_join.specs.inner.Joined.{join_into, merged}
use Rattle.cells_join.proofs.Prefix.{row_within, merge-more}
use Rattle.cells_join.proofs.Held.{low_part, part-is, part-length, part-low}
use Rattle.cells_join.proofs.gather_rows.Goals as goal

pub loop-t-init : goal.loop-t-init
loop-t-init c =
    start _ _ _ _

pub overflow_mul-from : goal.overflow_mul-from
overflow_mul-from c =
    omega (arith, c.requires.2, row_within c.loop-t.t c.args.over c.args.s c.loop-t-test.true)

pub overflow_add-from : goal.overflow_add-from
overflow_add-from c =
    omega (arith, c.requires.2, row_within c.loop-t.t c.args.over c.args.s c.loop-t-test.true)

pub gather-requires : goal.gather-requires
gather-requires c =
    let from = c.args.at + c.loop-t.t * c.args.s in
    let r = row_within c.loop-t.t c.args.over c.args.s c.loop-t-test.true in
    let room : from + c.args.s ≤ length c.loop-t.cells = omega (arith, c.requires.2, c.loop-t.invariant.same_length) in
    (omega (arith, part-length from c.args.s c.loop-t.cells room, c.requires.0), part-low c.args.join from c.args.s c.loop-t.cells room (low_part _ c.args.join c.args.over c.loop-t.t c.args.at (c.args.over * c.args.s) from c.args.s c.args.cells.now c.loop-t.cells c.loop-t.invariant (omega (arith, c.requires.1)) (omega arith) (omega arith) c.requires.3), c.requires.4)

pub loop-t-preserved : goal.loop-t-preserved
loop-t-preserved c =
    let from = c.args.at + c.loop-t.t * c.args.s in
    merge-more _ true _ _ _ from c.loop-t.t _ _ c.loop-t.cells c.loop-t.invariant c.loop-t-test.true c.requires.1 (omega (arith, c.requires.1, c.requires.2)) refl
    (c.gather.ensures (get_or c.loop-t.cells c.loop-t.t 0) ∙ ap (join_into c.args.join true (get_or c.loop-t.cells c.loop-t.t 0)) (part-is from c.args.s c.loop-t.cells))

pub returns : goal.returns
unfolding merged
returns c =
    all_first _ _ _ _ _ c.loop-t.invariant c.loop-t-test.false
