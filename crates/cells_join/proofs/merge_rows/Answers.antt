use Rattle.std.proofs.Common.{◌+◌, get_or, ◌∙◌, zero-add, arith}
use Rattle.logic.proofs.Written.{start, all_first}
use Rattle.cells_join.specs.inner.Joined.{limit_of, LowTwo, Low}
use Rattle.cells_join.proofs.Prefix.{step-low}
use Rattle.cells_join.proofs.Held.{low-kept, rows_more, rows_all}
use Rattle.cells_join.proofs.merge_rows.Goals as goal

pub loop-t-init : goal.loop-t-init
loop-t-init c =
    start _ _ _ _

pub step_of-x-requires : goal.step_of-x-requires
unfolding LowTwo Low
step_of-x-requires c =
    λ h. (λ z. low-kept _ c.args.join c.args.over c.loop-t.t c.loop-t.t c.args.cells.now c.loop-t.cells c.loop-t.invariant (omega arith) (λ k. rw zero-add at (c.requires.5 z c.loop-t.t (omega arith) k)) h, low-kept _ c.args.join c.args.over c.loop-t.t (c.args.held + c.loop-t.t) c.args.cells.now c.loop-t.cells c.loop-t.invariant (omega arith) (λ k. c.requires.3 c.loop-t.t (omega arith) k) h)

pub meet_of-requires : goal.meet_of-requires
unfolding LowTwo Low
meet_of-requires c =
    λ h. (λ _. rw c.step_of-x.ensures (step-low c.args.join c.args.first (get_or c.loop-t.cells c.loop-t.t 0) (get_or c.loop-t.cells (c.args.held + c.loop-t.t) 0) (limit_of c.args.join) h (low-kept _ c.args.join c.args.over c.loop-t.t (c.args.held + c.loop-t.t) c.args.cells.now c.loop-t.cells c.loop-t.invariant (omega arith) (λ k. c.requires.3 c.loop-t.t (omega arith) k) h)), low-kept _ c.args.join c.args.over c.loop-t.t (c.args.at + c.loop-t.t) c.args.cells.now c.loop-t.cells c.loop-t.invariant (omega arith) (λ k. c.requires.4 c.loop-t.t (omega arith) k) h)

pub loop-t-preserved : goal.loop-t-preserved
loop-t-preserved c =
    rows_more c.args.join c.args.first c.args.over c.args.held c.args.at c.loop-t.t c.step_of-x.result c.meet_of.result c.args.cells.now c.loop-t.cells c.loop-t.invariant (omega arith) (omega arith) (omega arith) (omega arith) c.step_of-x.ensures c.meet_of.ensures

pub returns : goal.returns
returns c =
    all_first _ _ _ _ _ c.loop-t.invariant c.loop-t-test.false ∙ rows_all c.args.join c.args.first c.args.over c.args.held c.args.at c.args.cells.now
