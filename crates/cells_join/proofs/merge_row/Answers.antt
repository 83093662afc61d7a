use Rattle.std.proofs.Common.{◌+◌, get_or, sym, ap, ◌∙◌, zero-add, arith}
use Rattle.logic.proofs.Written.{start, all_first}
use Rattle.cells_join.specs.inner.Joined.{join_into, merged, LowTwo, Low}
use Rattle.cells_join.proofs.Prefix.{one_at, merge-more}
use Rattle.cells_join.proofs.Held.{low-kept}
use Rattle.cells_join.proofs.merge_row.Goals as goal

pub loop-t-init : goal.loop-t-init
loop-t-init c =
    start _ _ _ _

pub step_of-requires : goal.step_of-requires
unfolding LowTwo Low
step_of-requires c =
    λ h. (λ z. low-kept _ c.args.join c.args.over c.loop-t.t c.loop-t.t c.args.cells.now c.loop-t.cells c.loop-t.invariant (omega arith) (λ k. rw zero-add at (c.requires.3 z c.loop-t.t (omega arith) k)) h, low-kept _ c.args.join c.args.over c.loop-t.t (c.args.at + c.loop-t.t) c.args.cells.now c.loop-t.cells c.loop-t.invariant (omega arith) (λ k. c.requires.2 c.loop-t.t (omega arith) k) h)

pub loop-t-preserved : goal.loop-t-preserved
loop-t-preserved c =
    merge-more _ c.args.first 1 c.args.at _ (c.args.at + c.loop-t.t) _ _ _ _ c.loop-t.invariant (omega arith) (omega arith) (omega arith) (omega arith) (c.step_of.ensures ∙ ap (join_into c.args.join c.args.first (get_or c.loop-t.cells c.loop-t.t 0)) (sym (one_at (c.args.at + c.loop-t.t) c.loop-t.cells (omega arith))))

pub returns : goal.returns
unfolding merged
returns c =
    all_first _ _ _ _ _ c.loop-t.invariant c.loop-t-test.false
