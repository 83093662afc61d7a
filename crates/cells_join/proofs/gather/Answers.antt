use Rattle.std.proofs.Common.{get_or, ap, ◌∙◌, zero-add, take_all, arith}
use Rattle.cells_join.specs.inner.Joined.{unit_of, join_all, LowTwo, Low}
use Rattle.cells_join.proofs.Prefix.{gather-next, from-unit, unit-low, meet_low}
use Rattle.cells_join.proofs.Limits.{limit-signed}
use Rattle.cells_join.proofs.gather.Goals as goal

pub loop-cell-init : goal.loop-cell-init
unfolding join_all
loop-cell-init c =
    (c.unit_of-r.ensures, λ h. rw c.unit_of-r.ensures (unit-low c.args.join h))

pub meet_of-r-requires : goal.meet_of-r-requires
unfolding LowTwo Low
meet_of-r-requires c =
    λ h. (λ _. rw (limit-signed c.args.join c.requires.2) (c.loop-cell.invariant.1 h), rw zero-add at (c.requires.1 c.loop-cell.cell-index c.loop-cell-test.true h))

pub loop-cell-preserved : goal.loop-cell-preserved
unfolding Low
loop-cell-preserved c = (
  gather-next c.args.join _ c.loop-cell.cell-index c.loop-cell.r c.meet_of-r.result c.args.cells.now c.loop-cell-test.true c.loop-cell.invariant.0 c.meet_of-r.ensures,
  λ h. rw c.meet_of-r.ensures (meet_low c.args.join c.loop-cell.r (get_or c.args.cells.now c.loop-cell.cell-index 0) 2147483648 h (rw (zero-add, limit-signed c.args.join c.requires.2) at (c.requires.1 c.loop-cell.cell-index c.loop-cell-test.true h))),
)

pub returns : goal.returns
unfolding Low
returns c =
    λ x. c.loop-cell.invariant.0 ∙ ap (join_all c.args.join (unit_of c.args.join)) (take_all c.loop-cell.cell-index c.args.cells.now c.loop-cell-test.false)
    ∙ from-unit c.args.join x c.args.cells.now c.requires.0 (omega (arith, c.type_inv.cells 0)) (λ h. rw (zero-add, limit-signed c.args.join c.requires.2) at (c.requires.1 0 (omega (arith, c.requires.0)) h))
