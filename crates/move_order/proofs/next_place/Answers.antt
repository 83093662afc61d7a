use native.Mathlib.Omega.{arith}
use Rattle.move_order.specs.inner.Stepping.{StepsAny}
use Rattle.move_order.proofs.Stepping.{step-q, step-p, step-t, step-s, step-kind}
use Rattle.move_order.proofs.next_place.Goals as goal

pub q_end_at-requires : goal.q_end_at-requires
q_end_at-requires c =
    omega (arith, c.requires)

pub returns-then-m-q_end_at : goal.returns-then-m-q_end_at
unfolding StepsAny
returns-then-m-q_end_at c =
    λ kinds. rw c.at_fields.ensures (step-q c.args.ports c.args.sets kinds c.args.masks.now c.args.m c.requires.begins (omega (arith, c.if-m-q_end_at.true, c.q_end_at.ensures)))

pub returns-then-m-ports : goal.returns-then-m-ports
unfolding StepsAny
returns-then-m-ports c =
    λ kinds. rw c.at_fields-then-m-ports.ensures (step-p c.args.ports c.args.sets kinds c.args.masks.now c.args.m c.requires.begins (omega (arith, c.if-m-q_end_at.false, c.q_end_at.ensures)) (omega (arith, c.if-m-ports.true)))

pub returns-then-m-t_end : goal.returns-then-m-t_end
unfolding StepsAny
returns-then-m-t_end c =
    λ kinds. rw c.at_fields-then-m-t_end.ensures (step-t c.args.ports c.args.sets kinds c.args.masks.now c.args.m c.requires.begins (omega (arith, c.if-m-q_end_at.false, c.q_end_at.ensures)) (omega (arith, c.if-m-ports.false)) (omega (arith, c.if-m-t_end.true, c.t_end.ensures)))

pub returns-then-m-sets : goal.returns-then-m-sets
unfolding StepsAny
returns-then-m-sets c =
    λ kinds. rw c.at_fields-then-m-sets.ensures (step-s c.args.ports c.args.sets kinds c.args.masks.now c.args.m c.requires.begins (omega (arith, c.if-m-q_end_at.false, c.q_end_at.ensures)) (omega (arith, c.if-m-ports.false)) (omega (arith, c.if-m-t_end.false, c.t_end.ensures)) (omega (arith, c.if-m-sets.true)))

pub returns-else-m-sets : goal.returns-else-m-sets
unfolding StepsAny
returns-else-m-sets c =
    λ kinds. rw c.at_fields-else-m-sets.ensures (step-kind c.args.ports c.args.sets kinds c.args.masks.now c.args.m c.requires.begins (omega (arith, c.if-m-q_end_at.false, c.q_end_at.ensures)) (omega (arith, c.if-m-ports.false)) (omega (arith, c.if-m-t_end.false, c.t_end.ensures)) (omega (arith, c.if-m-sets.false)))
