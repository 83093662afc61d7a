use mathlib.Core.Path.{refl, ◌∙◌}
use Prim.Native.Nat.{◌*◌, ◌/◌}
use native.Mathlib.Nat.{add-mod_right, add-div_right, zero-mod}
use native.Mathlib.Omega.{arith}
use Rattle.cells_runs.specs.inner.Ports.{digit_at, by_order}
use Rattle.logic.proofs.Written.{start, done, from_first}
use Rattle.cells_runs.proofs.Rounds.{repeated-is}
use Rattle.cells_compare.proofs.Nested.{round1, period1, round-ends, both-again, round-more, runs_fit, step-asks, first-digit, round-in-period}
use Rattle.cells_compare.proofs.put_nested.Goals as goal

pub overflow_mul-round : goal.overflow_mul-round
overflow_mul-round c =
    omega (arith, round-in-period c.requires, c.requires.once, c.requires.room)

pub overflow_mul-period : goal.overflow_mul-period
overflow_mul-period c =
    omega (arith, c.requires.once, c.requires.room)

pub nonzero_div-rounds : goal.nonzero_div-rounds
nonzero_div-rounds c =
    omega (arith, round1 c.requires)

pub loop-t-init : goal.loop-t-init
loop-t-init c =
    (start _ _ _ _, zero-mod _, first-digit _ _ _ _ refl refl)

pub overflow_mul-low : goal.overflow_mul-low
overflow_mul-low c =
    omega (arith, runs_fit c.requires c.loop-t.v c.loop-t.t c.loop-t.invariant.2, round-in-period c.requires, c.requires.once, c.requires.room)

pub put_run-requires : goal.put_run-requires
put_run-requires c =
    omega (arith, runs_fit c.requires c.loop-t.v c.loop-t.t c.loop-t.invariant.2, round-ends c.requires c.loop-t.t c.loop-t.invariant.1 c.loop-t-test.true, c.requires.once, c.requires.room, c.loop-t.invariant.0.same_length)

pub overflow_add-t : goal.overflow_add-t
overflow_add-t c =
    omega (arith, runs_fit c.requires c.loop-t.v c.loop-t.t c.loop-t.invariant.2, round-ends c.requires c.loop-t.t c.loop-t.invariant.1 c.loop-t-test.true, c.requires.once, c.requires.room, c.loop-t.invariant.0.same_length)

pub put_run-requires-in-loop-t : goal.put_run-requires-in-loop-t
put_run-requires-in-loop-t c =
    omega (arith, runs_fit c.requires c.loop-t.v c.loop-t.t c.loop-t.invariant.2, round-ends c.requires c.loop-t.t c.loop-t.invariant.1 c.loop-t-test.true, c.requires.once, c.requires.room, c.loop-t.invariant.0.same_length)

pub overflow_add-t-in-loop-t : goal.overflow_add-t-in-loop-t
overflow_add-t-in-loop-t c =
    omega (arith, runs_fit c.requires c.loop-t.v c.loop-t.t c.loop-t.invariant.2, round-ends c.requires c.loop-t.t c.loop-t.invariant.1 c.loop-t-test.true, c.requires.once, c.requires.room, c.loop-t.invariant.0.same_length)

pub overflow_add-t-in-loop-t-2 : goal.overflow_add-t-in-loop-t-2
overflow_add-t-in-loop-t-2 c =
    omega (arith, runs_fit c.requires c.loop-t.v c.loop-t.t c.loop-t.invariant.2, round-ends c.requires c.loop-t.t c.loop-t.invariant.1 c.loop-t-test.true, c.requires.once, c.requires.room, c.loop-t.invariant.0.same_length)

pub overflow_sub-round : goal.overflow_sub-round
overflow_sub-round c =
    omega (arith, runs_fit c.requires c.loop-t.v c.loop-t.t c.loop-t.invariant.2)

pub overflow_sub-round-in-loop-t : goal.overflow_sub-round-in-loop-t
overflow_sub-round-in-loop-t c =
    omega (arith, runs_fit c.requires c.loop-t.v c.loop-t.t c.loop-t.invariant.2)

pub put_run-requires-in-loop-t-2 : goal.put_run-requires-in-loop-t-2
put_run-requires-in-loop-t-2 c =
    omega (arith, runs_fit c.requires c.loop-t.v c.loop-t.t c.loop-t.invariant.2, round-ends c.requires c.loop-t.t c.loop-t.invariant.1 c.loop-t-test.true, c.requires.once, c.requires.room, c.loop-t.invariant.0.same_length)

pub next_digit-v-requires : goal.next_digit-v-requires
next_digit-v-requires c =
    step-asks c.requires c.loop-t.v c.loop-t.t c.loop-t.invariant.2

pub overflow_add-t-in-loop-t-3 : goal.overflow_add-t-in-loop-t-3
overflow_add-t-in-loop-t-3 c =
    omega (arith, round-ends c.requires c.loop-t.t c.loop-t.invariant.1 c.loop-t-test.true, c.requires.once, c.requires.room, c.loop-t.invariant.0.same_length)

pub loop-t-smaller : goal.loop-t-smaller
loop-t-smaller c =
    omega (arith, round1 c.requires, c.loop-t-test.true)

pub loop-t-preserved : goal.loop-t-preserved
loop-t-preserved c = (
  round-more c.requires c.args.less c.args.same c.args.more c.loop-t.t c.loop-t.v.port c.args.cells.now _ _ _ _ (omega (arith, c.requires.once, c.requires.room)) c.loop-t.invariant.1 c.loop-t-test.true c.loop-t.invariant.2.port-is c.loop-t.invariant.0 c.put_run.ensures c.put_run-in-loop-t.ensures c.put_run-in-loop-t-2.ensures,
  add-mod_right c.loop-t.t (c.args.ports * c.args.other) ∙ c.loop-t.invariant.1,
  rw (add-div_right c.loop-t.t (round1 c.requires)) (c.next_digit-v.ensures (c.loop-t.t / (c.args.ports * c.args.other)) c.loop-t.invariant.2),
)

pub repeat_first-requires : goal.repeat_first-requires
repeat_first-requires c =
    (omega (arith, period1 c.requires), c.requires.once, omega (arith, c.requires.room, c.loop-t.invariant.0.same_length))

pub returns : goal.returns
returns c =
    repeated-is (λ i. by_order c.args.less c.args.same c.args.more (digit_at c.args.ports c.args.other i) (digit_at c.args.ports c.args.block i)) _ _ _ _ _ (done _ _ _ _ _ _ c.loop-t.invariant.0 c.loop-t-test.false ∙ from_first _ _ _) c.repeat_first.ensures (omega (arith, period1 c.requires)) c.requires.once
    (λ t _. both-again c.requires c.args.less c.args.same c.args.more t)
