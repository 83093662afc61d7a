use mathlib.Core.Path.{◌≡◌, sym, ap, ◌∙◌}
use mathlib.Core.Bool.{cond}
use Prim.Native.Nat.{ℕ, ◌+◌, ◌*◌, ◌<◌}
use native.Mathlib.Nat.{suc-mul}
use native.Mathlib.Omega.{arith}
use Rattle.logic.specs.Configuration.{in_mask}
use Rattle.cells_runs.specs.inner.Ports.{digit_at}
use Rattle.logic.proofs.Written.{start, from_first}
use Rattle.cells_runs.proofs.Runs.{run_more}
use Rattle.cells_runs.proofs.Rounds.{round-fits, round-port, round-all, round-end}
use Rattle.cells_members.proofs.put_round.Goals as goal

pub put_row-requires : goal.put_row-requires
put_row-requires c =
    rw c.if-block-eq1.true at c.requires

pub returns-then-block-eq1 : goal.returns-then-block-eq1
returns-then-block-eq1 c =
    rw c.if-block-eq1.true c.put_row.ensures

pub loop-port-init : goal.loop-port-init
loop-port-init c =
    (start _ _ _ _, omega arith)

pub returns-then-t-width : goal.returns-then-t-width
returns-then-t-width c =
    (round-all _ _ _ c.loop-port.t c.if-t-width.true, c.loop-port.invariant.0.is ∙ from_first _ _ _)

pub put_run-requires : goal.put_run-requires
put_run-requires c =
    let n : c.loop-port.t < c.args.width = omega (arith, c.loop-port.invariant.0.within) in
    omega (arith, round-fits c.requires c.loop-port.port c.loop-port.t c.loop-port.invariant.1 n, c.requires.room, c.loop-port.invariant.0.same_length)

pub overflow_add-t : goal.overflow_add-t
overflow_add-t c =
    let n : c.loop-port.t < c.args.width = omega (arith, c.loop-port.invariant.0.within) in
    omega (arith, round-fits c.requires c.loop-port.port c.loop-port.t c.loop-port.invariant.1 n, c.requires.room, c.loop-port.invariant.0.same_length)

pub loop-port-preserved : goal.loop-port-preserved
loop-port-preserved c =
    let n : c.loop-port.t < c.args.width = omega (arith, c.loop-port.invariant.0.within) in (
      run_more _ _ _ _ _ _ _ _ c.loop-port.invariant.0 (round-fits c.requires c.loop-port.port c.loop-port.t c.loop-port.invariant.1 n) c.requires.room
          (λ i l. c.member_penalty.ensures ∙ ap (λ (x : ℕ). cond (in_mask c.args.mask x) c.args.inside c.args.outside) (round-port c.args.ports c.args.block c.loop-port.port i c.loop-port-test.true l ∙ ap (λ (x : ℕ). digit_at c.args.ports c.args.block (x + i)) (sym c.loop-port.invariant.1)))
          c.put_run.ensures,
      omega (arith, c.loop-port.invariant.1, suc-mul c.loop-port.port c.args.block),
    )

pub returns : goal.returns
returns c =
    let p : c.loop-port.port ≡ c.args.ports = omega arith in
    (round-end c.requires c.loop-port.t (c.loop-port.invariant.1 ∙ ap (λ (x : ℕ). x * c.args.block) p) c.loop-port.invariant.0.within, c.loop-port.invariant.0.is ∙ from_first _ _ _)
