use Rattle.std.proofs.Common.{refl}
use Rattle.std.proofs.Common.{◌-◌, arith}
use borrow.Author.Tests.{not-true, not-false}
use Rattle.cells_share.proofs.Sharing.{node-low, gives_none, whole_ready, whole-gives, level-low, level-falls, place-fits, port-asks, port-ready, ports-begun, ports-more, ports-done}
use Rattle.cells_share.proofs.+share_over.Goals as goal

pub touched_at-requires : goal.touched_at-requires
touched_at-requires t c =
    node-low _ _ _ _ _ _ _ _ _ _ _ _ _ _ _ c.requires

pub returns-then-not-touched_at : goal.returns-then-not-touched_at
returns-then-not-touched_at t c =
    gives_none _ _ _ _ _ _ _ _ _ _ _ _ _ _ _ _ c.touched_at.ensures (not-true _ c.if-not-touched_at.true-raw)

pub share_at-requires : goal.share_at-requires
share_at-requires t c =
    whole_ready _ _ _ _ _ _ _ _ _ _ _ _ _ _ _ _ c.requires c.if-level-depth.true c.touched_at.ensures (not-false _ c.if-not-touched_at.false-raw)

pub returns-then-level-depth : goal.returns-then-level-depth
returns-then-level-depth t c =
    whole-gives _ _ _ _ _ _ _ _ _ _ _ _ _ _ _ _ c.if-level-depth.true c.share_at.ensures

pub loop-x-init : goal.loop-x-init
loop-x-init t c =
    (omega arith, ports-begun _ _ _ _ _ _ _ _ _ _ _ _ _ _ _)

pub overflow_add-level : goal.overflow_add-level
overflow_add-level t c =
    let l = level-low _ _ _ _ _ _ _ _ _ _ _ _ _ _ _ c.requires c.if-level-depth.false in omega (arith, l)

pub overflow_mul-place : goal.overflow_mul-place
overflow_mul-place t c =
    let l = place-fits _ _ _ _ _ _ _ _ _ _ _ _ _ _ _ c.requires c.if-level-depth.false in omega (arith, l)

pub overflow_add-place : goal.overflow_add-place
overflow_add-place t c =
    let l = place-fits _ _ _ _ _ _ _ _ _ _ _ _ _ _ _ c.requires c.if-level-depth.false in omega (arith, l, c.loop-x-test.true, c.requires.ready.masks-settled.ports64)

pub with_port-requires : goal.with_port-requires
with_port-requires t c =
    port-asks _ _ _ _ _ _ _ _ _ _ _ _ _ _ _ c.requires c.if-level-depth.false _ c.loop-x-test.true

pub share_over-more-requires : goal.share_over-more-requires
share_over-more-requires t c =
    (omega (arith, c.decreases, level-falls _ _ _ _ _ _ _ _ _ _ _ _ _ _ _ c.requires c.if-level-depth.false), port-ready _ _ _ _ _ _ _ _ _ _ _ _ _ _ _ c.requires c.if-level-depth.false _ _ _ c.loop-x-test.true c.with_port.ensures c.port_word.ensures)

pub loop-x-preserved : goal.loop-x-preserved
loop-x-preserved t c =
    (omega (arith, c.loop-x-test.true), ports-more _ _ _ _ _ _ _ _ _ _ _ _ _ _ _ (level-low _ _ _ _ _ _ _ _ _ _ _ _ _ _ _ c.requires c.if-level-depth.false) _ _ _ _ _ _ c.loop-x-test.true c.with_port.ensures c.port_word.ensures c.loop-x.invariant.1 c.share_over-more.ensures refl)

pub returns : goal.returns
returns t c =
    ports-done _ _ _ _ _ _ _ _ _ _ _ _ _ _ _ c.requires c.if-level-depth.false _ _ c.loop-x-test.false c.loop-x.invariant.0 c.loop-x.invariant.1
