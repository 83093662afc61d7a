use Rattle.std.proofs.Common.{refl}
use Rattle.std.proofs.Common.{◌-◌, sym, ◌∙◌, arith}
use Rattle.cells_both.proofs.Tuples.{node-low, depth_low, ports-low, place-low, digits_low, ready-whole, gives_whole, met, left-low, from_more, port-gives, ports-none, ports-next, ports-done, ports-all, ports-two, from-none}
use Rattle.cells_both.proofs.+both.Goals as goal

pub both_from-uses_at-used-requires : goal.both_from-uses_at-used-requires
both_from-uses_at-used-requires t c =
    node-low _ _ _ _ _ _ _ _ _ _ _ _ _ _ _ _ _ _ _ _ c.requires

pub both_from-returns-then-left-lacking : goal.both_from-returns-then-left-lacking
both_from-returns-then-left-lacking t c =
    from-none _ _ _ _ _ _ _ _ _ _ _ _ _ _ _ _ _ _ _ _ _ c.uses_at-used.ensures c.requires (omega (arith, c.if-left-lacking.true, c.missing-lacking.ensures))

pub both_from-both_cell-requires : goal.both_from-both_cell-requires
both_from-both_cell-requires t c =
    ready-whole _ _ _ _ _ _ _ _ _ _ _ _ _ _ _ _ _ _ _ _ c.if-level-depth.true c.requires

pub both_from-returns-then-level-depth : goal.both_from-returns-then-level-depth
both_from-returns-then-level-depth t c =
    gives_whole _ _ _ _ _ _ _ _ _ _ _ _ _ _ _ _ _ _ _ _ (sym c.if-level-depth.true) c.both_cell.ensures

pub both_from-port_from-by_p-requires : goal.both_from-port_from-by_p-requires
both_from-port_from-by_p-requires t c =
    (omega (arith, c.decreases), (c.requires, omega (arith, c.if-level-depth.false, c.requires.within), c.requires.ready.p-low))

pub both_from-port_from-by_q-requires : goal.both_from-port_from-by_q-requires
both_from-port_from-by_q-requires t c =
    (omega (arith, c.decreases), (c.requires, omega (arith, c.if-level-depth.false, c.requires.within), c.requires.ready.q-low))

pub both_from-returns-then-meet : goal.both_from-returns-then-meet
both_from-returns-then-meet t c =
    ports-two _ _ _ _ _ _ _ _ _ _ _ _ _ _ _ _ _ _ _ (omega (arith, c.if-level-depth.false, c.requires.within)) _ _ _ _ _ c.uses_at-used.ensures (met _ _ _ _ c.level_of.ensures (sym c.meet.ensures ∙ c.if-meet.true)) c.requires (omega (arith, c.if-left-lacking-2.true, c.missing-lacking.ensures)) c.port_from-by_p.ensures c.port_from-by_q.ensures refl

pub both_from-ports_from-requires : goal.both_from-ports_from-requires
both_from-ports_from-requires t c =
    (omega (arith, c.decreases), (c.requires, omega (arith, c.if-level-depth.false, c.requires.within)))

pub both_from-returns : goal.both_from-returns
both_from-returns t c =
    ports-all _ _ _ _ _ _ _ _ _ _ _ _ _ _ _ _ _ _ _ (omega (arith, c.if-level-depth.false, c.requires.within)) _ c.ports_from.ensures

pub port_from-overflow_add-level : goal.port_from-overflow_add-level
port_from-overflow_add-level t c =
    omega (arith, depth_low _ _ _ _ _ _ _ _ _ _ _ _ _ _ _ _ _ _ _ _ c.requires.0, c.requires.1)

pub port_from-next_place-requires : goal.port_from-next_place-requires
port_from-next_place-requires t c =
    (place-low _ _ _ _ _ _ _ _ _ _ _ _ _ _ _ _ _ _ _ _ c.requires.0, ports-low _ _ _ _ _ _ _ _ _ _ _ _ _ _ _ _ _ _ _ _ c.requires.0, c.requires.2)

pub port_from-with_port-requires : goal.port_from-with_port-requires
port_from-with_port-requires t c =
    digits_low _ _ _ _ _ _ _ _ _ _ _ _ _ _ _ _ _ _ _ _ c.requires.0 _ c.requires.1 c.requires.2

pub port_from-uses_at-requires : goal.port_from-uses_at-requires
port_from-uses_at-requires t c =
    node-low _ _ _ _ _ _ _ _ _ _ _ _ _ _ _ _ _ _ _ _ c.requires.0

pub port_from-overflow_sub-left : goal.port_from-overflow_sub-left
port_from-overflow_sub-left t c =
    left-low _ _ _ _ _ _ _ _ _ _ _ _ _ _ _ _ _ _ _ _ _ _ c.uses_at.ensures c.tested.ensures c.requires.1 c.requires.0

pub port_from-both_from-requires : goal.port_from-both_from-requires
port_from-both_from-requires t c =
    (omega (arith, c.decreases, c.requires.1), from_more _ _ _ _ _ _ _ _ _ _ _ _ _ _ _ _ _ _ _ _ _ _ _ _ c.requires.2 c.requires.1 (depth_low _ _ _ _ _ _ _ _ _ _ _ _ _ _ _ _ _ _ _ _ c.requires.0) c.next_place.ensures c.with_port.ensures c.held_word.ensures c.held_word-2.ensures _ _ _ c.uses_at.ensures c.tested.ensures c.requires.0)

pub port_from-returns : goal.port_from-returns
port_from-returns t c =
    port-gives _ _ _ _ _ _ _ _ _ _ _ _ _ _ _ _ _ _ _ _ _ _ _ _ c.requires.2 c.requires.1 (depth_low _ _ _ _ _ _ _ _ _ _ _ _ _ _ _ _ _ _ _ _ c.requires.0) c.next_place.ensures c.with_port.ensures c.held_word.ensures c.held_word-2.ensures _ c.both_from.ensures

pub ports_from-loop-x-init : goal.ports_from-loop-x-init
ports_from-loop-x-init t c =
    (omega arith, ports-none _ _ _ _ _ _ _ _ _ _ _ _ _ _ _ _ _ _ _)

pub ports_from-port_from-more-requires : goal.ports_from-port_from-more-requires
ports_from-port_from-more-requires t c =
    (omega (arith, c.decreases), (c.requires.0, c.requires.1, c.loop-x-test.true))

pub ports_from-loop-x-preserved : goal.ports_from-loop-x-preserved
ports_from-loop-x-preserved t c =
    (omega arith, ports-next _ _ _ _ _ _ _ _ _ _ _ _ _ _ _ _ _ _ _ _ _ _ _ c.loop-x.invariant.1 c.port_from-more.ensures refl)

pub ports_from-returns : goal.ports_from-returns
ports_from-returns t c =
    ports-done _ _ _ _ _ _ _ _ _ _ _ _ _ _ _ _ _ _ _ _ _ (omega arith) c.loop-x.invariant.1
