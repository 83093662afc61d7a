use mathlib.Core.Path.{sym, ◌∙◌}
use native.Mathlib.Omega.{arith}
use Rattle.cells_ports.proofs.Steps.{ports-low, depth_low, node-low, flip-ready, both-rows, one-row}
use Rattle.cells_ports.proofs.port_row.Goals as goal

pub overflow_cast-depth : goal.overflow_cast-depth
overflow_cast-depth c =
    omega (arith, depth_low _ _ _ _ _ _ _ _ _ _ _ _ _ _ _ c.requires.0)

pub flip_row-requires : goal.flip_row-requires
flip_row-requires c =
    flip-ready _ _ _ _ _ _ _ _ _ _ _ _ _ _ _ c.requires.0 _ c.requires.0.room

pub uses_at-requires : goal.uses_at-requires
uses_at-requires c =
    node-low _ _ _ _ _ _ _ _ _ _ _ _ _ _ _ c.requires.0

pub overflow_cast-depth-then-meet : goal.overflow_cast-depth-then-meet
overflow_cast-depth-then-meet c =
    omega (arith, depth_low _ _ _ _ _ _ _ _ _ _ _ _ _ _ _ c.requires.0)

pub flip_row-requires-then-meet : goal.flip_row-requires-then-meet
flip_row-requires-then-meet c =
    flip-ready _ _ _ _ _ _ _ _ _ _ _ _ _ _ _ c.requires.0 _ (omega (arith, ports-low _ _ _ _ _ _ _ _ _ _ _ _ _ _ _ c.requires.0))

pub offset_bounds-both-x : goal.offset_bounds-both-x
offset_bounds-both-x c =
    omega (arith, c.requires.1, ports-low _ _ _ _ _ _ _ _ _ _ _ _ _ _ _ c.requires.0)

pub bounds-both-x : goal.bounds-both-x
bounds-both-x c =
    omega (arith, c.requires.1, ports-low _ _ _ _ _ _ _ _ _ _ _ _ _ _ _ c.requires.0)

pub put_port-requires : goal.put_port-requires
put_port-requires c =
    omega (arith, c.requires.1, c.requires.0.room, c.flip_row.auto)

pub returns-then-meet : goal.returns-then-meet
returns-then-meet c =
    both-rows _ _ _ _ _ _ _ _ _ _ _ _ _ _ _ _ _ _ c.port_levels-outer.ensures c.level_of-own.ensures c.uses_at.ensures c.requires.1 _ c.flip_row.ensures _ _ c.flip_row-then-meet.ensures (omega (arith, c.requires.0.room, c.flip_row.auto)) c.put_port.ensures

pub returns-else-meet : goal.returns-else-meet
returns-else-meet c =
    one-row _ _ _ _ _ _ _ _ _ _ _ _ _ _ _ _ _ _ c.port_levels-outer.ensures c.level_of-own.ensures c.uses_at.ensures c.requires.1 _ c.flip_row.ensures (sym c.meet.ensures ∙ c.if-meet.false)
