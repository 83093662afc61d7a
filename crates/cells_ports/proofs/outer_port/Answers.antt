use mathlib.Core.Path.{sym, ◌∙◌}
use native.Mathlib.Omega.{arith}
use Rattle.logic.specs.Change.{modulus}
use Rattle.cells_ports.proofs.Steps.{ports-low, node-low, again, port-low, outer-tested, outer-untested, outer-inside}
use Rattle.cells_ports.proofs.outer_port.Goals as goal

pub uses_at-requires : goal.uses_at-requires
uses_at-requires c =
    node-low _ _ _ _ _ _ _ _ _ _ _ _ _ _ _ c.requires.0.ready

pub port_row-requires : goal.port_row-requires
port_row-requires c =
    (again _ _ _ _ _ _ _ _ _ _ _ _ _ _ _ c.requires.0.ready _ (omega (arith, ports-low _ _ _ _ _ _ _ _ _ _ _ _ _ _ _ c.requires.0.ready)), port-low _ _ _ _ _ _ _ _ _ _ _ _ _ _ _ c.requires.0.ready _ _ c.if-variable-depth.true (c.wide-x.ensures.0 ∙ c.port_at.ensures.0))

pub gather_row-requires : goal.gather_row-requires
gather_row-requires c =
    (omega (arith, ports-low _ _ _ _ _ _ _ _ _ _ _ _ _ _ _ c.requires.0.ready, c.port_row.auto), c.requires.0.base-room)

pub put_port-requires : goal.put_port-requires
put_port-requires c =
    omega (arith, port-low _ _ _ _ _ _ _ _ _ _ _ _ _ _ _ c.requires.0.ready _ _ c.if-variable-depth.true (c.wide-x.ensures.0 ∙ c.port_at.ensures.0), c.requires.0.ready.room)

pub returns-then-meet : goal.returns-then-meet
unfolding modulus
returns-then-meet c =
    outer-tested _ _ _ _ _ _ _ _ _ _ _ _ _ _ _ _ c.requires.0 _ _ _ _ (c.wide-x.ensures.0 ∙ c.port_at.ensures.0) c.port_levels.ensures c.uses_at.ensures c.args.start _ _ _ c.if-variable-depth.true (sym c.meet.ensures ∙ c.if-meet.true) (omega (arith, c.ranges.start)) c.port_row.ensures c.gather_row.ensures c.put_port.ensures

pub returns-else-meet : goal.returns-else-meet
returns-else-meet c =
    outer-untested _ _ _ _ _ _ _ _ _ _ _ _ _ _ _ _ c.requires.0 _ _ _ _ (c.wide-x.ensures.0 ∙ c.port_at.ensures.0) c.port_levels.ensures c.uses_at.ensures _ (sym c.meet.ensures ∙ c.if-meet.false)

pub returns-else-variable-depth : goal.returns-else-variable-depth
returns-else-variable-depth c =
    outer-inside _ _ _ _ _ _ _ _ _ _ _ _ _ _ _ _ c.requires.0 _ _ c.if-variable-depth.false
