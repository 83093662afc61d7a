use mathlib.Core.Path.{sym, ◌∙◌}
use native.Mathlib.Omega.{arith}
use Rattle.logic.specs.Change.{modulus}
use Rattle.cells_ports.proofs.Steps.{ports-low, depth_low, node-low, flip-ready, own-tested, own-untested}
use Rattle.cells_ports.proofs.own_ports.Goals as goal

pub uses_at-requires : goal.uses_at-requires
uses_at-requires c =
    node-low _ _ _ _ _ _ _ _ _ _ _ _ _ _ _ c.requires.ready

pub overflow_cast-depth : goal.overflow_cast-depth
overflow_cast-depth c =
    omega (arith, depth_low _ _ _ _ _ _ _ _ _ _ _ _ _ _ _ c.requires.ready)

pub flip_row-requires : goal.flip_row-requires
flip_row-requires c =
    flip-ready _ _ _ _ _ _ _ _ _ _ _ _ _ _ _ c.requires.ready _ (omega (arith, ports-low _ _ _ _ _ _ _ _ _ _ _ _ _ _ _ c.requires.ready))

pub join_row-requires : goal.join_row-requires
join_row-requires c =
    (omega (arith, ports-low _ _ _ _ _ _ _ _ _ _ _ _ _ _ _ c.requires.ready, c.flip_row.auto), c.requires.base-room, c.requires.ready.room)

pub returns-then-meet : goal.returns-then-meet
unfolding modulus
returns-then-meet c =
    own-tested _ _ _ _ _ _ _ _ _ _ _ _ _ _ _ _ c.requires _ _ c.level_of-own.ensures c.uses_at.ensures (λ z. omega (arith, c.shared_slice_known-3-1.given z)) _ _ c.flip_row.ensures c.join_row.ensures

pub returns-else-meet : goal.returns-else-meet
unfolding modulus
returns-else-meet c =
    own-untested _ _ _ _ _ _ _ _ _ _ _ _ _ _ _ _ c.requires _ _ c.level_of-own.ensures c.uses_at.ensures (λ z. omega (arith, c.shared_slice_known-3-1.given z)) (λ z. omega (arith, c.slice_known-1.given z)) (sym c.meet.ensures ∙ c.if-meet.false)
