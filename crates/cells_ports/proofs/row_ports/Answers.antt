use mathlib.Core.Path.{sym, ap, ◌∙◌}
use Prim.Native.Nat.{ℕ}
use native.Mathlib.Omega.{arith}
use borrow.Author.Tests.{not-true}
use Rattle.cells_touch.specs.inner.Hits.{meets}
use Rattle.cells_ports.proofs.Steps.{ports-low, depth_low, flip-ready, node-low, place-ready, from_low, old-room}
use Rattle.cells_ports.proofs.Adding.{kept_gives, row-resized, row-kept}
use Rattle.cells_ports.proofs.row_ports.Goals as goal

pub place_at-requires : goal.place_at-requires
place_at-requires c =
    place-ready _ _ _ _ _ _ _ _ _ _ _ _ _ _ _ c.requires

pub cells_from-old-requires : goal.cells_from-old-requires
cells_from-old-requires c =
    from_low _ _ _ _ _ _ _ _ _ _ _ _ _ _ _ c.requires _ c.place_at.ensures

pub uses_at-requires : goal.uses_at-requires
uses_at-requires c =
    node-low _ _ _ _ _ _ _ _ _ _ _ _ _ _ _ c.requires

pub add_ports-requires : goal.add_ports-requires
add_ports-requires c =
    record { ready = c.requires; base-room = old-room _ _ _ _ _ _ _ _ _ _ _ _ _ _ _ c.requires _ _ c.place_at.ensures c.cells_from-old.ensures; base-are = kept_gives _ _ _ _ _ _ _ _ _ _ _ _ c.args.members _ _ _ c.place_at.ensures c.cells_from-old.ensures (ap (λ (y : ℕ). meets y c.args.resized) (sym c.uses_at.ensures) ∙ sym c.meet.ensures ∙ not-true _ c.if-not-meet.true-raw) }

pub returns-then-not-meet : goal.returns-then-not-meet
returns-then-not-meet c =
    row-kept _ _ _ _ _ _ _ _ _ _ _ _ _ _ _ _ c.place_at.ensures c.cells_from-old.ensures _ _ c.add_ports.ensures (ap (λ (y : ℕ). meets y c.args.resized) (sym c.uses_at.ensures) ∙ sym c.meet.ensures ∙ not-true _ c.if-not-meet.true-raw)

pub overflow_cast-depth : goal.overflow_cast-depth
overflow_cast-depth c =
    omega (arith, depth_low _ _ _ _ _ _ _ _ _ _ _ _ _ _ _ c.requires)

pub flip_row-requires : goal.flip_row-requires
flip_row-requires c =
    flip-ready _ _ _ _ _ _ _ _ _ _ _ _ _ _ _ c.requires _ (omega (arith, ports-low _ _ _ _ _ _ _ _ _ _ _ _ _ _ _ c.requires))

pub add_ports-requires-2 : goal.add_ports-requires-2
add_ports-requires-2 c =
    record { ready = c.requires; base-room = omega (arith, ports-low _ _ _ _ _ _ _ _ _ _ _ _ _ _ _ c.requires, c.flip_row.auto); base-are = c.flip_row.ensures }

pub gather_row-requires : goal.gather_row-requires
gather_row-requires c =
    (omega (arith, ports-low _ _ _ _ _ _ _ _ _ _ _ _ _ _ _ c.requires, c.flip_row.auto), old-room _ _ _ _ _ _ _ _ _ _ _ _ _ _ _ c.requires _ _ c.place_at.ensures c.cells_from-old.ensures)

pub returns : goal.returns
returns c =
    row-resized _ _ _ _ _ _ _ _ _ _ _ _ _ _ _ _ c.place_at.ensures c.cells_from-old.ensures _ _ c.add_ports-2.ensures _ c.flip_row.ensures _ c.gather_row.ensures
