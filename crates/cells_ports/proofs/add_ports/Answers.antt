use mathlib.Core.Path.{refl}
use native.Mathlib.Omega.{arith}
use Rattle.cells_ports.proofs.Steps.{port-low, over-again}
use Rattle.cells_ports.proofs.Adding.{over-all}
use Rattle.cells_ports.proofs.add_ports.Goals as goal

pub start_at-first-requires : goal.start_at-first-requires
start_at-first-requires c =
    (omega arith, λ l. omega (arith, port-low _ _ _ _ _ _ _ _ _ _ _ _ _ _ _ c.requires.ready 0 _ l refl, c.requires.ready.room))

pub start_at-second-requires : goal.start_at-second-requires
start_at-second-requires c =
    (omega arith, λ l. omega (arith, port-low _ _ _ _ _ _ _ _ _ _ _ _ _ _ _ c.requires.ready 1 _ l refl, c.requires.ready.room))

pub own_ports-requires : goal.own_ports-requires
own_ports-requires c =
    c.requires

pub outer_port-requires : goal.outer_port-requires
outer_port-requires c =
    (over-again _ _ _ _ _ _ _ _ _ _ _ _ _ _ _ _ c.requires _ (omega (arith, c.requires.ready.room, c.own_ports.auto)), omega arith)

pub outer_port-requires-2 : goal.outer_port-requires-2
outer_port-requires-2 c =
    (over-again _ _ _ _ _ _ _ _ _ _ _ _ _ _ _ _ c.requires _ (omega (arith, c.requires.ready.room, c.own_ports.auto, c.outer_port.auto)), omega arith)

pub returns : goal.returns
returns c =
    over-all _ _ _ _ _ _ _ _ _ _ _ _ _ _ _ _ _ _ _ _ c.own_ports.ensures c.start_at-first.ensures c.start_at-second.ensures c.outer_port.ensures c.outer_port-2.ensures
