use native.Mathlib.Omega.{arith}
use Rattle.call_open.proofs.Opening.{cells-broken, cells-few, cells_open}
use Rattle.call_open.proofs.open_cells.Goals as goal

pub returns-in_default : goal.returns-in_default
returns-in_default c =
    cells-broken _ _ _ _ _ c.in_default.ensures

pub returns-then-shortest-info : goal.returns-then-shortest-info
returns-then-shortest-info c =
    let a = c.in-Some.ensures in cells-few _ _ _ _ _ a.0 a.1 (omega (arith, a.2.cells_are, c.if-shortest-info.true))

pub returns : goal.returns
returns c =
    let a = c.in-Some.ensures in cells_open _ _ _ _ _ a.0 a.1 _ a.2.ports-are a.2.sets-are a.2.nodes-are a.2.cells_are record { firsts₀ = _; ends₀ = _; uses₀ = _; firsts-are = a.2.firsts-are; ends-are = a.2.ends-are; uses-are = a.2.uses-are } (omega (arith, a.2.cells_are, c.if-shortest-info.false))
