use Prim.Native.Nat.{◌-◌, ◌≤◌}
use Rattle.move_tables.specs.inner.Taking.{NoneBinds}
use Rattle.move_tables.proofs.is_flat.Given as goal

abbrev pub invariant-loop-j : goal.invariant-loop-j
invariant-loop-j l = (l.i ≤ l.j) × NoneBinds l.plan.table.now l.i l.j
