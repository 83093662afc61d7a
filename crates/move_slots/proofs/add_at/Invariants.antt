use Rattle.std.proofs.Common.{◌+◌, ◌-◌, ◌≤◌, length}
use Rattle.logic.proofs.Written.{Written}
use Rattle.move_slots.proofs.Adding.{added}
use Rattle.move_slots.proofs.add_at.Given as goal

abbrev pub invariant-loop-x : goal.invariant-loop-x
invariant-loop-x l = Written (added l.row l.at l.initial.table) l.at l.ports l.initial.table l.table l.x × (l.ports ≤ length l.row) × (l.at + l.ports ≤ length l.initial.table)
