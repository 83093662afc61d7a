use Rattle.std.proofs.Common.{◌≡◌, ◌-◌, ◌≤◌}
use Rattle.cells_both.specs.inner.Steps.{left_of}
use Rattle.cells_both.proofs.tested_all.Given as goal

abbrev pub invariant-loop-level : goal.invariant-loop-level
invariant-loop-level l = (l.level ≤ l.depth) × (l.left ≤ l.depth - l.level) × (l.left ≡ left_of l.used l.members l.level (l.depth - l.level))
