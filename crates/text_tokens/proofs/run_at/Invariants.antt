use Rattle.std.proofs.Common.{◌≡◌, ◌≤◌, ◌-◌, length}
use Rattle.text_tokens.specs.Tokens.{run_at}
use Rattle.text_tokens.proofs.run_at.Given as goal

abbrev pub invariant-loop-b : goal.invariant-loop-b
invariant-loop-b l = (l.run.value ≤ 65) × (run_at l.text l.run.end l.run.value ≡ run_at l.text l.at 0)

abbrev pub decreases-loop-b : goal.decreases-loop-b
decreases-loop-b l = length l.text - l.run.end
