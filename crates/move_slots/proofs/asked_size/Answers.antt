use Rattle.std.proofs.Common.{arith}
use Rattle.move_slots.proofs.Asking.{asked-first, asked-same}
use Rattle.move_slots.proofs.asked_size.Goals as goal

pub returns-then-size-eq0 : goal.returns-then-size-eq0
returns-then-size-eq0 c =
    omega (arith, asked-first c.args.size c.args.outcome (omega arith))

pub returns-then-outcome-eq0 : goal.returns-then-outcome-eq0
returns-then-outcome-eq0 c =
    omega (arith, asked-first c.args.size c.args.outcome (omega arith))

pub returns-then-outcome-eq2 : goal.returns-then-outcome-eq2
returns-then-outcome-eq2 c =
    omega (arith, asked-first c.args.size c.args.outcome (omega arith))

pub returns : goal.returns
returns c =
    omega (arith, asked-same c.args.size c.args.outcome (λ e. omega arith) (λ e. omega arith))
