use Rattle.planroot_print.proofs.Lines.{penalty-line, refusal-line}
use Rattle.planroot_print.proofs.put_line.Goals as goal

pub returns-in-Penalty : goal.returns-in-Penalty
returns-in-Penalty c =
    penalty-line _ _ _ c.requires _ _ _ c.in-Penalty.is c.put_penalty.ensures

pub returns-in-Refusal : goal.returns-in-Refusal
returns-in-Refusal c =
    refusal-line _ _ _ c.requires _ _ c.in-Refusal.is c.put_refusal.ensures
