use Rattle.logic.proofs.Refusals.{number-is}
use Rattle.logic.proofs.refusal.Refusal.number.Goals as goal

pub returns : goal.returns
returns c =
    number-is c.args.self
