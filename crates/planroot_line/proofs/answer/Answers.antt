use Rattle.planroot_line.proofs.Finishing.{answer-shown}
use Rattle.planroot_line.proofs.answer.Goals as goal

pub returns : goal.returns
returns c =
    answer-shown _ _ _ _ _ _ _ c.finish.ensures c.put_line.ensures
