use Rattle.planroot_line.proofs.Answers.{line-accepted, line_refused}
use Rattle.planroot_line.proofs.load_line.Goals as goal

pub returns-in-Ok : goal.returns-in-Ok
returns-in-Ok c =
    line-accepted _ _ c.in-Ok.is

pub returns-in-Err : goal.returns-in-Err
returns-in-Err c =
    line_refused _ _ _ c.in-Err.is c.number.ensures
