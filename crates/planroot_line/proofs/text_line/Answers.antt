use Rattle.planroot_line.proofs.Answers.{read-sets, text-refused, text-read}
use Rattle.planroot_line.proofs.text_line.Goals as goal

pub plan_line-requires : goal.plan_line-requires
plan_line-requires c =
    record { masks-room = c.requires.masks-room; table-room = rw c.read.auto.table c.requires.table-room; few-sets = read-sets _ _ _ _ _ _ c.read.ensures c.in-Ok.is }

pub returns-in-Ok : goal.returns-in-Ok
returns-in-Ok c =
    text-read _ _ _ _ _ _ _ _ c.read.ensures _ _ c.in-Ok.is c.plan_line.ensures

pub returns-in-Err : goal.returns-in-Err
returns-in-Err c =
    text-refused _ _ _ _ _ _ _ _ c.read.ensures _ _ c.in-Err.is c.number.ensures
