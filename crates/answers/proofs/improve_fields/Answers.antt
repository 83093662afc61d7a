use borrow.Author.Rules.{rules}
use Rattle.contracts.specs.MoveCall.{move_accepted}
use Rattle.contracts.specs.ImproveCall.{improve_refused, improve_made, no_better, improve_values}
use Rattle.answers.proofs.improve_fields.Goals as goal

pub returns-in-Ok-Made : goal.returns-in-Ok-Made
unfolding improve_refused improve_made no_better move_accepted improve_values
returns-in-Ok-Made c =
    search rules

pub returns-in-Ok-NoBetter : goal.returns-in-Ok-NoBetter
unfolding improve_refused improve_made no_better move_accepted improve_values
returns-in-Ok-NoBetter c =
    search rules

pub returns-in-Err : goal.returns-in-Err
unfolding improve_refused improve_made no_better move_accepted improve_values
returns-in-Err c =
    search rules
