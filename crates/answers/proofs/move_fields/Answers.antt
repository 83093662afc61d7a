use borrow.Author.Rules.{rules}
use Rattle.contracts.specs.MoveCall.{move_refused, move_accepted, move_values}
use Rattle.answers.proofs.move_fields.Goals as goal

pub returns-in-Ok : goal.returns-in-Ok
unfolding move_refused move_accepted move_values
returns-in-Ok c =
    search rules

pub returns-in-Err : goal.returns-in-Err
unfolding move_refused move_accepted move_values
returns-in-Err c =
    search rules
