use borrow.Author.Rules.{rules}
use Rattle.contracts.specs.Counting.{count_refused, count_accepted, count_values}
use Rattle.answers.proofs.count_fields.Goals as goal

pub returns-in-Ok : goal.returns-in-Ok
unfolding count_refused count_accepted count_values
returns-in-Ok c =
    search rules

pub returns-in-Err : goal.returns-in-Err
unfolding count_refused count_accepted count_values
returns-in-Err c =
    search rules
