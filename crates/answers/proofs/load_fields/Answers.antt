use borrow.Author.Rules.{rules}
use Rattle.contracts.specs.Load.{load_refused, load_values}
use Rattle.answers.proofs.load_fields.Goals as goal

pub returns-in-Ok : goal.returns-in-Ok
unfolding load_refused load_values
returns-in-Ok c =
    search rules

pub returns-in-Err : goal.returns-in-Err
unfolding load_refused load_values
returns-in-Err c =
    search rules
