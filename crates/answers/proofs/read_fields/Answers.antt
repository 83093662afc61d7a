use borrow.Author.Rules.{rules}
use Rattle.contracts.specs.Read.{read_refused, read_values}
use Rattle.answers.proofs.read_fields.Goals as goal

pub returns-in-Ok : goal.returns-in-Ok
unfolding read_refused read_values
returns-in-Ok c =
    search rules

pub returns-in-Err : goal.returns-in-Err
unfolding read_refused read_values
returns-in-Err c =
    search rules
