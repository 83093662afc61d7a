use borrow.Author.Rules.{rules}
use Rattle.contracts.specs.ImproveCall.{improve_refused, improve_made, no_better, improve_values}
use Rattle.journal_rules.proofs.chosen_of.Goals as goal

pub returns-in-Ok-Made : goal.returns-in-Ok-Made
unfolding improve_made improve_values
returns-in-Ok-Made c =
    search rules

pub returns-in_default : goal.returns-in_default
unfolding improve_refused no_better improve_values
returns-in_default c =
    search rules
