use borrow.Author.Rules.{rules}
use Rattle.contracts.specs.Journal.{most_records, count_past}
use Rattle.journal_rules.proofs.cells_lent.Goals as goal

pub returns-then-count-gt-MOST : goal.returns-then-count-gt-MOST
unfolding count_past most_records
returns-then-count-gt-MOST c =
    search rules

pub returns-else-count-gt-MOST : goal.returns-else-count-gt-MOST
unfolding count_past most_records
returns-else-count-gt-MOST c =
    search rules
