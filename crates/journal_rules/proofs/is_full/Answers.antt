use borrow.Author.Rules.{rules}
use Rattle.contracts.specs.Journal.{most_records, full}
use Rattle.journal_rules.proofs.is_full.Goals as goal

pub returns-then-room-count : goal.returns-then-room-count
unfolding full most_records
returns-then-room-count c =
    search rules

pub returns-else-room-count : goal.returns-else-room-count
unfolding full most_records
returns-else-room-count c =
    search rules
