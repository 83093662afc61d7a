use borrow.Author.Rules.{rules}
use Rattle.journal_rules.specs.inner.Counting.{place_of}
use Rattle.journal_rules.proofs.record_place.Goals as goal

pub returns-then-before-after : goal.returns-then-before-after
unfolding place_of
returns-then-before-after c =
    search rules

pub returns-else-before-after : goal.returns-else-before-after
unfolding place_of
returns-else-before-after c =
    search rules
