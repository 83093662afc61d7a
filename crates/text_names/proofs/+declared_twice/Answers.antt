use Rattle.text_names.proofs.Finding.{twice-none, twice-step}
use Rattle.text_names.proofs.+declared_twice.Goals as goal

pub returns-in-empty : goal.returns-in-empty
returns-in-empty t c =
    twice-none _ c.in-empty.len_below

pub returns-then-contains : goal.returns-then-contains
returns-then-contains t c =
    rw (twice-step _ _ c.in-len1-up.len_at_least c.contains.ensures.value, c.if-contains.true)

pub returns-else-contains : goal.returns-else-contains
returns-else-contains t c =
    rw (twice-step _ _ c.in-len1-up.len_at_least c.contains.ensures.value, c.if-contains.false) c.declared_twice.ensures
