use Rattle.cells_both.proofs.Tuples.{both-begins, both-low, both-all}
use Rattle.cells_both.proofs.both_ports.Goals as goal

pub uses_at-requires : goal.uses_at-requires
uses_at-requires c =
    (both-low _ _ _ _ _ _ _ _ _ _ _ _ _ _ c.requires).0

pub tested_all-requires : goal.tested_all-requires
tested_all-requires c =
    (both-low _ _ _ _ _ _ _ _ _ _ _ _ _ _ c.requires).1

pub both_from-requires : goal.both_from-requires
both_from-requires c =
    both-begins _ _ _ _ _ _ _ _ _ _ _ _ _ _ _ _ c.uses_at.ensures c.tested_all.ensures c.requires

pub returns : goal.returns
returns c =
    both-all _ _ _ _ _ _ _ _ _ _ _ _ _ _ _ c.both_from.ensures
