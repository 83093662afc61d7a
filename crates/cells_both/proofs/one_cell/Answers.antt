use Rattle.std.proofs.Common.{sym, refl, ◌∙◌}
use Rattle.cells_flip.proofs.Flipping.{node-low}
use Rattle.cells_both.proofs.Decided.{zero-ready, zero-gives}
use Rattle.cells_both.proofs.Tuples.{first_alone}
use Rattle.cells_both.proofs.one_cell.Goals as goal

pub uses_at-requires : goal.uses_at-requires
uses_at-requires c =
    node-low _ _ _ _ _ _ _ _ _ _ _ _ _ c.requires

pub zero_below-requires : goal.zero_below-requires
zero_below-requires c =
    zero-ready _ _ _ _ _ _ _ _ _ _ _ c.requires

pub returns-then-zero_below : goal.returns-then-zero_below
returns-then-zero_below c =
    zero-gives _ _ _ _ _ _ _ _ _ _ _ _ _ c.uses_at.ensures (sym c.meet.ensures ∙ c.if-meet.true) c.zero_below.ensures c.if-zero_below.true

pub returns : goal.returns
returns c =
    first_alone _ _ _ _ _ _ _ _ _ _ _ _ _ c.flip_row.ensures refl
