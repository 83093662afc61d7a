use mathlib.Core.Bool.{false≢true}
use Rattle.cells_flip.proofs.is_done.Goals as goal

pub returns-then-add : goal.returns-then-add
returns-then-add c =
    λ h. absurd (false≢true h)

pub is_zero-requires : goal.is_zero-requires
is_zero-requires c =
    c.requires

pub returns : goal.returns
returns c =
    λ h. (c.if-add.false, c.is_zero.ensures h)
