use Rattle.std.proofs.Common.{refl}
use Rattle.cells_sum.proofs.Sums.{joined_sum, joined_least}
use Rattle.cells_sum.proofs.join.Goals as goal

pub returns-then-add : goal.returns-then-add
returns-then-add c =
    joined_sum _ _ _ _ c.if-add.true c.with_difference.ensures refl

pub returns-else-add : goal.returns-else-add
returns-else-add c =
    joined_least _ _ _ _ c.if-add.false c.min.ensures refl
