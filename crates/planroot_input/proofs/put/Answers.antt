use Rattle.planroot_input.proofs.Gathering.{placed-low, placed-high}
use Rattle.planroot_input.proofs.put.Goals as goal

pub returns-then-n : goal.returns-then-n
returns-then-n g c =
    placed-low _ _ _ _ c.if-n.true

pub returns-else-n : goal.returns-else-n
returns-else-n g c =
    placed-high _ _ _ _ c.if-n.false
