use mathlib.Core.Path.{refl}
use Rattle.cells_touch.specs.inner.Hits.{meets}
use Rattle.cells_touch.proofs.meet.Goals as goal

pub returns : goal.returns
unfolding meets
returns c =
    refl
