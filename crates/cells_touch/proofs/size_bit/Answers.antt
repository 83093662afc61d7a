use Rattle.cells_touch.specs.inner.Hits.{size_bit}
use Rattle.cells_touch.proofs.size_bit.Goals as goal

pub returns : goal.returns
unfolding size_bit
returns c =
    cc
