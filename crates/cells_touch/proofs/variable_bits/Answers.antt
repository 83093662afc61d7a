use Rattle.cells_touch.specs.inner.Hits.{variable_bits}
use Rattle.cells_touch.proofs.variable_bits.Goals as goal

pub returns : goal.returns
unfolding variable_bits
returns c =
    cc
