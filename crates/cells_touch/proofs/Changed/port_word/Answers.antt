use Rattle.cells_touch.specs.inner.Hits.{port_word}
use Rattle.cells_touch.proofs.Changed.port_word.Goals as goal

pub returns : goal.returns
unfolding port_word
returns c =
    cc
