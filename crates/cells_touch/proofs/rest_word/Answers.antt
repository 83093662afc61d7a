use Rattle.cells_touch.specs.inner.Hits.{rest_word}
use Rattle.cells_touch.proofs.rest_word.Goals as goal

pub returns : goal.returns
unfolding rest_word
returns c =
    cc
