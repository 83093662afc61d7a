use mathlib.Core.Path.{refl}
use Rattle.cells_touch.specs.inner.Hits.{first_word}
use Rattle.cells_touch.proofs.Changed.first_word.Goals as goal

pub returns : goal.returns
unfolding first_word
returns c =
    refl
