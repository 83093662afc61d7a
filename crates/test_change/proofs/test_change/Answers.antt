use mathlib.Core.Path.{refl}
use Rattle.test_change.proofs.Telling.{tells-test}
use Rattle.test_change.proofs.test_change.Goals as goal

pub returns : goal.returns
returns c =
    tells-test _ _ _ _ _ refl c.size_bits.ensures
