use mathlib.Core.Path.{refl}
use Rattle.call_numbers.specs.Encoding.{move_of}
use Rattle.call_numbers.proofs.move_of.Goals as goal

pub returns : goal.returns
unfolding move_of
returns c =
    refl
