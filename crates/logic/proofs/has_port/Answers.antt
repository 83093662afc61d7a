use mathlib.Core.Path.{refl}
use Rattle.logic.specs.Configuration.{in_mask}
use Rattle.logic.proofs.has_port.Goals as goal

pub returns : goal.returns
unfolding in_mask
returns c = refl
