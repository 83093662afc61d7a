use mathlib.Core.Path.{refl}
use Rattle.move_tables.proofs.Crossing.{crossed-so}
use Rattle.move_tables.proofs.crossings.Goals as goal

pub returns : goal.returns
returns c = crossed-so _ _ _ refl refl
