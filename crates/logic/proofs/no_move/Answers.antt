use mathlib.Core.Path.{refl}
use Rattle.logic.specs.Moves.{no_move}
use Rattle.logic.proofs.no_move.Goals as goal

pub returns : goal.returns
unfolding no_move
returns c = refl
