use mathlib.Core.Path.{refl}
use Rattle.call_undo.proofs.Undoing.{undo-promise}
use Rattle.call_undo.proofs.undo.Goals as goal

pub returns : goal.returns
returns c =
    undo-promise _ _ _ _ _ _ _ _ _ _ c.opposite_of-m.ensures refl c.move_with-a.ensures c.count_taken.ensures
