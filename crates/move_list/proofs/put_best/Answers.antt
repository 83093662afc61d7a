use mathlib.Core.Path.{refl}
use Rattle.move_list.proofs.Writing.{put-there, put-not}
use Rattle.move_list.proofs.put_best.Goals as goal

pub returns-then-value-least : goal.returns-then-value-least
returns-then-value-least c =
    put-there _ _ _ _ _ c.if-value-least.true _ _ c.record_of.ensures refl

pub returns-else-value-least : goal.returns-else-value-least
returns-else-value-least c =
    put-not _ _ _ _ _ c.if-value-least.false
