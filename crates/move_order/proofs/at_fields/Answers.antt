use mathlib.Core.Path.{refl}
use Rattle.contracts.specs.MoveOrder.{fields_are}
use Rattle.move_order.proofs.at_fields.Goals as goal

pub returns : goal.returns
unfolding fields_are
returns c =
    refl
