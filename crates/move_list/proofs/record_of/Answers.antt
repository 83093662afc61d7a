use mathlib.Core.Path.{refl}
use Rattle.contracts.specs.BestCall.{move_record}
use Rattle.move_list.proofs.record_of.Goals as goal

pub returns : goal.returns
unfolding move_record
returns c =
    refl
