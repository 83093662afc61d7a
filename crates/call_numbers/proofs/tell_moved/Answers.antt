use mathlib.Core.Path.{refl}
use Rattle.contracts.specs.MoveCall.{move_refused, move_accepted, move_values}
use Rattle.call_numbers.proofs.Telling.{told_moved}
use Rattle.call_numbers.proofs.tell_moved.Goals as goal

pub returns-in-Ok : goal.returns-in-Ok
unfolding move_refused move_accepted move_values
returns-in-Ok c =
    told_moved _ _ _ c.args.answer.now _ c.in-Ok.is c.no_move.ensures c.tell.ensures

pub returns-in-Err : goal.returns-in-Err
unfolding move_refused move_accepted move_values
returns-in-Err c =
    told_moved _ _ _ c.args.answer.now _ c.in-Err.is refl c.tell_refused.ensures
