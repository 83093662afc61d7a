use mathlib.Core.Path.{refl}
use Rattle.contracts.specs.Counting.{count_refused, count_accepted, count_values}
use Rattle.call_numbers.proofs.Telling.{told-counted}
use Rattle.call_numbers.proofs.tell_counted.Goals as goal

pub returns-in-Ok : goal.returns-in-Ok
unfolding count_refused count_accepted count_values
returns-in-Ok c =
    told-counted _ _ _ c.args.answer.now _ c.in-Ok.is c.no_move.ensures c.tell.ensures

pub returns-in-Err : goal.returns-in-Err
unfolding count_refused count_accepted count_values
returns-in-Err c =
    told-counted _ _ _ c.args.answer.now _ c.in-Err.is refl c.tell_refused.ensures
