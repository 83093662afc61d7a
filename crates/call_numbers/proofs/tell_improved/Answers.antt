use mathlib.Core.Path.{◌≡◌, refl}
use borrow.Author.Rules.{rules}
use Rattle.std.specs.Prelude.{Ok}
use Rattle.contracts.specs.declared.Improved.TheVariants.{Made, NoBetter}
use Rattle.contracts.specs.MoveCall.{move_accepted}
use Rattle.contracts.specs.ImproveCall.{improve_refused, improve_made, no_better, improve_values}
use Rattle.call_numbers.proofs.Telling.{told-improved}
use Rattle.call_numbers.proofs.tell_improved.Goals as goal

pub returns-in-Ok-Made : goal.returns-in-Ok-Made
unfolding improve_made move_accepted improve_values
returns-in-Ok-Made c =
    let a = c.in-Ok-Made in let e : c.args.r ≡ Ok (Made a.chosen a.before a.after a.changed) = search rules in told-improved _ _ _ c.args.answer.now _ e refl c.tell.ensures

pub returns-in-Ok-NoBetter : goal.returns-in-Ok-NoBetter
unfolding no_better improve_values
returns-in-Ok-NoBetter c =
    let e : c.args.r ≡ Ok (NoBetter c.in-Ok-NoBetter.root) = search rules in told-improved _ _ _ c.args.answer.now _ e c.no_move.ensures c.tell-in-Ok-NoBetter.ensures

pub returns-in-Err : goal.returns-in-Err
unfolding improve_refused improve_values
returns-in-Err c =
    told-improved _ _ _ c.args.answer.now _ c.in-Err.is refl c.tell_refused.ensures
