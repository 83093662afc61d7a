use mathlib.Core.Path.{refl}
use borrow.Author.Tests.{ne_eqb}
use Rattle.logic.proofs.Refusals.{number-some}
use Rattle.contracts.specs.Journal.{count_taken}
use Rattle.contracts.specs.MoveCall.{move_refused, move_accepted, move_values, move_made}
use Rattle.journal_rules.proofs.count_taken.Goals as goal

pub returns-in-Ok : goal.returns-in-Ok
unfolding move_accepted move_values move_made count_taken
returns-in-Ok c =
    rw c.in-Ok.is c.newest_place.ensures

pub returns-in-Err : goal.returns-in-Err
unfolding move_refused move_values move_made count_taken
returns-in-Err c =
    rw (c.in-Err.is, ne_eqb _ 0 (number-some c.in-Err.field-0)) refl
