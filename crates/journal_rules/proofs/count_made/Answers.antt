use mathlib.Core.Path.{refl, ap}
use native.Mathlib.Omega.{arith}
use borrow.Author.Tests.{ne_eqb}
use Rattle.std.specs.Prelude.{Result}
use Rattle.logic.specs.declared.refusal.Refusal.{Refusal}
use Rattle.logic.proofs.Refusals.{number-some}
use Rattle.contracts.specs.declared.Moved.{Moved}
use Rattle.contracts.specs.Journal.{count_after}
use Rattle.contracts.specs.MoveCall.{move_refused, move_accepted, move_values, move_made}
use Rattle.journal_rules.specs.inner.Counting.{RoomIfMade}
use Rattle.journal_rules.proofs.count_made.Goals as goal

pub overflow_add-result : goal.overflow_add-result
unfolding move_accepted move_values move_made RoomIfMade
overflow_add-result c =
    let h = c.requires (ap (λ (x : Result Moved Refusal). move_made (move_values x)) c.in-Ok.is) in omega (arith, h)

pub returns-in-Ok : goal.returns-in-Ok
unfolding move_accepted move_values move_made count_after
returns-in-Ok c =
    rw c.in-Ok.is (omega arith)

pub returns-in-Err : goal.returns-in-Err
unfolding move_refused move_values move_made count_after
returns-in-Err c =
    rw (c.in-Err.is, ne_eqb _ 0 (number-some c.in-Err.field-0)) refl
