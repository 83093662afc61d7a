use native.Mathlib.Nat.{div-one}
use Rattle.logic.specs.Moves.{move_kind, kind_weight}
use Rattle.move_order.proofs.Known.{other-weight}
use Rattle.move_order.proofs.of_kinds.Goals as goal

pub returns-in-1 : goal.returns-in-1
unfolding move_kind kind_weight
returns-in-1 c =
    rw (c.in-1.is, div-one)

pub returns-in-2 : goal.returns-in-2
unfolding move_kind kind_weight
returns-in-2 c =
    rw c.in-2.is

pub returns-in-3 : goal.returns-in-3
unfolding move_kind kind_weight
returns-in-3 c =
    rw c.in-3.is

pub returns-in-4 : goal.returns-in-4
unfolding move_kind kind_weight
returns-in-4 c =
    rw c.in-4.is

pub returns-in_default : goal.returns-in_default
returns-in_default c =
    rw (other-weight _ c.in_default.in_default-own.rest.0.0.0.1 c.in_default.in_default-own.rest.0.0.1 c.in_default.in_default-own.rest.0.1 c.in_default.in_default-own.rest.1)
