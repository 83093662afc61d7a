use mathlib.Core.Path.{sym, ◌∙◌}
use Rattle.logic.specs.Moves.{of_kinds}
use Rattle.move_order.specs.inner.Stepping.{StepsAny}
use Rattle.move_order.proofs.Stepping.{skip-kind}
use Rattle.move_order.proofs.advance.Goals as goal

pub returns-then-of_kinds : goal.returns-then-of_kinds
unfolding StepsAny
returns-then-of_kinds c =
    c.next_place.ensures c.args.kinds

pub returns-else-of_kinds : goal.returns-else-of_kinds
unfolding of_kinds
returns-else-of_kinds c =
    rw c.at_fields.ensures (skip-kind c.args.ports c.args.sets c.args.kinds c.args.masks.now c.args.m c.requires.begins (sym c.of_kinds.ensures ∙ c.if-of_kinds.false))
