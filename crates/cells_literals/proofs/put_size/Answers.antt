use mathlib.Core.Path.{ap, ◌∙◌}
use mathlib.Core.Bool.{false}
use Rattle.logic.proofs.Written.{from_first}
use Rattle.cells_rule.specs.inner.Rule.{rule_penalty}
use Rattle.cells_literals.proofs.put_size.Goals as goal

pub returns : goal.returns
returns c =
    rw (← (c.literal_penalty-value.ensures ∙ ap (rule_penalty 8 c.args.relation false c.args.size) c.from.ensures)) (c.put_run.ensures ∙ from_first _ _ _)
