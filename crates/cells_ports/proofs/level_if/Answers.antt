use mathlib.Core.Path.{◌∙◌}
use Rattle.cells_ports.proofs.Steps.{level-has, level-other, level-inside}
use Rattle.cells_ports.proofs.level_if.Goals as goal

pub returns-then-wide-x : goal.returns-then-wide-x
returns-then-wide-x c =
    level-has _ _ _ _ _ _ c.if-v-depth.true (c.wide.ensures.0 ∙ c.port_at.ensures.0) c.if-wide-x.true c.level_of.ensures

pub returns-else-wide-x : goal.returns-else-wide-x
returns-else-wide-x c =
    level-other _ _ _ _ _ (c.wide.ensures.0 ∙ c.port_at.ensures.0) c.if-wide-x.false

pub returns-else-v-depth : goal.returns-else-v-depth
returns-else-v-depth c =
    level-inside _ _ _ _ c.if-v-depth.false
