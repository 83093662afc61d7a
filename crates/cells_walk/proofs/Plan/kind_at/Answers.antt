use mathlib.Core.Path.{ap, ◌∙◌}
use Rattle.table_format.specs.Bytes.{kind_field}
use Rattle.cells_walk.proofs.Plan.kind_at.Goals as goal

pub returns : goal.returns
returns c =
    c.kind_of.ensures ∙ ap kind_field c.record_at.ensures.0
