use mathlib.Core.Path.{ap, ◌∙◌}
use Rattle.table_format.specs.Bytes.{kind_field, relation_field, a_field, b_field}
use Rattle.cells_walk.specs.inner.Visit.{RecordAfresh}
use Rattle.cells_walk.proofs.Plan.literal_at.Goals as goal

pub literal_after-requires : goal.literal_after-requires
literal_after-requires c =
    rw (c.kind_of.ensures ∙ ap kind_field c.record_at-part.ensures.0, c.relation_of.ensures ∙ ap relation_field c.record_at-part.ensures.0, c.a_of.ensures ∙ ap a_field c.record_at-part.ensures.0, c.b_of.ensures ∙ ap b_field c.record_at-part.ensures.0) c.requires.literal

pub returns : goal.returns
unfolding RecordAfresh
returns c =
    rw (c.kind_of.ensures ∙ ap kind_field c.record_at-part.ensures.0, c.relation_of.ensures ∙ ap relation_field c.record_at-part.ensures.0, c.a_of.ensures ∙ ap a_field c.record_at-part.ensures.0, c.b_of.ensures ∙ ap b_field c.record_at-part.ensures.0) at c.literal_after.ensures
