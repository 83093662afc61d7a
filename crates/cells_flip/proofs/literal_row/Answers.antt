use mathlib.Core.Path.{◌∙◌, sym, ap}
use native.Mathlib.Omega.{arith}
use Rattle.table_format.specs.Bytes.{kind_field, relation_field, a_field, b_field}
use Rattle.cells_flip.proofs.Literals.{member-fields, size-fields, member-ready, gives_size, gives-member}
use Rattle.cells_flip.proofs.literal_row.Goals as goal

pub size_at-size-requires : goal.size_at-size-requires
size_at-size-requires c =
    omega (arith, size-fields _ _ _ _ c.requires.test c.requires.is (sym (c.kind_of-kind.ensures ∙ ap kind_field c.record_at-part.ensures.0) ∙ c.if-kind-eq8.true), c.a_of-a.ensures ∙ ap a_field c.record_at-part.ensures.0, c.requires.masks-settled.sets16)

pub literal_penalty-value-requires : goal.literal_penalty-value-requires
literal_penalty-value-requires c =
    (omega (arith, c.size_at-size.ensures, c.requires.sizes-low c.a_of-a.result), omega (arith, size-fields _ _ _ _ c.requires.test c.requires.is (sym (c.kind_of-kind.ensures ∙ ap kind_field c.record_at-part.ensures.0) ∙ c.if-kind-eq8.true), c.b_of-b.ensures ∙ ap b_field c.record_at-part.ensures.0))

pub returns-then-kind-eq8 : goal.returns-then-kind-eq8
returns-then-kind-eq8 c =
    gives_size _ _ _ _ _ _ _ _ _ c.kind_of-kind.result c.relation_of.result c.a_of-a.result c.b_of-b.result c.size_at-size.result c.literal_penalty-value.result (c.kind_of-kind.ensures ∙ ap kind_field c.record_at-part.ensures.0) (c.relation_of.ensures ∙ ap relation_field c.record_at-part.ensures.0) (c.a_of-a.ensures ∙ ap a_field c.record_at-part.ensures.0) (c.b_of-b.ensures ∙ ap b_field c.record_at-part.ensures.0) c.if-kind-eq8.true c.size_at-size.ensures c.literal_penalty-value.ensures c.fill_row.ensures

pub mask_at-requires : goal.mask_at-requires
mask_at-requires c =
    omega (arith, member-fields _ _ _ _ c.requires.test c.requires.is c.requires.asks (λ z. c.if-kind-eq8.false (c.kind_of-kind.ensures ∙ ap kind_field c.record_at-part.ensures.0 ∙ z)), c.b_of-b.ensures ∙ ap b_field c.record_at-part.ensures.0, c.requires.masks-settled.masks-long)

pub member_row-requires : goal.member_row-requires
member_row-requires c =
    member-ready c.requires c.kind_of-kind.result c.a_of-a.result (c.kind_of-kind.ensures ∙ ap kind_field c.record_at-part.ensures.0) (c.a_of-a.ensures ∙ ap a_field c.record_at-part.ensures.0) c.if-kind-eq8.false

pub returns : goal.returns
returns c =
    gives-member _ _ _ _ _ _ _ _ _ c.kind_of-kind.result c.a_of-a.result c.b_of-b.result c.mask_at.result (c.kind_of-kind.ensures ∙ ap kind_field c.record_at-part.ensures.0) (c.a_of-a.ensures ∙ ap a_field c.record_at-part.ensures.0) (c.b_of-b.ensures ∙ ap b_field c.record_at-part.ensures.0) c.if-kind-eq8.false c.mask_at.ensures c.member_row.ensures
