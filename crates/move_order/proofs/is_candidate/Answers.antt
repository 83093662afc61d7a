use mathlib.Core.Path.{sym, ◌∙◌, subst}
use mathlib.Core.Bool.{Bool, true≢false}
use Rattle.logic.specs.Moves.{of_kinds}
use Rattle.logic.specs.inner.MoveFields.{Fields}
use Rattle.move_legal.specs.inner.Legal.{Decides}
use Rattle.move_order.specs.inner.Stepping.{Suits}
use Rattle.move_order.proofs.Known.{says-suits}
use Rattle.move_legal.proofs.Known.{says-yes, says-no}
use Rattle.move_order.proofs.is_candidate.Goals.{then-of_kinds, else-of_kinds}
use Rattle.move_order.proofs.is_candidate.Goals as goal

pub fits_move-requires : goal.fits_move-requires
fits_move-requires c =
    elim c.if-of_kinds.branch [
      | then-of_kinds w ↦ record { fields = says-yes w.has_fields.result (Fields c.args.ports c.args.sets c.args.m) w.has_fields.ensures (sym w.value-is ∙ c.if-has_fields.true); ports-high = c.requires.begins.position.sized.ports-high; masks-enough = c.requires.masks-enough }
      | else-of_kinds w ↦ absurd (true≢false (sym c.if-has_fields.true ∙ w.value-is ∙ w.if-of_kinds.false))
    ]

pub returns-then-has_fields : goal.returns-then-has_fields
unfolding of_kinds
returns-then-has_fields c =
    elim c.if-of_kinds.branch [
      | then-of_kinds w ↦ says-suits c.args.ports c.args.sets c.args.kinds c.args.masks.now c.args.m _ (sym c.of_kinds.ensures ∙ w.if-of_kinds.true) (says-yes w.has_fields.result (Fields c.args.ports c.args.sets c.args.m) w.has_fields.ensures (sym w.value-is ∙ c.if-has_fields.true)) c.fits_move.ensures
      | else-of_kinds w ↦ absurd (true≢false (sym c.if-has_fields.true ∙ w.value-is ∙ w.if-of_kinds.false))
    ]

pub returns-else-has_fields : goal.returns-else-has_fields
unfolding Decides of_kinds
returns-else-has_fields c =
    subst (λ (r : Bool). Decides r (Suits c.args.ports c.args.sets c.args.kinds c.args.masks.now c.args.m)) (sym c.if-has_fields.false) (λ S.
    elim c.if-of_kinds.branch [
      | then-of_kinds w ↦ says-no w.has_fields.result (Fields c.args.ports c.args.sets c.args.m) w.has_fields.ensures (sym w.value-is ∙ c.if-has_fields.false) S.fields
      | else-of_kinds w ↦ true≢false (sym S.of-kinds ∙ sym c.of_kinds.ensures ∙ w.if-of_kinds.false)
    ])
