use Rattle.std.proofs.Common.{refl}
use Rattle.text_grammar.proofs.Declaration.{opening-within, whole-unopened, whole-unnamed, whole-unclosed, body-room, whole-none, whole-longer, whole-read}
use Rattle.text_parse.proofs.parse.Goals as goal

pub returns-then-opening-ne-LEFT_SQUARE : goal.returns-then-opening-ne-LEFT_SQUARE
returns-then-opening-ne-LEFT_SQUARE c =
    whole-unopened _ _ _ _ c.requires refl _ c.token_at-opening.ensures c.if-opening-ne-LEFT_SQUARE.true

pub set_letters-sets-requires : goal.set_letters-sets-requires
set_letters-sets-requires c =
    opening-within _ _ c.args.letters.now c.args.letters.now c.requires refl _ c.token_at-opening.ensures

pub returns-then-sets-eq0 : goal.returns-then-sets-eq0
returns-then-sets-eq0 c =
    whole-unnamed _ _ _ _ c.requires c.set_letters-sets.auto.letters _ c.token_at-opening.ensures c.if-opening-ne-LEFT_SQUARE.false _ c.set_letters-sets.ensures c.if-sets-eq0.true

pub returns-then-closing-ne-RIGHT_SQUARE : goal.returns-then-closing-ne-RIGHT_SQUARE
returns-then-closing-ne-RIGHT_SQUARE c =
    whole-unclosed _ _ _ _ c.requires c.set_letters-sets.auto.letters _ c.token_at-opening.ensures c.if-opening-ne-LEFT_SQUARE.false _ c.set_letters-sets.ensures c.if-sets-eq0.false _ c.token_at-closing.ensures c.if-closing-ne-RIGHT_SQUARE.true

pub formula-requires : goal.formula-requires
formula-requires c =
    body-room _ _ _ _ c.requires c.set_letters-sets.auto.letters _ c.token_at-opening.ensures c.if-opening-ne-LEFT_SQUARE.false _ c.set_letters-sets.ensures c.if-sets-eq0.false _ c.token_at-closing.ensures c.if-closing-ne-RIGHT_SQUARE.false

pub returns-in_err-body : goal.returns-in_err-body
returns-in_err-body c =
    rw c.from_residual.ensures (whole-none _ _ _ _ c.requires c.set_letters-sets.auto.letters _ c.token_at-opening.ensures c.if-opening-ne-LEFT_SQUARE.false _ c.set_letters-sets.ensures c.if-sets-eq0.false _ c.token_at-closing.ensures c.if-closing-ne-RIGHT_SQUARE.false c.in_err-body.ensures)

pub returns-then-last-ne-END : goal.returns-then-last-ne-END
returns-then-last-ne-END c =
    whole-longer _ _ _ _ c.requires c.set_letters-sets.auto.letters _ c.token_at-opening.ensures c.if-opening-ne-LEFT_SQUARE.false _ c.set_letters-sets.ensures c.if-sets-eq0.false _ c.token_at-closing.ensures c.if-closing-ne-RIGHT_SQUARE.false _ _ c.in_ok-body.ensures _ c.token_at-last.ensures c.if-last-ne-END.true

pub returns : goal.returns
returns c =
    whole-read _ _ _ _ c.requires c.set_letters-sets.auto.letters _ c.token_at-opening.ensures c.if-opening-ne-LEFT_SQUARE.false _ c.set_letters-sets.ensures c.if-sets-eq0.false _ c.token_at-closing.ensures c.if-closing-ne-RIGHT_SQUARE.false _ _ c.in_ok-body.ensures _ c.token_at-last.ensures c.if-last-ne-END.false
