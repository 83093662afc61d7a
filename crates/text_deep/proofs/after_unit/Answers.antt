use Rattle.std.proofs.Common.{rules, ◌≡◌, true, refl}
use Rattle.text_tokens.specs.Tokens.{between}
use Rattle.text_deep.proofs.Steps.{after-bracket, after-sign, after-arrow, after-arrows, after-other}
use Rattle.text_deep.proofs.after_unit.Goals as goal

pub returns-in-4 : goal.returns-in-4
returns-in-4 c =
    after-bracket _ _ _ _ _ c.requires.0 _ c.token_at-sign.ensures c.requires.1 c.requires.2 c.in-4.is

pub returns-in-8-to-9 : goal.returns-in-8-to-9
returns-in-8-to-9 c =
    let joins : between 8 c.token_at-sign.result.kind 9 ≡ true = search rules in
    after-sign _ _ _ _ _ c.requires.0 _ c.token_at-sign.ensures c.requires.1 c.requires.2 joins

pub returns-then-out-mark-ne0 : goal.returns-then-out-mark-ne0
returns-then-out-mark-ne0 c =
    let arrow : between 10 c.token_at-sign.result.kind 12 ≡ true = search rules in
    after-arrows _ _ _ _ _ c.requires.0 _ c.token_at-sign.ensures c.requires.1 c.requires.2 arrow c.if-out-mark-ne0.true

pub returns-else-out-mark-ne0 : goal.returns-else-out-mark-ne0
returns-else-out-mark-ne0 c =
    let arrow : between 10 c.token_at-sign.result.kind 12 ≡ true = search rules in
    after-arrow _ _ _ _ _ c.requires.0 _ c.token_at-sign.ensures c.requires.1 c.requires.2 arrow c.if-out-mark-ne0.false _ refl

pub returns-in_default : goal.returns-in_default
returns-in_default c =
    after-other _ _ _ _ _ c.requires.0 _ c.token_at-sign.ensures c.requires.1 c.requires.2 (search rules) (search rules) (search rules)

pub returns-in_default-2 : goal.returns-in_default-2
returns-in_default-2 c =
    after-other _ _ _ _ _ c.requires.0 _ c.token_at-sign.ensures c.requires.1 c.requires.2 (search rules) (search rules) (search rules)
