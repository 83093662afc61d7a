use Rattle.std.proofs.Common.{rules, ◌≡◌, true, refl}
use Rattle.text_tokens.specs.Tokens.{between}
use Rattle.text_grammar.proofs.Readers.{token-room, token-within}
use Rattle.text_deep.proofs.Steps.{mark-room, begin-bracket, begin-tilde, begin-quantifier, begin-unbound, begin-variable, begin-no-variable, begin-size, begin-no-size, begin-other}
use Rattle.text_deep.proofs.begin_unit.Goals as goal

pub bounds-out-mark : goal.bounds-out-mark
bounds-out-mark c =
    mark-room _ _ _ _ c.args.p c.requires.0 _ c.token_at-t.ensures c.requires.1 c.in-3.is

pub returns-in-3 : goal.returns-in-3
returns-in-3 c =
    begin-bracket _ _ _ _ _ c.requires.0 _ c.token_at-t.ensures c.requires.1 c.in-3.is _ refl

pub returns-in-7 : goal.returns-in-7
returns-in-7 c =
    begin-tilde _ _ _ _ _ c.requires.0 _ c.token_at-t.ensures c.requires.1 c.in-7.is

pub token_at-v-requires : goal.token_at-v-requires
token_at-v-requires c =
    token-within _ _ _ c.token_at-t.ensures _ _ _ c.requires.0

pub returns-then-v-ne-VARIABLE : goal.returns-then-v-ne-VARIABLE
returns-then-v-ne-VARIABLE c =
    let quantifier : between 5 c.token_at-t.result.kind 6 ≡ true = search rules in
    begin-unbound _ _ _ _ _ c.requires.0 _ c.token_at-t.ensures c.requires.1 quantifier _ c.token_at-v.ensures c.if-v-ne-VARIABLE.true

pub returns-else-v-ne-VARIABLE : goal.returns-else-v-ne-VARIABLE
returns-else-v-ne-VARIABLE c =
    let quantifier : between 5 c.token_at-t.result.kind 6 ≡ true = search rules in
    begin-quantifier _ _ _ _ _ c.requires.0 _ c.token_at-t.ensures c.requires.1 quantifier _ c.token_at-v.ensures c.if-v-ne-VARIABLE.false

pub variable_literal-requires : goal.variable_literal-requires
variable_literal-requires c =
    token-room _ _ _ c.token_at-t.ensures _ _ _ c.requires.0

pub returns-in_err-a-in-22 : goal.returns-in_err-a-in-22
returns-in_err-a-in-22 c =
    rw c.from_residual.ensures (begin-no-variable _ _ _ _ _ c.requires.0 _ c.token_at-t.ensures c.requires.1 c.in-22.is c.in_err-a-in-22.ensures)

pub returns-in_ok-a-in-22 : goal.returns-in_ok-a-in-22
returns-in_ok-a-in-22 c =
    begin-variable _ _ _ _ _ c.requires.0 _ c.token_at-t.ensures c.requires.1 c.in-22.is _ _ c.in_ok-a-in-22.ensures

pub size_literal-requires : goal.size_literal-requires
size_literal-requires c =
    token-room _ _ _ c.token_at-t.ensures _ _ _ c.requires.0

pub returns-in_err-a-in-15 : goal.returns-in_err-a-in-15
returns-in_err-a-in-15 c =
    rw c.from_residual-in_err-a-in-15.ensures (begin-no-size _ _ _ _ _ c.requires.0 _ c.token_at-t.ensures c.requires.1 c.in-15.is c.in_err-a-in-15.ensures)

pub returns-in_ok-a-in-15 : goal.returns-in_ok-a-in-15
returns-in_ok-a-in-15 c =
    begin-size _ _ _ _ _ c.requires.0 _ c.token_at-t.ensures c.requires.1 c.in-15.is _ _ c.in_ok-a-in-15.ensures

pub returns-in_default : goal.returns-in_default
returns-in_default c =
    begin-other _ _ _ _ _ c.requires.0 _ c.token_at-t.ensures c.requires.1 (search rules) (search rules) (search rules) (search rules) (search rules)

pub returns-in_default-2 : goal.returns-in_default-2
returns-in_default-2 c =
    begin-other _ _ _ _ _ c.requires.0 _ c.token_at-t.ensures c.requires.1 (search rules) (search rules) (search rules) (search rules) (search rules)
