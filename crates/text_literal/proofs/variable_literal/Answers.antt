use Rattle.std.proofs.Common.{rules, arith, ◌≡◌, ◌≤◌, true}
use Rattle.text_tokens.specs.Tokens.{between}
use Rattle.text_grammar.proofs.Readers.{moves, token-room, literal-in, literal-not-in, literal-port}
use Rattle.text_literal.proofs.variable_literal.Goals as goal

pub operand-requires : goal.operand-requires
operand-requires c =
    (token-room _ _ _ c.token_at-t.ensures _ _ _ c.requires, omega arith, omega (arith, c.in-13.is, (moves _ _ _ c.token_at-t.ensures c.requires.within).on))

pub operand-requires-in-14 : goal.operand-requires-in-14
operand-requires-in-14 c =
    (token-room _ _ _ c.token_at-t.ensures _ _ _ c.requires, omega arith, omega (arith, c.in-14.is, (moves _ _ _ c.token_at-t.ensures c.requires.within).on))

pub operand-requires-in-16-to-21 : goal.operand-requires-in-16-to-21
operand-requires-in-16-to-21 c =
    let low : 16 ≤ c.token_at-t.result.kind = search rules in
    (token-room _ _ _ c.token_at-t.ensures _ _ _ c.requires, omega arith, omega (arith, low, (moves _ _ _ c.token_at-t.ensures c.requires.within).on))

pub returns-in-13 : goal.returns-in-13
returns-in-13 c =
    literal-in _ _ _ _ _ c.requires _ c.token_at-t.ensures _ c.in-13.is _ _ c.operand.ensures

pub returns-in-14 : goal.returns-in-14
returns-in-14 c =
    literal-not-in _ _ _ _ _ c.requires _ c.token_at-t.ensures _ c.in-14.is _ _ c.operand-in-14.ensures

pub returns-in-16-to-21 : goal.returns-in-16-to-21
returns-in-16-to-21 c =
    let low : 16 ≤ c.token_at-t.result.kind = search rules in
    let relation : between 16 c.token_at-t.result.kind 21 ≡ true = search rules in
    literal-port _ _ _ _ _ c.requires _ c.token_at-t.ensures _ (λ e. omega (arith, e, low)) (λ e. omega (arith, e, low)) relation _ _ c.operand-in-16-to-21.ensures
