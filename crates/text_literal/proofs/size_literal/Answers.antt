use Rattle.std.proofs.Common.{rules, arith, ◌≡◌, ◌≤◌, true}
use Rattle.text_tokens.specs.Tokens.{between}
use Rattle.text_grammar.proofs.Readers.{moves, token-room, token-within, literal-size}
use Rattle.text_literal.proofs.size_literal.Goals as goal

pub token_at-t-requires : goal.token_at-t-requires
token_at-t-requires c =
    token-within _ _ _ c.token_at-s.ensures _ _ _ c.requires

pub operand-requires : goal.operand-requires
operand-requires c =
    let low : 16 ≤ c.token_at-t.result.kind = search rules in
    let room = token-room _ _ _ c.token_at-s.ensures _ _ _ c.requires in
    (token-room _ _ _ c.token_at-t.ensures _ _ _ room, omega arith, omega (arith, low, (moves _ _ _ c.token_at-t.ensures room.within).on))

pub returns-in-16-to-21 : goal.returns-in-16-to-21
returns-in-16-to-21 c =
    let relation : between 16 c.token_at-t.result.kind 21 ≡ true = search rules in
    literal-size _ _ _ _ _ c.requires _ c.token_at-s.ensures c.if-s-ne-SET.false _ c.token_at-t.ensures relation _ _ c.operand.ensures
