use Rattle.std.proofs.Common.{arith}
use Rattle.text_grammar.proofs.Readers.{operand-push, operand-yes}
use Rattle.text_literal.proofs.operand.Goals as goal

pub push-requires : goal.push-requires
push-requires c =
    omega (arith, c.requires.0, operand-push _ _ _ _ _ c.requires.0 _ c.token_at-t.ensures c.args.first c.args.operator _ c.requires.1 c.if-t-wanted.false)

pub returns : goal.returns
returns c =
    operand-yes _ _ _ _ _ c.requires.0 _ c.token_at-t.ensures _ _ _ c.requires.2 c.requires.1 c.if-t-wanted.false _ (rw (← c.from.ensures, ← c.from-2.ensures, ← c.from-3.ensures) c.push.ensures)
