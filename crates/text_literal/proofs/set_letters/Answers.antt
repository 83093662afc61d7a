use Rattle.std.proofs.Common.{arith, sym, ◌∙◌}
use Rattle.text_grammar.proofs.Readers.{same_kind, moves}
use Rattle.text_grammar.proofs.Declaration.{passed_none, passed-one, passed-all}
use Rattle.text_literal.proofs.set_letters.Goals as goal

pub loop-t-init : goal.loop-t-init
loop-t-init c =
    passed_none _ _ _ c.requires

pub returns-then-t-ne-SET : goal.returns-then-t-ne-SET
returns-then-t-ne-SET c =
    passed-all _ _ _ _ _ c.loop-t.invariant (λ e. c.if-t-ne-SET.true (sym (same_kind _ _ _ c.token_at-t.ensures) ∙ e))

pub loop-t-smaller : goal.loop-t-smaller
loop-t-smaller c =
    omega (arith, moves _ _ _ c.token_at-t.ensures c.loop-t.invariant.within, c.if-t-ne-SET.false)

pub loop-t-preserved : goal.loop-t-preserved
loop-t-preserved c =
    passed-one _ _ _ _ _ _ _ _ c.loop-t.invariant c.token_at-t.ensures c.if-t-ne-SET.false c.keep.ensures
