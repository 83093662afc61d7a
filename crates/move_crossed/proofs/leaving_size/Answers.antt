use Rattle.std.proofs.Common.{Bool, cond, sym, ap, ◌∙◌, arith}
use Rattle.move_shares.specs.inner.Shares.{leaving}
use Rattle.move_crossed.proofs.leaving_size.Goals as goal

pub returns-then-has_port : goal.returns-then-has_port
unfolding leaving
returns-then-has_port c =
    (sym (ap (λ (b : Bool). cond b 1 0) (sym c.has_port.ensures ∙ c.if-has_port.true)), omega arith)

pub returns : goal.returns
unfolding leaving
returns c =
    (sym (ap (λ (b : Bool). cond b 1 0) (sym c.has_port.ensures ∙ c.if-has_port.false)), omega arith)
