use Rattle.std.proofs.Common.{Bool, cond, sym, ap, ◌∙◌, arith}
use Rattle.move_shares.specs.inner.Shares.{entering}
use Rattle.move_crossed.proofs.entering_size.Goals as goal

pub returns-then-has_port : goal.returns-then-has_port
unfolding entering
returns-then-has_port c =
    (sym (ap (λ (b : Bool). cond b 1 2) (sym c.has_port.ensures ∙ c.if-has_port.true)), omega arith, omega arith)

pub returns : goal.returns
unfolding entering
returns c =
    (sym (ap (λ (b : Bool). cond b 1 2) (sym c.has_port.ensures ∙ c.if-has_port.false)), omega arith, omega arith)
