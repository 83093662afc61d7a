use mathlib.Core.Path.{sym, ap, ◌∙◌}
use mathlib.Core.Bool.{Bool, beq}
use Prim.Native.Nat.{ℕ}
use native.Mathlib.Omega.{arith}
use Rattle.logic.specs.Refusal.{refusal_number, answer_number}
use Rattle.logic.specs.Configuration.{in_mask}
use Rattle.test_port.proofs.Numbers.{not-a-port, by_condition}
use Rattle.test_port.proofs.port_change.Goals as goal

pub returns-then-ports-wide : goal.returns-then-ports-wide
unfolding answer_number refusal_number
returns-then-ports-wide c =
    not-a-port _ _ _ _ _ (omega (arith, c.wide.ensures.0, c.if-ports-wide.true))

pub returns-then-has_port-into : goal.returns-then-has_port-into
unfolding answer_number refusal_number
returns-then-has_port-into c =
    by_condition _ _ _ _ _ (omega (arith, c.wide.ensures.0, c.if-ports-wide.false)) _ (ap (λ (b : Bool). beq b c.args.into) (sym (c.has_port.ensures ∙ ap (λ (x : ℕ). in_mask x c.args.port) c.mask_at.ensures)) ∙ c.if-has_port-into.true)

pub returns-else-has_port-into : goal.returns-else-has_port-into
unfolding answer_number
returns-else-has_port-into c =
    by_condition _ _ _ _ _ (omega (arith, c.wide.ensures.0, c.if-ports-wide.false)) _ (ap (λ (b : Bool). beq b c.args.into) (sym (c.has_port.ensures ∙ ap (λ (x : ℕ). in_mask x c.args.port) c.mask_at.ensures)) ∙ c.if-has_port-into.false)
