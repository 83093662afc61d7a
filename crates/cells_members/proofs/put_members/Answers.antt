use mathlib.Core.Path.{ap}
use mathlib.Core.Bool.{cond}
use Prim.Native.Nat.{ℕ}
use Rattle.logic.specs.Configuration.{in_mask}
use Rattle.cells_rule.specs.inner.Rule.{rule_penalty}
use Rattle.cells_runs.specs.inner.Ports.{digit_at}
use Rattle.cells_runs.proofs.Runs.{same-cells}
use Rattle.cells_runs.proofs.Rounds.{repeated-is}
use Rattle.cells_members.proofs.Penalties.{by-test}
use Rattle.cells_members.proofs.put_members.Goals as goal

pub returns : goal.returns
returns c =
    same-cells (λ t. cond (in_mask c.args.mask (digit_at c.args.ports c.args.block t)) c.literal_penalty-inside.result c.literal_penalty-outside.result) _ _ _ _
    (repeated-is (λ t. cond (in_mask c.args.mask (digit_at c.args.ports c.args.block t)) c.literal_penalty-inside.result c.literal_penalty-outside.result) _ _ _ _ _ c.put_round-period.ensures.1 c.repeat_first.ensures c.put_round-period.ensures.0.some c.put_round-period.ensures.0.within
    (λ t l. ap (λ (x : ℕ). cond (in_mask c.args.mask x) c.literal_penalty-inside.result c.literal_penalty-outside.result) (c.put_round-period.ensures.0.again t l)))
    (λ t. by-test (λ b. rule_penalty c.args.kind 0 b 0 0) _ _ c.literal_penalty-inside.ensures c.literal_penalty-outside.ensures (in_mask c.args.mask (digit_at c.args.ports c.args.block t)))
