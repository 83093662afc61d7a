use mathlib.Core.Path.{◌≡◌, ap, ◌∙◌}
use Prim.Native.Nat.{ℕ}
use native.Mathlib.Omega.{arith}
use Rattle.cells_runs.specs.inner.Ports.{digit_at}
use Rattle.logic.proofs.Written.{from_first}
use Rattle.cells_runs.proofs.Runs.{same-cells}
use Rattle.cells_compare.proofs.Nested.{same-port, second-inner, first_inner}
use Rattle.cells_compare.proofs.put_comparison.Goals as goal

pub put_nested-requires : goal.put_nested-requires
put_nested-requires c =
    c.requires.first-outer c.if-other-block.true

pub returns-then-other-block : goal.returns-then-other-block
returns-then-other-block c =
    same-cells _ _ _ _ _ c.put_nested.ensures
    (λ t. second-inner c.args.relation _ _ _ c.literal_penalty-less.ensures c.literal_penalty-same.ensures c.literal_penalty-more.ensures (digit_at c.args.ports c.args.block t) (digit_at c.args.ports c.args.other t))

pub put_nested-requires-then-block-other : goal.put_nested-requires-then-block-other
put_nested-requires-then-block-other c =
    c.requires.second-outer c.if-block-other.true

pub returns-then-block-other : goal.returns-then-block-other
returns-then-block-other c =
    same-cells _ _ _ _ _ c.put_nested-then-block-other.ensures
    (λ t. first_inner c.args.relation _ _ _ c.literal_penalty-less.ensures c.literal_penalty-same.ensures c.literal_penalty-more.ensures (digit_at c.args.ports c.args.block t) (digit_at c.args.ports c.args.other t))

pub returns-else-block-other : goal.returns-else-block-other
returns-else-block-other c =
    let e : c.args.block ≡ c.args.other = omega arith in
    same-cells _ _ _ _ _ (c.put_run.ensures ∙ from_first _ _ _)
    (λ t. c.literal_penalty-same.ensures ∙ same-port c.args.relation (digit_at c.args.ports c.args.block t) (digit_at c.args.ports c.args.other t) (ap (λ (x : ℕ). digit_at c.args.ports x t) e))
