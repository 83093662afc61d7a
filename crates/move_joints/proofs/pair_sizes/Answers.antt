use mathlib.Core.Path.{◌≡◌, ap, ap₂, ◌∙◌}
use Prim.Native.Nat.{ℕ, ◌+◌, ◌-◌}
use native.Mathlib.Omega.{arith}
use lib.ListN.{length, get_or, set}
use Rattle.move_joints.specs.inner.Joints.{pair_sizes}
use Rattle.move_joints.proofs.pair_sizes.Goals as goal

pub returns : goal.returns
unfolding pair_sizes
returns c =
    (ap₂ (λ (a b : ℕ). set (set c.args.sizes c.args.s a) c.args.t b) (c.size_after.ensures ∙ ap (λ (j : ℕ). get_or c.args.sizes c.args.s 0 + j - 1) c.left_outcome.ensures.0) (c.size_after-2.ensures ∙ ap (λ (j : ℕ). get_or c.args.sizes c.args.t 0 + j - 1) c.entered_outcome.ensures.0), (let h : length c.args.sizes ≡ 16 = omega (arith, c.well_formed) in h))
