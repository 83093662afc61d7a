use mathlib.Core.Path.{ap₂, ◌∙◌}
use Rattle.logic.specs.Configuration.{ports_in, out_of_test, in_mask, in_masks}
use Prim.Native.Nat.{ℕ}
use Rattle.cells_size.proofs.set_size.Goals as goal

pub returns : goal.returns
unfolding in_masks
returns c =
    (c.mask_size.ensures.0 ∙ ap₂ (λ (a b : ℕ). ports_in 64 (out_of_test (in_mask a) (in_mask b))) c.mask_at.ensures c.mask_at-2.ensures, c.mask_size.ensures.1)
