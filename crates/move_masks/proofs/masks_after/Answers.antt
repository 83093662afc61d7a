use mathlib.Core.Path.{ap, ◌∙◌}
use mathlib.Core.List.{List}
use Prim.Native.Nat.{ℕ}
use native.Mathlib.Omega.{arith}
use lib.ListN.{get_or, set}
use Rattle.logic.specs.inner.Flip.{flip_port}
use Rattle.logic.proofs.MoveFields.{t-used, q-used}
use Rattle.move_masks.proofs.Masks.{after_one, after-swap, after-transfer}
use Rattle.move_masks.proofs.masks_after.Goals as goal

pub flip_at-requires : goal.flip_at-requires
flip_at-requires c =
    omega (arith, c.requires)

pub flip_at-requires-in-3 : goal.flip_at-requires-in-3
flip_at-requires-in-3 c =
    omega (arith, c.requires, c.flip_at.auto, t-used c.args.ports c.args.sets c.args.m c.requires.known_over.fields c.in-3.is)

pub returns-in-3 : goal.returns-in-3
returns-in-3 c =
    c.flip_at-in-3.ensures ∙ (ap (λ (l : List ℕ). set l c.args.m.t (flip_port (get_or l c.args.m.t 0) c.args.m.p)) c.flip_at.ensures ∙ after-transfer c.args.ports c.args.sets c.args.m c.args.masks.now c.requires c.in-3.is)

pub flip_at-requires-in-4 : goal.flip_at-requires-in-4
flip_at-requires-in-4 c =
    omega (arith, c.requires, c.flip_at.auto, q-used c.args.ports c.args.sets c.args.m c.requires.known_over.fields c.in-4.is)

pub returns-in-4 : goal.returns-in-4
returns-in-4 c =
    c.flip_at-in-4.ensures ∙ (ap (λ (l : List ℕ). set l c.args.m.s (flip_port (get_or l c.args.m.s 0) c.args.m.q)) c.flip_at.ensures ∙ after-swap c.args.ports c.args.sets c.args.m c.args.masks.now c.requires c.in-4.is)

pub returns-in_default : goal.returns-in_default
returns-in_default c =
    c.flip_at.ensures ∙ after_one c.args.ports c.args.sets c.args.m c.args.masks.now c.requires (λ e. omega arith) (λ e. omega arith)
