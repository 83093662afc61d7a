use mathlib.Core.Path.{ap₂}
use mathlib.Core.List.{List}
use Prim.Native.Nat.{ℕ}
use lib.ListN.{take}
use Rattle.planroot_line.proofs.Answers.{plan-other, plan-loaded}
use Rattle.planroot_line.proofs.plan_line.Goals as goal

pub returns-then-count-n : goal.returns-then-count-n
returns-then-count-n c =
    plan-other _ _ _ _ _ c.sets_of-n.ensures c.requires.few-sets c.if-count-n.true

pub returns : goal.returns
returns c =
    plan-loaded _ _ _ _ _ c.sets_of-n.ensures c.requires.few-sets _ _ _ _ c.if-count-n.false c.requires.masks-room
    (ap₂ (λ (j : ℕ) (l : List ℕ). take j l) c.own_masks.ensures c.copy_masks.ensures) c.load.ensures c.load_line.ensures
