use mathlib.Core.Path.{◌≡◌}
use mathlib.Core.Bool.{true}
use Prim.Native.Nat.{◌≤◌, ◌-◌}
use lib.ListN.{length, take}
use Rattle.logic.specs.Configuration.{all_within}
use Rattle.call_open.proofs.masks_ok.Given as goal

abbrev pub invariant-loop-s : goal.invariant-loop-s
invariant-loop-s l = (l.s ≤ l.count) × (l.count ≤ length l.masks) × (l.u ≡ l.ports) × (all_within l.ports (take l.s l.masks) ≡ true)
