use mathlib.Core.Path.{◌≡◌}
use Prim.Native.Nat.{◌≤◌, ◌<◌, ◌-◌}
use lib.ListN.{length}
use Rattle.move_fill.specs.inner.Filling.{SizesSet}
use Rattle.move_fill.proofs.set_sizes.Given as goal

abbrev pub invariant-loop-s : goal.invariant-loop-s
invariant-loop-s l = (l.s ≤ l.sets) × (l.sets ≤ 16) × (l.sets < length l.masks) × (length l.sizes ≡ 16) × SizesSet l.masks l.sets l.s l.sizes
