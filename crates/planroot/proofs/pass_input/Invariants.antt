use mathlib.Core.Path.{◌≡◌}
use lib.ListN.{length}
use Rattle.planroot.specs.inner.Known.{Known}
use Rattle.planroot.proofs.pass_input.Given as goal

abbrev pub invariant-loop-turn : goal.invariant-loop-turn
invariant-loop-turn g l = Known l.s l.masks l.text × (length l.piece ≡ 4096)
