use mathlib.Core.Path.{◌≡◌}
use Rattle.test_change.specs.inner.Holders.{size_bits}
use Rattle.test_change.proofs.size_bits.Given as goal

abbrev pub invariant-loop-set : goal.invariant-loop-set
invariant-loop-set l = l.word ≡ size_bits l.masks l.port l.set
