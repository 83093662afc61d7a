use mathlib.Core.Path.{refl}
use borrow.Author.Tests.{lt-ltb, le-ltb}
use Rattle.move_tables.specs.inner.Taking.{is_sum}
use Rattle.move_atoms.proofs.is_sum.Goals as goal

pub returns-then-kind-lt5 : goal.returns-then-kind-lt5
unfolding is_sum
returns-then-kind-lt5 c = rw (lt-ltb _ _ c.if-kind-lt5.true) c.adds_of.ensures

pub returns : goal.returns
unfolding is_sum
returns c = rw (le-ltb _ _ c.if-kind-lt5.false) refl
