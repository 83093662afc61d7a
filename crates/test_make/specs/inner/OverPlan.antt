-- What the functions over a plan's open table ask and give, with the plan as one value.
use Rattle.std.specs.Prelude.{List, ℕ}
use Rattle.cells_walk.specs.declared.Plan.{Plan}
use Rattle.test_make.specs.inner.Putting as putting

abbrev pub PortReady : Plan → List ℕ → List ℕ → ℕ → Type 0
PortReady plan masks cells p = putting.PortReady plan.ports plan.sets plan.table.now plan.index.now.firsts plan.index.now.ends plan.index.now.uses masks cells p
