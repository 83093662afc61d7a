-- What the functions over a plan's open table ask and give, with the plan as one value.
use Rattle.std.specs.Prelude.{List, ℕ}
use Rattle.cells_walk.specs.declared.Plan.{Plan}
use Rattle.move_fill.specs.inner.Filling as filling

abbrev pub FillReady : Plan → List ℕ → List ℕ → List ℕ → List ℕ → List ℕ → List ℕ → Type 0
FillReady plan masks cells one still joint lists = filling.FillReady plan.ports plan.sets plan.table.now plan.index.now.firsts plan.index.now.ends plan.index.now.uses masks cells one still joint lists
