-- What the functions over a plan's open table ask and give, with the plan as one value.
use Rattle.std.specs.Prelude.{List, ℕ}
use Rattle.cells_walk.specs.declared.Plan.{Plan}
use Rattle.cells_tuples.specs.inner.Tuples as tuples

abbrev pub AllPortsReady : Plan → List ℕ → List ℕ → List ℕ → ℕ → ℕ → ℕ → ℕ → List ℕ → Type 0
AllPortsReady plan masks sizes cells i d members resized out = tuples.AllPortsReady plan.ports plan.table.now plan.index.now.firsts plan.index.now.ends plan.index.now.uses masks sizes cells i d members resized out

abbrev pub AllPortsGive : Plan → List ℕ → List ℕ → List ℕ → ℕ → ℕ → ℕ → ℕ → List ℕ → List ℕ → ℕ → Type 0
AllPortsGive plan masks sizes cells i d members resized before after r = tuples.AllPortsGive plan.ports plan.table.now plan.index.now.firsts plan.index.now.ends plan.index.now.uses masks sizes cells i d members resized before after r
