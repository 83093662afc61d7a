-- What the functions over a plan's open table ask and give, with the plan as one value.
use Rattle.std.specs.Prelude.{Bool, List, ℕ}
use Rattle.cells_walk.specs.declared.Plan.{Plan}
use Rattle.cells_flip.specs.inner.Flips as flips
use Rattle.cells_flip.specs.inner.Steps as steps

abbrev pub FlipReady : Plan → List ℕ → List ℕ → List ℕ → ℕ → ℕ → ℕ → ℕ → ℕ → List ℕ → Type 0
FlipReady plan masks sizes cells i count own row digits out = flips.FlipReady plan.table.now plan.index.now.firsts plan.index.now.ends plan.index.now.uses masks sizes cells i count own row digits out

abbrev pub FlipGives : Plan → List ℕ → List ℕ → List ℕ → ℕ → ℕ → ℕ → ℕ → ℕ → ℕ → List ℕ → Type 0
FlipGives plan masks sizes cells i count own row digits word out = flips.FlipGives plan.table.now plan.index.now.firsts plan.index.now.ends plan.index.now.uses masks sizes cells i count own row digits word out

abbrev pub TreesReady : Plan → List ℕ → List ℕ → List ℕ → ℕ → ℕ → ℕ → ℕ → ℕ → ℕ → List ℕ → Type 0
TreesReady plan masks sizes cells i until count own row digits out = steps.TreesReady plan.table.now plan.index.now.firsts plan.index.now.ends plan.index.now.uses masks sizes cells i until count own row digits out

abbrev pub TreesGive : Plan → List ℕ → List ℕ → List ℕ → ℕ → ℕ → ℕ → ℕ → ℕ → ℕ → ℕ → Bool → List ℕ → List ℕ → Type 0
TreesGive plan masks sizes cells i until count own row digits word add acc out = steps.TreesGive plan.table.now plan.index.now.firsts plan.index.now.ends plan.index.now.uses masks sizes cells i until count own row digits word add acc out

abbrev pub JoinReady : Plan → List ℕ → List ℕ → List ℕ → ℕ → ℕ → ℕ → ℕ → ℕ → List ℕ → Type 0
JoinReady plan masks sizes cells i count own row digits out = steps.JoinReady plan.table.now plan.index.now.firsts plan.index.now.ends plan.index.now.uses masks sizes cells i count own row digits out

abbrev pub Joins : Plan → List ℕ → List ℕ → List ℕ → ℕ → ℕ → ℕ → ℕ → ℕ → ℕ → Bool → List ℕ → List ℕ → Type 0
Joins plan masks sizes cells i count own row digits word add acc out = steps.Joins plan.table.now plan.index.now.firsts plan.index.now.ends plan.index.now.uses masks sizes cells i count own row digits word add acc out
