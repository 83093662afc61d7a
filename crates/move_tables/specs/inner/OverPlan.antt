-- What the functions over a plan's open table ask and give, with the plan as one value.
use Rattle.move_tables.specs.declared.Left.{Left}
use Rattle.std.specs.Prelude.{Bool, List, ℕ}
use Rattle.cells_walk.specs.declared.Plan.{Plan}
use Rattle.move_tables.specs.inner.Taking as taking

abbrev pub TakeReady : Plan → List ℕ → List ℕ → List ℕ → ℕ → ℕ → Bool → List ℕ → List ℕ → List ℕ → List ℕ → List ℕ → List ℕ → Left → Type 0
TakeReady plan masks sizes cells i d atom mine own one still joint lists left = taking.TakeReady plan.ports plan.sets plan.table.now plan.index.now.firsts plan.index.now.ends plan.index.now.uses masks sizes cells i d atom mine own one still joint lists left

abbrev pub TakesTree : Plan → List ℕ → List ℕ → List ℕ → ℕ → ℕ → Bool → List ℕ → List ℕ → List ℕ → List ℕ → Left → List ℕ → List ℕ → List ℕ → List ℕ → Left → Type 0
TakesTree plan masks sizes cells i d transfers one still joint lists left one' still' joint' lists' left' = taking.TakesTree plan.ports plan.sets plan.table.now plan.index.now.firsts plan.index.now.ends plan.index.now.uses masks sizes cells i d transfers one still joint lists left one' still' joint' lists' left'

abbrev pub TakeAllReady : Plan → List ℕ → List ℕ → List ℕ → ℕ → ℕ → ℕ → List ℕ → List ℕ → List ℕ → List ℕ → List ℕ → List ℕ → Left → Type 0
TakeAllReady plan masks sizes cells i until d mine own one still joint lists left = taking.TakeAllReady plan.ports plan.sets plan.table.now plan.index.now.firsts plan.index.now.ends plan.index.now.uses masks sizes cells i until d mine own one still joint lists left

abbrev pub TakesAll : Plan → List ℕ → List ℕ → List ℕ → ℕ → ℕ → ℕ → Bool → List ℕ → List ℕ → List ℕ → List ℕ → Left → List ℕ → List ℕ → List ℕ → List ℕ → Left → Type 0
TakesAll plan masks sizes cells i until d transfers one still joint lists left one' still' joint' lists' left' = taking.TakesAll plan.ports plan.sets plan.table.now plan.index.now.firsts plan.index.now.ends plan.index.now.uses masks sizes cells i until d transfers one still joint lists left one' still' joint' lists' left'
