-- What the functions over a plan's open table ask and give, with the plan as one value.
use Rattle.logic.specs.declared.Move.{Move}
use Rattle.std.specs.Prelude.{List, ℕ}
use Rattle.cells_walk.specs.declared.Plan.{Plan}
use Rattle.move_hard.specs.inner.Hard as hard

abbrev pub HardReady : Plan → List ℕ → List ℕ → Move → List ℕ → List ℕ → ℕ → Type 0
HardReady plan masks cells m work list count = hard.HardReady plan.ports plan.sets plan.table.now plan.index.now.firsts plan.index.now.ends plan.index.now.uses masks cells m work list count

abbrev pub HardGives : Plan → List ℕ → List ℕ → Move → List ℕ → ℕ → ℕ → Type 0
HardGives plan masks cells m list count r = hard.HardGives plan.ports plan.sets plan.table.now plan.index.now.firsts plan.index.now.ends plan.index.now.uses masks cells m list count r
