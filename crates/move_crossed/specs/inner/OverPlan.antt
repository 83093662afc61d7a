-- What the functions over a plan's open table ask and give, with the plan as one value.
use Rattle.logic.specs.declared.Move.{Move}
use Rattle.std.specs.Prelude.{List, ℕ}
use Rattle.cells_walk.specs.declared.Plan.{Plan}
use Rattle.move_crossed.specs.inner.Crossed as crossed

abbrev pub ShareAsked : Plan → List ℕ → List ℕ → List ℕ → ℕ → ℕ → Move → Type 0
ShareAsked plan masks asked cells i d m = crossed.ShareAsked plan.ports plan.table.now plan.index.now.firsts plan.index.now.ends plan.index.now.uses masks asked cells i d m

abbrev pub ShareGiven : Plan → List ℕ → List ℕ → List ℕ → ℕ → ℕ → Move → ℕ → Type 0
ShareGiven plan masks asked cells i d m r = crossed.ShareGiven plan.ports plan.table.now plan.index.now.firsts plan.index.now.ends plan.index.now.uses masks asked cells i d m r

abbrev pub CrossedReady : Plan → List ℕ → List ℕ → Move → List ℕ → ℕ → Type 0
CrossedReady plan masks cells m list count = crossed.CrossedReady plan.ports plan.sets plan.table.now plan.index.now.firsts plan.index.now.ends plan.index.now.uses masks cells m list count

abbrev pub CrossedGives : Plan → List ℕ → List ℕ → Move → List ℕ → ℕ → ℕ → Type 0
CrossedGives plan masks cells m list count r = crossed.CrossedGives plan.ports plan.sets plan.table.now plan.index.now.firsts plan.index.now.ends plan.index.now.uses masks cells m list count r
