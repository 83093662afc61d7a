-- What the functions over a plan's open table ask and give, with the plan as one value.
use Rattle.logic.specs.declared.Move.{Move}
use Rattle.std.specs.Prelude.{List, ℕ}
use Rattle.cells_walk.specs.declared.Plan.{Plan}
use Rattle.move_try.specs.inner.Trying as trying

abbrev pub TryReady : Plan → List ℕ → List ℕ → Move → List ℕ → Type 0
TryReady plan masks cells m work = trying.TryReady plan.ports plan.sets plan.table.now plan.index.now.firsts plan.index.now.ends plan.index.now.uses masks cells m work

abbrev pub LegalMove : Plan → List ℕ → List ℕ → Move → Type 0
LegalMove plan masks cells m = trying.LegalMove plan.ports plan.sets plan.table.now plan.index.now.firsts plan.index.now.ends plan.index.now.uses masks cells m
