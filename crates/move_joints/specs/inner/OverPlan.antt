-- What the functions over a plan's open table ask and give, with the plan as one value.
use Rattle.std.specs.Prelude.{Bool, List, ℕ}
use Rattle.cells_walk.specs.declared.Plan.{Plan}
use Rattle.move_joints.specs.inner.Joints as joints

abbrev pub PairOf : Plan → List ℕ → List ℕ → List ℕ → ℕ → ℕ → ℕ → ℕ → Type 0
PairOf plan masks sizes cells i d s t = joints.PairOf plan.ports plan.table.now plan.index.now.firsts plan.index.now.ends plan.index.now.uses masks sizes cells i d s t

abbrev pub PairGives : Plan → List ℕ → List ℕ → List ℕ → ℕ → ℕ → ℕ → ℕ → Bool → List ℕ → List ℕ → ℕ → Type 0
PairGives plan masks sizes cells i d s t tested before after r = joints.PairGives plan.ports plan.table.now plan.index.now.firsts plan.index.now.ends plan.index.now.uses masks sizes cells i d s t tested before after r

abbrev pub PairAdded : Plan → List ℕ → List ℕ → List ℕ → ℕ → ℕ → ℕ → ℕ → ℕ → Bool → List ℕ → List ℕ → List ℕ → List ℕ → Type 0
PairAdded plan masks sizes cells i d s t test tested mine own joint joint' = joints.PairAdded plan.ports plan.table.now plan.index.now.firsts plan.index.now.ends plan.index.now.uses masks sizes cells i d s t test tested mine own joint joint'

abbrev pub PairTaken : Plan → List ℕ → List ℕ → List ℕ → ℕ → ℕ → ℕ → List ℕ → List ℕ → List ℕ → List ℕ → Type 0
PairTaken plan masks sizes cells i d k mine own joint joint' = joints.PairTaken plan.ports plan.sets plan.table.now plan.index.now.firsts plan.index.now.ends plan.index.now.uses masks sizes cells i d k mine own joint joint'
