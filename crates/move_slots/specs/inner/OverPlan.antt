-- What the functions over a plan's open table ask and give, with the plan as one value.
use Rattle.std.specs.Prelude.{List, ℕ}
use Rattle.cells_walk.specs.declared.Plan.{Plan}
use Rattle.move_slots.specs.inner.Slots as slots
use Rattle.move_slots.specs.inner.Taking as taking

abbrev pub AtomReady : Plan → List ℕ → List ℕ → List ℕ → ℕ → ℕ → Type 0
AtomReady plan masks sizes cells i d = slots.AtomReady plan.ports plan.sets plan.table.now plan.index.now.firsts plan.index.now.ends plan.index.now.uses masks sizes cells i d

abbrev pub TakesSlots : Plan → List ℕ → List ℕ → List ℕ → ℕ → ℕ → List ℕ → List ℕ → List ℕ → List ℕ → List ℕ → List ℕ → Type 0
TakesSlots plan masks sizes cells i d one still one' still' mine' own' = slots.TakesSlots plan.ports plan.sets plan.table.now plan.index.now.firsts plan.index.now.ends plan.index.now.uses masks sizes cells i d one still one' still' mine' own'

abbrev pub JointsReady : Plan → List ℕ → List ℕ → List ℕ → ℕ → ℕ → List ℕ → List ℕ → List ℕ → Type 0
JointsReady plan masks sizes cells i d mine own joint = slots.JointsReady plan.ports plan.sets plan.table.now plan.index.now.firsts plan.index.now.ends plan.index.now.uses masks sizes cells i d mine own joint

abbrev pub TakesJoints : Plan → List ℕ → List ℕ → List ℕ → ℕ → ℕ → List ℕ → List ℕ → List ℕ → List ℕ → Type 0
TakesJoints plan masks sizes cells i d mine own joint joint' = slots.TakesJoints plan.ports plan.sets plan.table.now plan.index.now.firsts plan.index.now.ends plan.index.now.uses masks sizes cells i d mine own joint joint'

abbrev pub SlotReady : Plan → List ℕ → List ℕ → List ℕ → ℕ → ℕ → ℕ → List ℕ → Type 0
SlotReady plan masks sizes cells i d slot out = taking.SlotReady plan.ports plan.table.now plan.index.now.firsts plan.index.now.ends plan.index.now.uses masks sizes cells i d slot out

abbrev pub SlotGives : Plan → List ℕ → List ℕ → List ℕ → ℕ → ℕ → ℕ → List ℕ → List ℕ → ℕ → Type 0
SlotGives plan masks sizes cells i d slot before after r = taking.SlotGives plan.ports plan.table.now plan.index.now.firsts plan.index.now.ends plan.index.now.uses masks sizes cells i d slot before after r

abbrev pub SlotTaking : Plan → List ℕ → List ℕ → List ℕ → ℕ → ℕ → ℕ → List ℕ → List ℕ → List ℕ → List ℕ → Type 0
SlotTaking plan masks sizes cells i d slot mine own one still = taking.SlotTaking plan.ports plan.table.now plan.index.now.firsts plan.index.now.ends plan.index.now.uses masks sizes cells i d slot mine own one still

abbrev pub SlotStep : Plan → List ℕ → List ℕ → List ℕ → ℕ → ℕ → ℕ → List ℕ → List ℕ → List ℕ → List ℕ → List ℕ → List ℕ → List ℕ → List ℕ → Type 0
SlotStep plan masks sizes cells i d slot mine own one still mine' own' one' still' = taking.SlotStep plan.ports plan.table.now plan.index.now.firsts plan.index.now.ends plan.index.now.uses masks sizes cells i d slot mine own one still mine' own' one' still'
