-- What the functions over a plan's open table ask and give, with the plan as one value.
use Rattle.std.specs.Prelude.{List, ℕ}
use Rattle.cells_walk.specs.declared.Plan.{Plan}
use Rattle.cells_both.specs.inner.Both as both
use Rattle.cells_both.specs.inner.Steps as steps

abbrev pub BothReady : Plan → List ℕ → List ℕ → List ℕ → ℕ → ℕ → ℕ → ℕ → ℕ → ℕ → Type 0
BothReady plan masks sizes cells i d members resized p q = both.BothReady plan.ports plan.table.now plan.index.now.firsts plan.index.now.ends plan.index.now.uses masks sizes cells i d members resized p q

abbrev pub BothGives : Plan → List ℕ → List ℕ → List ℕ → ℕ → ℕ → ℕ → ℕ → ℕ → ℕ → ℕ → Type 0
BothGives plan masks sizes cells i d members resized p q r = both.BothGives plan.ports plan.table.now plan.index.now.firsts plan.index.now.ends plan.index.now.uses masks sizes cells i d members resized p q r

abbrev pub FromReady : Plan → List ℕ → List ℕ → List ℕ → ℕ → ℕ → ℕ → ℕ → ℕ → ℕ → ℕ → ℕ → ℕ → ℕ → ℕ → ℕ → Type 0
FromReady plan masks sizes cells i d members resized p q l place digits pword qword left = steps.FromReady plan.ports plan.table.now plan.index.now.firsts plan.index.now.ends plan.index.now.uses masks sizes cells i d members resized p q l place digits pword qword left

abbrev pub FromGives : Plan → List ℕ → List ℕ → List ℕ → ℕ → ℕ → ℕ → ℕ → ℕ → ℕ → ℕ → ℕ → ℕ → ℕ → ℕ → ℕ → Type 0
FromGives plan masks sizes cells i d members resized p q l place digits pword qword r = steps.FromGives plan.ports plan.table.now plan.index.now.firsts plan.index.now.ends plan.index.now.uses masks sizes cells i d members resized p q l place digits pword qword r

abbrev pub PortGives : Plan → List ℕ → List ℕ → List ℕ → ℕ → ℕ → ℕ → ℕ → ℕ → ℕ → ℕ → ℕ → ℕ → ℕ → ℕ → ℕ → ℕ → Type 0
PortGives plan masks sizes cells i d members resized p q l place digits pword qword x r = steps.PortGives plan.ports plan.table.now plan.index.now.firsts plan.index.now.ends plan.index.now.uses masks sizes cells i d members resized p q l place digits pword qword x r

abbrev pub PortsGive : Plan → List ℕ → List ℕ → List ℕ → ℕ → ℕ → ℕ → ℕ → ℕ → ℕ → ℕ → ℕ → ℕ → ℕ → ℕ → ℕ → ℕ → Type 0
PortsGive plan masks sizes cells i d members resized p q l place digits pword qword m r = steps.PortsGive plan.ports plan.table.now plan.index.now.firsts plan.index.now.ends plan.index.now.uses masks sizes cells i d members resized p q l place digits pword qword m r
