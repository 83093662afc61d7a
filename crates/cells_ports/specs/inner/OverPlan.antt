-- What the functions over a plan's open table ask and give, with the plan as one value.
use Rattle.std.specs.Prelude.{List, ℕ}
use Rattle.cells_walk.specs.declared.Plan.{Plan}
use Rattle.cells_ports.specs.inner.Ports as ports
use Rattle.cells_ports.specs.inner.Rows as rows

abbrev pub RowPortsReady : Plan → List ℕ → List ℕ → List ℕ → ℕ → ℕ → ℕ → ℕ → ℕ → ℕ → List ℕ → Type 0
RowPortsReady plan masks sizes cells i d row digits members resized out = ports.RowPortsReady plan.ports plan.table.now plan.index.now.firsts plan.index.now.ends plan.index.now.uses masks sizes cells i d row digits members resized out

abbrev pub RowPortsGive : Plan → List ℕ → List ℕ → List ℕ → ℕ → ℕ → ℕ → ℕ → ℕ → ℕ → List ℕ → List ℕ → ℕ → Type 0
RowPortsGive plan masks sizes cells i d row digits members resized before after r = ports.RowPortsGive plan.ports plan.table.now plan.index.now.firsts plan.index.now.ends plan.index.now.uses masks sizes cells i d row digits members resized before after r

abbrev pub PortRowGives : Plan → List ℕ → List ℕ → List ℕ → ℕ → ℕ → ℕ → ℕ → ℕ → ℕ → ℕ → List ℕ → Type 0
PortRowGives plan masks sizes cells i d row digits members resized x out = rows.PortRowGives plan.ports plan.table.now plan.index.now.firsts plan.index.now.ends plan.index.now.uses masks sizes cells i d row digits members resized x out

abbrev pub OverReady : Plan → List ℕ → List ℕ → List ℕ → ℕ → ℕ → ℕ → ℕ → ℕ → ℕ → List ℕ → List ℕ → Type 0
OverReady plan masks sizes cells i d row digits members resized base out = rows.OverReady plan.ports plan.table.now plan.index.now.firsts plan.index.now.ends plan.index.now.uses masks sizes cells i d row digits members resized base out

abbrev pub OwnGives : Plan → List ℕ → List ℕ → List ℕ → ℕ → ℕ → ℕ → ℕ → ℕ → ℕ → List ℕ → List ℕ → Type 0
OwnGives plan masks sizes cells i d row digits members resized before after = rows.OwnGives plan.ports plan.table.now plan.index.now.firsts plan.index.now.ends plan.index.now.uses masks sizes cells i d row digits members resized before after

abbrev pub OuterGives : Plan → List ℕ → List ℕ → List ℕ → ℕ → ℕ → ℕ → ℕ → ℕ → ℕ → ℕ → ℕ → List ℕ → List ℕ → Type 0
OuterGives plan masks sizes cells i d row digits members resized v start before after = rows.OuterGives plan.ports plan.table.now plan.index.now.firsts plan.index.now.ends plan.index.now.uses masks sizes cells i d row digits members resized v start before after

abbrev pub OverGives : Plan → List ℕ → List ℕ → List ℕ → ℕ → ℕ → ℕ → ℕ → ℕ → ℕ → List ℕ → List ℕ → Type 0
OverGives plan masks sizes cells i d row digits members resized before after = rows.OverGives plan.ports plan.table.now plan.index.now.firsts plan.index.now.ends plan.index.now.uses masks sizes cells i d row digits members resized before after
