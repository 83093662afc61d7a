-- What the functions over a plan's open table ask and give, with the plan as one value.
use Rattle.cells_touch.specs.declared.Changed.{Changed}
use Rattle.std.specs.Prelude.{List, ℕ}
use Rattle.cells_walk.specs.declared.Plan.{Plan}
use Rattle.cells_walk.specs.inner.Root as root
use Rattle.cells_walk.specs.inner.Visit as visit

abbrev pub RootReady : Plan → Changed → List ℕ → List ℕ → Type 0
RootReady plan c masks cells = root.RootReady plan.ports plan.sets c plan.table.now plan.index.now.firsts plan.index.now.ends plan.index.now.uses masks cells

abbrev pub RecordReady : Plan → ℕ → ℕ → List ℕ → ℕ → Type 0
RecordReady plan d i masks digits = visit.RecordReady plan.ports plan.sets d plan.table.now i masks digits

abbrev pub RecordAfresh : Plan → ℕ → ℕ → List ℕ → ℕ → ℕ → Type 0
RecordAfresh plan d i masks digits r = visit.RecordAfresh plan.ports plan.sets d plan.table.now i masks digits r
