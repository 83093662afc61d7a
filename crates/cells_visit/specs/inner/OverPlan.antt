-- What the functions over a plan's open table ask and give, with the plan as one value.
use Rattle.cells_sum.specs.declared.After.{After}
use Rattle.cells_sum.specs.declared.Sum.{Sum}
use Rattle.cells_touch.specs.declared.Changed.{Changed}
use Rattle.std.specs.Prelude.{Bool, List, ℕ}
use Rattle.cells_walk.specs.declared.Plan.{Plan}
use Rattle.cells_visit.specs.inner.Walking as walking
use Rattle.cells_visit.specs.inner.Writing as writing

abbrev pub TreesReady : Plan → Changed → List ℕ → List ℕ → ℕ → ℕ → ℕ → ℕ → ℕ → ℕ → Sum → Type 0
TreesReady plan c masks cells i until d place digits word acc = walking.TreesReady plan.ports plan.sets c plan.table.now plan.index.now.firsts plan.index.now.ends plan.index.now.uses masks cells i until d place digits word acc

abbrev pub TreesGive : Plan → Changed → List ℕ → List ℕ → ℕ → ℕ → ℕ → ℕ → ℕ → ℕ → Bool → Sum → Sum → Type 0
TreesGive plan c masks cells i until d place digits word add acc r = walking.TreesGive plan.ports plan.sets c plan.table.now plan.index.now.firsts plan.index.now.ends plan.index.now.uses masks cells i until d place digits word add acc r

abbrev pub CellReady : Plan → Changed → List ℕ → List ℕ → ℕ → ℕ → ℕ → ℕ → ℕ → Type 0
CellReady plan c masks cells i d place digits word = walking.CellReady plan.ports plan.sets c plan.table.now plan.index.now.firsts plan.index.now.ends plan.index.now.uses masks cells i d place digits word

abbrev pub CellGives : Plan → Changed → List ℕ → List ℕ → ℕ → ℕ → ℕ → ℕ → ℕ → After → Type 0
CellGives plan c masks cells i d place digits word r = walking.CellGives plan.ports plan.sets c plan.table.now plan.index.now.firsts plan.index.now.ends plan.index.now.uses masks cells i d place digits word r

abbrev pub CellTouched : Plan → Changed → List ℕ → List ℕ → ℕ → ℕ → ℕ → ℕ → ℕ → Type 0
CellTouched plan c masks cells i d place digits word = walking.CellTouched plan.ports plan.sets c plan.table.now plan.index.now.firsts plan.index.now.ends plan.index.now.uses masks cells i d place digits word

abbrev pub QuantifierReady : Plan → Changed → List ℕ → List ℕ → ℕ → ℕ → ℕ → ℕ → ℕ → Type 0
QuantifierReady plan c masks cells i d place digits word = walking.QuantifierReady plan.ports plan.sets c plan.table.now plan.index.now.firsts plan.index.now.ends plan.index.now.uses masks cells i d place digits word

abbrev pub PairReady : Plan → Changed → List ℕ → List ℕ → ℕ → ℕ → ℕ → ℕ → ℕ → Sum → Type 0
PairReady plan c masks cells i d row digits word acc = walking.PairReady plan.ports plan.sets c plan.table.now plan.index.now.firsts plan.index.now.ends plan.index.now.uses masks cells i d row digits word acc

abbrev pub PortsSo : Plan → Changed → List ℕ → List ℕ → ℕ → ℕ → ℕ → ℕ → ℕ → Bool → ℕ → Sum → Sum → Type 0
PortsSo plan c masks cells i d row digits word add m acc r = walking.PortsSo plan.ports plan.sets c plan.table.now plan.index.now.firsts plan.index.now.ends plan.index.now.uses masks cells i d row digits word add m acc r

abbrev pub RowReady : Plan → Changed → List ℕ → List ℕ → ℕ → ℕ → ℕ → ℕ → ℕ → List ℕ → Type 0
RowReady plan c masks cells i d row digits word out = walking.RowReady plan.ports plan.sets c plan.table.now plan.index.now.firsts plan.index.now.ends plan.index.now.uses masks cells i d row digits word out

abbrev pub RowGives : Plan → Changed → List ℕ → List ℕ → ℕ → ℕ → ℕ → ℕ → ℕ → List ℕ → ℕ → Type 0
RowGives plan c masks cells i d row digits word out changed = walking.RowGives plan.ports plan.sets c plan.table.now plan.index.now.firsts plan.index.now.ends plan.index.now.uses masks cells i d row digits word out changed

abbrev pub RowCellsReady : Plan → Changed → List ℕ → List ℕ → ℕ → ℕ → ℕ → ℕ → ℕ → Bool → List ℕ → Type 0
RowCellsReady plan c masks cells i d row digits word every out = walking.RowCellsReady plan.ports plan.sets c plan.table.now plan.index.now.firsts plan.index.now.ends plan.index.now.uses masks cells i d row digits word every out

abbrev pub RowTreesReady : Plan → Changed → List ℕ → List ℕ → ℕ → ℕ → ℕ → ℕ → ℕ → ℕ → List ℕ → ℕ → Type 0
RowTreesReady plan c masks cells i until d row digits word out before = walking.RowTreesReady plan.ports plan.sets c plan.table.now plan.index.now.firsts plan.index.now.ends plan.index.now.uses masks cells i until d row digits word out before

abbrev pub RowTreesGive : Plan → Changed → List ℕ → List ℕ → ℕ → ℕ → ℕ → ℕ → ℕ → ℕ → Bool → List ℕ → ℕ → List ℕ → ℕ → Type 0
RowTreesGive plan c masks cells i until d row digits word add acc before out changed = walking.RowTreesGive plan.ports plan.sets c plan.table.now plan.index.now.firsts plan.index.now.ends plan.index.now.uses masks cells i until d row digits word add acc before out changed

abbrev pub RowJoinReady : Plan → Changed → List ℕ → List ℕ → ℕ → ℕ → ℕ → ℕ → ℕ → List ℕ → Type 0
RowJoinReady plan c masks cells i d row digits word out = walking.RowJoinReady plan.ports plan.sets c plan.table.now plan.index.now.firsts plan.index.now.ends plan.index.now.uses masks cells i d row digits word out

abbrev pub RowJoins : Plan → Changed → List ℕ → List ℕ → ℕ → ℕ → ℕ → ℕ → ℕ → Bool → List ℕ → List ℕ → ℕ → Type 0
RowJoins plan c masks cells i d row digits word add acc out changed = walking.RowJoins plan.ports plan.sets c plan.table.now plan.index.now.firsts plan.index.now.ends plan.index.now.uses masks cells i d row digits word add acc out changed

abbrev pub CellWrites : Plan → Changed → List ℕ → List ℕ → ℕ → ℕ → ℕ → ℕ → ℕ → List ℕ → Type 0
CellWrites plan c masks old i d place digits word new = writing.CellWrites plan.ports plan.sets c plan.table.now plan.index.now.firsts plan.index.now.ends plan.index.now.uses masks old i d place digits word new

abbrev pub TreesWrite : Plan → Changed → List ℕ → List ℕ → ℕ → ℕ → ℕ → ℕ → ℕ → ℕ → List ℕ → Type 0
TreesWrite plan c masks old i until d place digits word new = writing.TreesWrite plan.ports plan.sets c plan.table.now plan.index.now.firsts plan.index.now.ends plan.index.now.uses masks old i until d place digits word new

abbrev pub PortsWrite : Plan → Changed → List ℕ → List ℕ → ℕ → ℕ → ℕ → ℕ → ℕ → List ℕ → Type 0
PortsWrite plan c masks old i d row digits word new = writing.PortsWrite plan.ports plan.sets c plan.table.now plan.index.now.firsts plan.index.now.ends plan.index.now.uses masks old i d row digits word new

abbrev pub RowWriteReady : Plan → Changed → List ℕ → List ℕ → ℕ → ℕ → ℕ → ℕ → ℕ → List ℕ → List ℕ → Type 0
RowWriteReady plan c masks cells i d row digits word old out = writing.RowWriteReady plan.ports plan.sets c plan.table.now plan.index.now.firsts plan.index.now.ends plan.index.now.uses masks cells i d row digits word old out

abbrev pub RowWrites : Plan → Changed → List ℕ → List ℕ → ℕ → ℕ → ℕ → ℕ → ℕ → List ℕ → Type 0
RowWrites plan c masks old i d row digits word new = writing.RowWrites plan.ports plan.sets c plan.table.now plan.index.now.firsts plan.index.now.ends plan.index.now.uses masks old i d row digits word new

abbrev pub RowTreesWrite : Plan → Changed → List ℕ → List ℕ → ℕ → ℕ → ℕ → ℕ → ℕ → ℕ → List ℕ → Type 0
RowTreesWrite plan c masks old i until d row digits word new = writing.RowTreesWrite plan.ports plan.sets c plan.table.now plan.index.now.firsts plan.index.now.ends plan.index.now.uses masks old i until d row digits word new
