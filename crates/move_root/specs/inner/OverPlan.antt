-- What the functions over a plan's open table ask and give, with the plan as one value.
use Rattle.logic.specs.declared.Move.{Move}
use Rattle.move_tables.specs.declared.FlipTables.{FlipTables}
use Rattle.move_tables.specs.declared.Left.{Left}
use Rattle.std.specs.Prelude.{List, ℕ}
use Rattle.cells_walk.specs.declared.Plan.{Plan}
use Rattle.move_root.specs.inner.Telling as telling

abbrev pub BothAsked : Plan → List ℕ → List ℕ → Move → List ℕ → ℕ → Type 0
BothAsked plan masks cells m list count = telling.BothAsked plan.ports plan.sets plan.table.now plan.index.now.firsts plan.index.now.ends plan.index.now.uses masks cells m list count

abbrev pub BothRead : Plan → List ℕ → List ℕ → Move → List ℕ → ℕ → ℕ → Type 0
BothRead plan masks cells m list count r = telling.BothRead plan.ports plan.sets plan.table.now plan.index.now.firsts plan.index.now.ends plan.index.now.uses masks cells m list count r

abbrev pub RootAsked : Plan → List ℕ → List ℕ → FlipTables → Move → List ℕ → Type 0
RootAsked plan masks cells tables m work = telling.RootAsked plan.ports plan.sets plan.table.now plan.index.now.firsts plan.index.now.ends plan.index.now.uses masks cells tables.one.now tables.still.now tables.joint.now tables.lists.now tables.left m work

abbrev pub Told : Plan → List ℕ → List ℕ → ℕ → List ℕ → List ℕ → List ℕ → List ℕ → Left → Type 0
Told plan masks cells kinds one still joint lists left = telling.Told plan.ports plan.sets plan.table.now plan.index.now.firsts plan.index.now.ends plan.index.now.uses masks cells kinds one still joint lists left

-- The same with the tables as one value.
abbrev pub TablesTold : Plan → List ℕ → List ℕ → ℕ → FlipTables → Type 0
TablesTold plan masks cells kinds tables = Told plan masks cells kinds tables.one.now tables.still.now tables.joint.now tables.lists.now tables.left
