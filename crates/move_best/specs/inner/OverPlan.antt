-- What the functions over a plan's open table ask and give, with the plan as one value.
use Rattle.move_rank.specs.declared.Choice.{Choice}
use Rattle.move_tables.specs.declared.FlipTables.{FlipTables}
use Rattle.std.specs.Prelude.{List, ℕ}
use Rattle.cells_walk.specs.declared.Plan.{Plan}
use Rattle.move_best.specs.inner.Choosing as choosing

abbrev pub SearchRoom : Plan → List ℕ → List ℕ → ℕ → FlipTables → List ℕ → Type 0
SearchRoom plan masks cells kinds tables work = choosing.SearchRoom plan.ports plan.sets plan.table.now plan.index.now.firsts plan.index.now.ends plan.index.now.uses masks cells kinds tables.one.now tables.still.now tables.joint.now tables.lists.now tables.left work

abbrev pub BestAsked : Plan → List ℕ → List ℕ → ℕ → Type 0
BestAsked plan masks cells own = choosing.BestAsked plan.ports plan.sets plan.table.now plan.index.now.firsts plan.index.now.ends plan.index.now.uses masks cells own

abbrev pub WriteRoom : Plan → List ℕ → List ℕ → ℕ → FlipTables → Choice → List ℕ → List (List ℕ) → Type 0
WriteRoom plan masks cells kinds tables best work list = choosing.WriteRoom plan.ports plan.sets plan.table.now plan.index.now.firsts plan.index.now.ends plan.index.now.uses masks cells kinds tables.one.now tables.still.now tables.joint.now tables.lists.now tables.left best work list

abbrev pub ListRoom : Plan → List ℕ → List ℕ → ℕ → FlipTables → Choice → List (List ℕ) → Type 0
ListRoom plan masks cells kinds tables best list = choosing.ListRoom plan.ports plan.sets plan.table.now plan.index.now.firsts plan.index.now.ends plan.index.now.uses masks cells kinds tables.one.now tables.still.now tables.joint.now tables.lists.now tables.left best list
