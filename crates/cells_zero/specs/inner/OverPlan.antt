-- What the functions over a plan's open table ask and give, with the plan as one value.
use Rattle.std.specs.Prelude.{Bool, List, ℕ}
use Rattle.cells_walk.specs.declared.Plan.{Plan}
use Rattle.cells_zero.specs.inner.Zero as zero

abbrev pub ZeroReady : Plan → List ℕ → ℕ → ℕ → Type 0
ZeroReady plan cells i place = zero.ZeroReady plan.table.now plan.index.now.firsts plan.index.now.ends plan.index.now.uses cells i place

abbrev pub ZeroTells : Plan → List ℕ → ℕ → ℕ → ℕ → Bool → Type 0
ZeroTells plan cells i place word r = zero.ZeroTells plan.table.now plan.index.now.firsts plan.index.now.ends plan.index.now.uses cells i place word r
