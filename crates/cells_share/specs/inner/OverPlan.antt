-- What the functions over a plan's open table ask and give, with the plan as one value.
use Rattle.cells_touch.specs.declared.Changed.{Changed}
use Rattle.std.specs.Prelude.{List, ℕ}
use Rattle.cells_walk.specs.declared.Plan.{Plan}
use Rattle.cells_share.specs.inner.Listed as listed
use Rattle.cells_share.specs.inner.Sharing as sharing

abbrev pub ListReady : Plan → Changed → List ℕ → List ℕ → List ℕ → ℕ → Type 0
ListReady plan c masks cells list count = listed.ListReady plan.ports plan.sets c plan.table.now plan.index.now.firsts plan.index.now.ends plan.index.now.uses masks cells list count

abbrev pub ListGives : Plan → Changed → List ℕ → List ℕ → List ℕ → ℕ → ℕ → Type 0
ListGives plan c masks cells list count r = listed.ListGives plan.ports plan.sets c plan.table.now plan.index.now.firsts plan.index.now.ends plan.index.now.uses masks cells list count r

abbrev pub TouchedReady : Plan → Changed → List ℕ → List ℕ → ℕ → ℕ → ℕ → ℕ → ℕ → Type 0
TouchedReady plan c masks cells i d place digits word = sharing.TouchedReady plan.ports plan.sets c plan.table.now plan.index.now.firsts plan.index.now.ends plan.index.now.uses masks cells i d place digits word

abbrev pub SharesGive : Plan → Changed → List ℕ → List ℕ → ℕ → ℕ → ℕ → ℕ → ℕ → ℕ → ℕ → Type 0
SharesGive plan c masks cells i d level place digits word r = sharing.SharesGive plan.ports plan.sets c plan.table.now plan.index.now.firsts plan.index.now.ends plan.index.now.uses masks cells i d level place digits word r

abbrev pub SharesReady : Plan → Changed → List ℕ → List ℕ → ℕ → ℕ → ℕ → ℕ → ℕ → ℕ → Type 0
SharesReady plan c masks cells i d level place digits word = sharing.SharesReady plan.ports plan.sets c plan.table.now plan.index.now.firsts plan.index.now.ends plan.index.now.uses masks cells i d level place digits word
