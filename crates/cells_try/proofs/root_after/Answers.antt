use Rattle.std.proofs.Common.{refl}
use Rattle.cells_visit.proofs.Rooted.{root-ready, root-gives}
use Rattle.cells_try.proofs.root_after.Goals as goal

pub cell_after-requires : goal.cell_after-requires
cell_after-requires c =
    root-ready _ _ _ _ _ _ _ _ _ c.requires _ refl _ c.first_word.ensures

pub returns : goal.returns
returns c =
    root-gives _ _ _ _ _ _ _ _ _ c.requires _ refl _ _ c.first_word.ensures c.cell_after.ensures
