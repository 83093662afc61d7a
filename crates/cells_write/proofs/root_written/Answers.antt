use Rattle.std.proofs.Common.{refl}
use Rattle.cells_visit.proofs.Rooted.{root-ready, root-moved}
use Rattle.cells_write.proofs.root_written.Goals as goal

pub cell_written-requires : goal.cell_written-requires
cell_written-requires c =
    root-ready _ _ _ _ _ _ _ _ _ c.requires _ refl _ c.first_word.ensures

pub returns : goal.returns
returns c =
    root-moved _ _ _ _ _ _ _ _ _ c.requires _ refl _ _ _ c.first_word.ensures c.cell_written.ensures
