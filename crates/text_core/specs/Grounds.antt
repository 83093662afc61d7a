-- Grounds 5 to 9 in their order: paper 01, section Grounds for refusal.
use Rattle.std.specs.Prelude.{List, [], ◌∷◌, ℕ, ltb}
use Rattle.logic.specs.Formula.{node_count}
use Rattle.logic.specs.Cells.{cell_count}
use Rattle.logic.specs.Moves.{Ground}
use Rattle.text_tree.specs.Tree.{Tree, Declared, letters_of}
use Rattle.text_core.specs.Core.{core_of}
use Rattle.text_core.specs.Names.{ground5, ground6, ground7}

-- Grounds 5 to 9, each over the whole text, in the order in which reading tries them.
unfoldable pub core_grounds : ℕ → List Declared → Tree → List Ground
core_grounds u sets a =
    (5, ground5 sets a)
    ∷ (6, ground6 a)
    ∷ (7, ground7 a)
    ∷ (8, ltb 512 (node_count (core_of (letters_of sets) a)))
    ∷ (9, ltb 1048576 (cell_count u (core_of (letters_of sets) a) 0))
    ∷ []
