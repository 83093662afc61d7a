-- Grounds 5 to 9 as one number.
use Rattle.std.specs.Prelude.{List, ℕ}
use Rattle.logic.specs.Moves.{refusal}
use Rattle.text_tree.specs.Tree.{Tree, Declared}
use Rattle.text_core.specs.Grounds.{core_grounds}

unfoldable pub core_refusal : ℕ → List Declared → Tree → ℕ
core_refusal u sets a = refusal (core_grounds u sets a)
