-- The answer of grounds 5 to 9 over a stored tree.
use Rattle.std.specs.Prelude.{◌≡◌, List, ℕ, Result, IfOk}
use Rattle.logic.specs.declared.refusal.Refusal.{Refusal}
use Rattle.logic.specs.Refusal.{answer_number}
use Rattle.logic.specs.Formula.{node_count}
use Rattle.logic.specs.Cells.{cell_count}
use Rattle.text_tree.specs.Tree.{Tree, Declared, letters_of}
use Rattle.text_tree.specs.inner.Stored.{Stored}
use Rattle.text_grounds.specs.declared.CoreSize.{CoreSize}
use Rattle.text_core.specs.Core.{core_of}
use Rattle.text_core.specs.Names.{Lettered}
use Rattle.text_core.specs.inner.Refusal.{core_refusal}

-- "Reading returns node count and cell total"; "The answer is the number with all other fields 0."
pub record Answered (u : ℕ) (sets : List Declared) (a : Tree) (r : Result CoreSize Refusal) : Type 0 where
  pub refused-is : answer_number r ≡ core_refusal u sets a
  pub sizes-are : IfOk r (λ x. (x.nodes ≡ node_count (core_of (letters_of sets) a)) × (x.cells ≡ cell_count u (core_of (letters_of sets) a) 0))

-- Of every declaration that has these letters, and every tree that the table keeps.
unfoldable pub Answers : List ℕ → ℕ → List ℕ → ℕ → Result CoreSize Refusal → Type 0
Answers t e letters u r = (sets : List Declared) (a : Tree) → letters_of sets ≡ letters → Stored t e a → Lettered a → Answered u sets a r
