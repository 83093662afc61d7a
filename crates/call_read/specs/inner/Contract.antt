-- What the parts of reading ask and ensure. Internal to the crate.
use Rattle.std.specs.Prelude.{◌≡◌, List, [], ◌∷◌, ◌++◌, ℕ, ◌≤◌, ltb, length, take, Result}
use Rattle.logic.specs.Moves.{refusal}
use Rattle.text_tree.specs.Tree.{Tree, Declared, letters_of}
use Rattle.text_tree.specs.inner.Stored.{Stored}
use Rattle.text_grammar.specs.Parser.{read}
use Rattle.text_core.specs.Names.{Lettered}
use Rattle.text_core.specs.Core.{plan_of}
use Rattle.text_core.specs.Grounds.{core_grounds}
use Rattle.logic.specs.declared.refusal.Refusal.{Refusal}
use Rattle.contracts.specs.declared.Read.{Read}
use Rattle.contracts.specs.Read.{table_length, read_or, ReadPromise}

-- A text in the grammar: its tree in the table t, the first of its set letters in another. Ground 5 is decided by the first 17.
pub record TextKept (t : List ℕ) (e : ℕ) (letters : List ℕ) (n : ℕ) (sets : List Declared) (a : Tree) : Type 0 where
  pub stored : Stored t e a
  pub lettered : Lettered a
  pub letters-are : take n letters ≡ take 17 (letters_of sets)

pub record SomeText (u : ℕ) (t : List ℕ) (e : ℕ) (letters : List ℕ) (n : ℕ) : Type 0 where
  pub ports1 : 1 ≤ u
  pub ports64 : u ≤ 64
  pub within : n ≤ length letters
  pub sets : List Declared
  pub tree : Tree
  pub kept : TextKept t e letters n sets tree

-- Grounds 5 to 9 and 12, and the table.
unfoldable pub Finishes : ℕ → List ℕ → ℕ → List ℕ → ℕ → List ℕ → List ℕ → Result Read Refusal → Type 0
Finishes u t e letters n before after r = (sets : List Declared) (a : Tree) → TextKept t e letters n sets a
    → ReadPromise (read_or (refusal (core_grounds u sets a ++ ((12, ltb (length before) (table_length (plan_of u sets a))) ∷ []))) u (read sets a) before) r after
