-- "A text is accepted exactly when 01's grammar, limits and table lengths admit it" (the letter, demand 2): what admits a text,
-- by the grammar itself and not by the parser.
use Rattle.std.specs.Prelude.{◌≡◌, true, false, List, [], ℕ, ◌≤◌, length, take}
use Rattle.logic.specs.Formula.{Plan, node_count}
use Rattle.logic.specs.Configuration.{in_masks, configured, mask_count}
use Rattle.logic.specs.Cells.{own_cells}
use Rattle.text_tree.specs.Tree.{Tree, Declared, letters_of, too_deep}
use Rattle.text_tokens.specs.Tokens.{known_bytes}
use Rattle.text_grammar.specs.Grammar.{Text, symbols}
use Rattle.text_core.specs.Names.{ground5, ground6, ground7}
use Rattle.text_core.specs.Core.{plan_of}
use Rattle.text_core.specs.Meaning.{TreeTrue}
use Rattle.contracts.specs.Read.{table_length}

-- Over u ports, with an output table of so many bytes; each field is the opposite of the ground that its comment names.
pub record Admitted (u : ℕ) (s : List ℕ) (room : ℕ) : Type 0 where
  -- 10
  pub ports1 : 1 ≤ u
  pub ports64 : u ≤ 64
  -- 1, 2
  pub short : length s ≤ 4096
  pub known : known_bytes s ≡ true
  -- 3
  pub sets : List Declared
  pub tree : Tree
  pub derived : Text (symbols s) sets tree
  -- 4
  pub shallow : too_deep 0 tree ≡ false
  -- 5, 6, 7
  pub names : ground5 sets tree ≡ false
  pub constants : ground6 tree ≡ false
  pub quantifiers : ground7 tree ≡ false
  -- 8, 9
  pub few-nodes : node_count (plan_of u sets tree).formula ≤ 512
  pub few-cells : own_cells (plan_of u sets tree) ≤ 1048576
  -- 12
  pub fits : table_length (plan_of u sets tree) ≤ room

-- The plan that an admitted text says.
unfoldable pub admitted_plan : {u : ℕ} {s : List ℕ} {room : ℕ} → Admitted u s room → Plan
admitted_plan {u} A = plan_of u A.sets A.tree

-- The text is true over u ports under the masks of its sets and of the ports in test: the truth of its own tree, arrows and negations
-- included.
pub record TextTrue (u : ℕ) (masks s : List ℕ) : Type 0 where
  pub sets : List Declared
  pub tree : Tree
  pub derived : Text (symbols s) sets tree
  pub holds : TreeTrue u (configured u (length sets) (in_masks (take (mask_count (length sets)) masks))) (letters_of sets) [] tree
