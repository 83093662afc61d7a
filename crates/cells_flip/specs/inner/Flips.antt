-- Cells of trees without quantifiers under flips: what they come to where only the hit literals are told.
use Rattle.std.specs.Prelude.{◌≡◌, ◌≢◌, true, false, not, ◌&&◌, List, ℕ, ◌+◌, ◌*◌, ◌^◌, ◌/◌, ◌%◌, ◌≤◌, ◌<◌, leb, length, get_or}
use Rattle.logic.specs.Formula.{Node, Forest, tree, kind_number, node_count}
use Rattle.logic.specs.inner.Agreement.{listed}
use Rattle.logic.specs.inner.Literals.{Every}
use Rattle.logic.specs.Configuration.{Configuration, in_mask, in_masks}
use Rattle.logic.specs.Truth.{Tuple, port_of}
use Rattle.logic.specs.Cells.{place_of, cell_count}
use Rattle.logic.specs.Change.{Change, cell_of, new_cell}
use Rattle.logic.proofs.Lists.{TupleOf}
use Rattle.cells_walk.specs.inner.Nodes.{IndexHolds, Fitting}
use Rattle.cells_walk.specs.inner.Visit.{MasksSettled, CellsFit}

-- A change hits the literals of a tree at a tuple as a word says, which has four bits a set as the table of uses has; only the
-- bits that the tree uses count.
pub record WordFor (used : ℕ) (ch : Change) (e : Tuple) (word : ℕ) : Type 0 where
  pub members : (S v : ℕ) → S < 16 → v < 3 → in_mask used (4 * S + v) ≡ true → in_mask word (4 * S + v) ≡ listed ch.pairs S (port_of e v)
  pub sizes : (S : ℕ) → S < 16 → in_mask used (4 * S + 3) ≡ true → in_mask word (4 * S + 3) ≡ ch.resized S

-- What is asked of a configuration where the change hits: membership is the other way round than in the masks, and the sizes that
-- the tree uses are those of a list.
pub record Flipped (used : ℕ) (masks sizes : List ℕ) (ch : Change) (k : Configuration) : Type 0 where
  pub members : (S p : ℕ) → listed ch.pairs S p ≡ true → k.member S p ≡ not (in_masks masks S p)
  pub sizes-are : (S : ℕ) → S < 16 → in_mask used (4 * S + 3) ≡ true → ch.resized S ≡ true → k.size S ≡ get_or sizes S 0
  pub low : (S : ℕ) → k.size S ≤ 65

-- No node of a forest binds a variable.
unfoldable pub NoQuantifier : Node → Type 0
NoQuantifier n = (leb 1 (kind_number n) && leb (kind_number n) 2) ≡ false

unfoldable pub Flat : Forest → ℕ → Type 0
Flat f d = Every (λ n c i. NoQuantifier n) f d

-- Some cells of the nodes at depth d, side by side from `row` on, by their tuples: in a row each has another port of the variable
-- `own`; the other variables have the same port in all of them, which the digits hold. One cell alone has no such variable, and
-- `own` is no variable's number.
pub record Line (u d count own row digits : ℕ) (at : ℕ → Tuple) : Type 0 where
  pub few : count ≤ u
  pub some : 1 ≤ count
  pub tuples : (x : ℕ) → x < count → TupleOf u d (at x)
  pub places : (x : ℕ) → x < count → place_of u (at x) ≡ row + x
  pub same : (x v : ℕ) → x < count → v < d → v ≢ own → port_of (at x) v ≡ digits / 256 ^ v % 256
  pub own-port : (x : ℕ) → x < count → own < d → port_of (at x) own ≡ x

-- Such cells of a forest's trees, as the tables have them.
pub record FlipVisit (u sets : ℕ) (bytes firsts ends uses cells : List ℕ) (i : ℕ) (f : Forest) (b d count own row digits : ℕ) (at : ℕ → Tuple) : Type 0 where
  pub holds : IndexHolds u bytes firsts ends uses i f b d
  pub fitting : Fitting sets f d
  pub flat : Flat f d
  pub line : Line u d count own row digits at
  pub room : b + cell_count u f d ≤ length cells
  pub nodes : i + node_count f ≤ 512

-- What does not change meanwhile: the masks, the sizes to be asked, and the old numbers.
pub record FlipSettled (u sets : ℕ) (masks sizes cells : List ℕ) : Type 0 where
  pub masks-settled : MasksSettled u sets masks
  pub sizes-low : (S : ℕ) → get_or sizes S 0 ≤ 65
  pub cells_fit : CellsFit cells

-- Before the cells of one tree.
pub record FlipReady (bytes firsts ends uses masks sizes cells : List ℕ) (i count own row digits : ℕ) (out : List ℕ) : Type 0 where
  pub ports : ℕ
  pub sets : ℕ
  pub node : Node
  pub children : Forest
  pub siblings : Forest
  pub first : ℕ
  pub depth : ℕ
  pub at : ℕ → Tuple
  pub settled : FlipSettled ports sets masks sizes cells
  pub visit : FlipVisit ports sets bytes firsts ends uses cells i (tree node children siblings) first depth count own row digits at
  pub room : count ≤ length out

-- Its new numbers, cell by cell, after any change that hits its literals as the word says.
unfoldable pub FlipGives : List ℕ → List ℕ → List ℕ → List ℕ → List ℕ → List ℕ → List ℕ → ℕ → ℕ → ℕ → ℕ → ℕ → ℕ → List ℕ → Type 0
FlipGives bytes firsts ends uses masks sizes cells i count own row digits word out =
    (u sets : ℕ) (n : Node) (c s : Forest) (b d : ℕ) (at : ℕ → Tuple)
    → FlipSettled u sets masks sizes cells
    → FlipVisit u sets bytes firsts ends uses cells i (tree n c s) b d count own row digits at
    → (x : ℕ) → x < count → (ch : Change) (k : Configuration)
    → WordFor (get_or uses i 0) ch (at x) word → Flipped (get_or uses i 0) masks sizes ch k
    → get_or out x 0 ≡ new_cell u k ch (cell_of u cells) n c b d (at x)
