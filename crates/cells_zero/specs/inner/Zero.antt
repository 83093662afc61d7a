-- An "or" of which a child is 0 that a change does not touch: its new number is 0, whatever the others come to.
use Rattle.std.specs.Prelude.{◌≡◌, Bool, true, List, ℕ, ◌+◌, ◌*◌, ◌≤◌, ◌<◌, length, get_or}
use Rattle.logic.specs.Formula.{Node, Forest, tree, node_count}
use Rattle.logic.specs.Configuration.{Configuration, in_mask}
use Rattle.logic.specs.Truth.{Tuple}
use Rattle.logic.specs.Cells.{place_of, cell_count}
use Rattle.logic.specs.Penalty.{least}
use Rattle.logic.specs.Change.{Change, some_of, member_hit, touched, new_numbers, cell_of, renewals, new_cell}
use Rattle.logic.proofs.Lists.{TupleOf}
use Rattle.table_format.specs.inner.Index.{forest_uses}
use Rattle.cells_walk.specs.inner.Nodes.{IndexHolds, Fitting}

-- The word of a tuple, of which only the bits that a tree uses count.
pub record HitFor (used : ℕ) (ch : Change) (e : Tuple) (word : ℕ) : Type 0 where
  pub members : (S v : ℕ) → S < 16 → v < 3 → in_mask used (4 * S + v) ≡ true → in_mask word (4 * S + v) ≡ some_of (member_hit v S e) ch.pairs
  pub sizes : (S : ℕ) → S < 16 → in_mask used (4 * S + 3) ≡ true → in_mask word (4 * S + 3) ≡ ch.resized S

-- A tree of the formula, as the tables have it.
pub record TreeStands (u sets : ℕ) (bytes firsts ends uses cells : List ℕ) (i : ℕ) (n : Node) (c s : Forest) (b d : ℕ) : Type 0 where
  pub holds : IndexHolds u bytes firsts ends uses i (tree n c s) b d
  pub fitting : Fitting sets (tree n c s) d
  pub sets16 : sets ≤ 16
  pub room : b + cell_count u (tree n c s) d ≤ length cells
  pub nodes : i + node_count (tree n c s) ≤ 512

-- One of its cells.
pub record CellStands (u sets : ℕ) (bytes firsts ends uses cells : List ℕ) (i : ℕ) (n : Node) (c s : Forest) (b d : ℕ) (e : Tuple) (place : ℕ) : Type 0 where
  pub stands : TreeStands u sets bytes firsts ends uses cells i n c s b d
  pub tuple : TupleOf u d e
  pub place_is : place ≡ place_of u e

pub record ZeroReady (bytes firsts ends uses cells : List ℕ) (i place : ℕ) : Type 0 where
  pub ports : ℕ
  pub sets : ℕ
  pub node : Node
  pub children : Forest
  pub siblings : Forest
  pub first : ℕ
  pub depth : ℕ
  pub tuple : Tuple
  pub visit : CellStands ports sets bytes firsts ends uses cells i node children siblings first depth tuple place

-- If the answer is yes, the cell's new number is 0 after every change of this word that touches it.
unfoldable pub ZeroTells : List ℕ → List ℕ → List ℕ → List ℕ → List ℕ → ℕ → ℕ → ℕ → Bool → Type 0
ZeroTells bytes firsts ends uses cells i place word r =
    r ≡ true
    → (u sets : ℕ) (n : Node) (c s : Forest) (b d : ℕ) (e : Tuple) → CellStands u sets bytes firsts ends uses cells i n c s b d e place
    → (k : Configuration) (ch : Change) → HitFor (get_or uses i 0) ch e word → touched ch n c e ≡ true
    → new_cell u k ch (cell_of u cells) n c b d e ≡ 0

-- The cells of a forest's trees at a tuple, as the tables have them; the trees end at node `until`.
pub record TreesStand (u sets : ℕ) (bytes firsts ends uses cells : List ℕ) (i until : ℕ) (f : Forest) (b d : ℕ) (e : Tuple) (place : ℕ) : Type 0 where
  pub holds : IndexHolds u bytes firsts ends uses i f b d
  pub fitting : Fitting sets f d
  pub sets16 : sets ≤ 16
  pub room : b + cell_count u f d ≤ length cells
  pub nodes : i + node_count f ≤ 512
  pub tuple : TupleOf u d e
  pub place_is : place ≡ place_of u e
  pub ends_at : until ≡ i + node_count f

pub record TreesReady (firsts ends uses cells : List ℕ) (i until place : ℕ) : Type 0 where
  pub ports : ℕ
  pub sets : ℕ
  pub bytes : List ℕ
  pub forest : Forest
  pub first : ℕ
  pub depth : ℕ
  pub tuple : Tuple
  pub visit : TreesStand ports sets bytes firsts ends uses cells i until forest first depth tuple place

-- If the answer is yes, the least of their new numbers is 0.
unfoldable pub TreesTell : List ℕ → List ℕ → List ℕ → List ℕ → ℕ → ℕ → ℕ → ℕ → Bool → Type 0
TreesTell firsts ends uses cells i until place word r =
    r ≡ true
    → (u sets : ℕ) (bytes : List ℕ) (f : Forest) (b d : ℕ) (e : Tuple) → TreesStand u sets bytes firsts ends uses cells i until f b d e place
    → (k : Configuration) (ch : Change) → HitFor (forest_uses f) ch e word
    → least (new_numbers (renewals u k ch (cell_of u cells) f b d e)) ≡ 0
