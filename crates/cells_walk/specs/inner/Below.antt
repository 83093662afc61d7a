-- Which cells stand at or below a tuple, and a table in which they have got their new numbers.
use Rattle.std.specs.Prelude.{◌≡◌, List, ◌∷◌, ℕ, ◌+◌, ◌^◌, ◌<◌, length, get_or}
use Rattle.logic.specs.Formula.{Literal, Node, root, all, any, and, or, lit, Forest, none, tree, child_depth}
use Rattle.logic.specs.Configuration.{Configuration}
use Rattle.logic.specs.Truth.{Tuple}
use Rattle.logic.specs.Cells.{place_of, CellRule, sibling_first}
use Rattle.logic.specs.Change.{Change, cell_of, new_cell}

-- x is the tuple of cells directly below the cell e of a node: e itself or, below a quantifier, e with a port.
pub data Directly (u : ℕ) : Node → Tuple → Tuple → Type 0 where
  at-root : {e : Tuple} → Directly u root e e
  at_all : {e : Tuple} {p : ℕ} → p < u → Directly u all e (p ∷ e)
  at-any : {e : Tuple} {p : ℕ} → p < u → Directly u any e (p ∷ e)
  at-and : {e : Tuple} → Directly u and e e
  at-or : {e : Tuple} → Directly u or e e
  at-lit : {l : Literal} {e : Tuple} → Directly u (lit l) e e

-- The place j of the cell table is one of the cells at or below the tuple e of a forest's trees; b is the forest's first cell
-- and d its depth.
pub data Region (u : ℕ) : Forest → ℕ → ℕ → Tuple → ℕ → Type 0 where
  own : {n : Node} {c s : Forest} {b d j : ℕ} {e : Tuple} → j ≡ b + place_of u e → Region u (tree n c s) b d e j
  under : {n : Node} {c s : Forest} {b d j : ℕ} {e x : Tuple}
      → Directly u n e x → Region u c (b + u ^ d) (child_depth n d) x j → Region u (tree n c s) b d e j
  later : {n : Node} {c s : Forest} {b d j : ℕ} {e : Tuple}
      → Region u s (sibling_first u n c b d) d e j → Region u (tree n c s) b d e j

-- Two tables hold the same number at every place of the region.
unfoldable pub Agree : ℕ → Forest → ℕ → ℕ → Tuple → List ℕ → List ℕ → Type 0
Agree u f b d e xs ys = (j : ℕ) → Region u f b d e j → get_or xs j 0 ≡ get_or ys j 0

-- A table holds a rule's number at every cell at or below the tuple e of a forest's trees.
unfoldable pub HoldsNew : ℕ → CellRule → List ℕ → Forest → ℕ → ℕ → Tuple → Type 0
HoldsNew u g xs none b d e = Unit {0}
HoldsNew u g xs (tree n c s) b d e =
    (cell_of u xs b e ≡ g n c b d e)
    × ((x : Tuple) → Directly u n e x → HoldsNew u g xs c (b + u ^ d) (child_depth n d) x)
    × HoldsNew u g xs s (sibling_first u n c b d) d e

-- One tuple, and the tuples of a row: e with each port below m.
pub data Only (e : Tuple) : Tuple → Type 0 where
  only : Only e e

pub data Row (m : ℕ) (e : Tuple) : Tuple → Type 0 where
  at-port : {p : ℕ} → p < m → Row m e (p ∷ e)

-- The cells at or below some tuples of a forest's trees hold their new numbers, from the old table's; no other place is written.
pub record Wrote (u : ℕ) (k : Configuration) (ch : Change) (f : Forest) (b d : ℕ) (At : Tuple → Type 0) (old new : List ℕ) : Type 0 where
  pub same_length : length new ≡ length old
  pub holds : (e : Tuple) → At e → HoldsNew u (new_cell u k ch (cell_of u old)) new f b d e
  pub others : (j : ℕ) → ((e : Tuple) → At e → Region u f b d e j → ⊥) → get_or new j 0 ≡ get_or old j 0
