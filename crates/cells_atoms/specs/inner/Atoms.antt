-- The atoms of a formula: the topmost trees that are no sum. The root's number is the sum of theirs.
use Rattle.std.specs.Prelude.{◌≡◌, Bool, true, false, cond, [], ◌∷◌, ℕ, zero, suc, ◌+◌, ◌-◌, ◌^◌}
use Rattle.logic.specs.Formula.{Node, root, all, any, and, or, lit, Forest, none, tree, child_depth}
use Rattle.logic.specs.inner.Literals.{Every}
use Rattle.logic.specs.Configuration.{Configuration}
use Rattle.logic.specs.Truth.{Tuple}
use Rattle.logic.specs.Penalty.{sum, each_port, below}
use Rattle.logic.specs.Cells.{CellRule, sibling_first}
use Rattle.logic.specs.Change.{Change, touched, modulus, OldCells, new_cell}
use Rattle.cells_walk.specs.inner.Below.{Directly}

-- An atom is a literal, an "or" or an exists above which stand only the root, "and" and for all: its node is one of these.
unfoldable pub is_atom : Node → Bool
is_atom root = false
is_atom all = false
is_atom any = true
is_atom and = false
is_atom or = true
is_atom (lit l) = true

-- A rule's sum over the cells of a forest's atoms at the tuples that extend e; b is the forest's first cell and d its depth.
unfoldable pub over_atoms : ℕ → CellRule → Forest → ℕ → ℕ → Tuple → ℕ
over_atoms u g none b d e = 0
over_atoms u g (tree n c s) b d e =
    cond (is_atom n) (g n c b d e) (sum (below u n e (λ x. over_atoms u g c (b + u ^ d) (child_depth n d) x ∷ [])))
    + over_atoms u g s (sibling_first u n c b d) d e

-- The same atom by atom: a number for each atom of a forest, by the atom, its children, its first cell and its depth; and a sum
-- over the tuples that have m ports more than e.
unfoldable pub of_atoms : ℕ → (Node → Forest → ℕ → ℕ → ℕ) → Forest → ℕ → ℕ → ℕ
of_atoms u g none b d = 0
of_atoms u g (tree n c s) b d =
    cond (is_atom n) (g n c b d) (of_atoms u g c (b + u ^ d) (child_depth n d)) + of_atoms u g s (sibling_first u n c b d) d

unfoldable pub over_tuples : ℕ → ℕ → (Tuple → ℕ) → Tuple → ℕ
over_tuples u zero h e = h e
over_tuples u (suc m) h e = sum (each_port u (λ p. over_tuples u m h (p ∷ e) ∷ []))

-- A rule holds at each of these cells.
unfoldable pub EachAtom : ℕ → (Node → Forest → ℕ → ℕ → Tuple → Type 0) → Forest → ℕ → ℕ → Tuple → Type 0
EachAtom u R none b d e = Unit {0}
EachAtom u R (tree n c s) b d e =
    (is_atom n ≡ true → R n c b d e)
    × (is_atom n ≡ false → (x : Tuple) → Directly u n e x → EachAtom u R c (b + u ^ d) (child_depth n d) x)
    × EachAtom u R s (sibling_first u n c b d) d e

-- "the new minus the old of every touched cell"
unfoldable pub difference : ℕ → Configuration → Change → OldCells → CellRule
difference u k ch t n c b d e = cond (touched ch n c e) (new_cell u k ch t n c b d e + (modulus - t b e)) 0

-- What the table's rules say of a node below the root: "only node 0 is a root", and literals have no child.
unfoldable pub Regular : Node → Forest → Type 0
Regular root c = ⊥
Regular all c = Unit {0}
Regular any c = Unit {0}
Regular and c = Unit {0}
Regular or c = Unit {0}
Regular (lit l) c = c ≡ none

unfoldable pub AllRegular : Forest → ℕ → Type 0
AllRegular f d = Every (λ n c i. Regular n c) f d
