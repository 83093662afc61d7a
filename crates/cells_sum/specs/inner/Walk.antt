-- The walk of a change over a plan's cells: what it finds. Paper 01, section One move.
use Rattle.std.specs.Prelude.{◌≡◌, ℕ, ◌+◌, ◌-◌, ◌%◌, ◌^◌, min, Bool, true, false, not, List, [], ◌∷◌, ◌==◌}
use Rattle.logic.specs.Formula.{Node, root, all, any, and, or, lit, Forest, none, tree, child_depth}
use Rattle.logic.specs.Configuration.{Configuration, indicator}
use Rattle.logic.specs.Truth.{Tuple}
use Rattle.logic.specs.Penalty.{sum, below}
use Rattle.logic.specs.Cells.{sibling_first}
use Rattle.logic.specs.Change.{Change, modulus, Renewal, OldCells, new_cell}
use Rattle.cells_sum.specs.declared.After.{After}
use Rattle.cells_sum.specs.declared.Sum.{Sum}

-- "for all and "and" add, exists and "or" take the minimum, the root copies its child": the root is the minimum of one.
unfoldable pub adds : Node → Bool
adds root = false
adds all = true
adds any = false
adds and = true
adds or = false
adds (lit l) = false

-- The largest number that a cell can hold.
unfoldable pub most_cell : ℕ
most_cell = 4294967295

-- What a cell's new number is begun with, where its old one is given, and how each cell directly below goes into it: "each
-- sum as its old number plus the new minus the old [..], modulo 2^32"; minima afresh.
unfoldable pub begun : Bool → ℕ → ℕ
begun true old = old
begun false old = most_cell

unfoldable pub taken : Bool → ℕ → Renewal → ℕ
taken true acc x = (acc + (x.new + (modulus - x.old))) % modulus
taken false acc x = min acc x.new

unfoldable pub gathered : Bool → ℕ → List Renewal → ℕ
gathered add acc [] = acc
gathered add acc (x ∷ xs) = gathered add (taken add acc x) xs

-- "how many cells differ from before": of the cells at or below the tuple e of a forest's trees. b is the forest's first
-- cell, d its depth, t the numbers before, k the configuration after.
unfoldable pub changes : ℕ → Configuration → Change → OldCells → Forest → ℕ → ℕ → Tuple → ℕ
changes u k ch t none b d e = 0
changes u k ch t (tree n c s) b d e =
    indicator (not (new_cell u k ch t n c b d e == t b e))
    + sum (below u n e (λ x. changes u k ch t c (b + u ^ d) (child_depth n d) x ∷ []))
    + changes u k ch t s (sibling_first u n c b d) d e

-- A number directly below goes into a sum or a minimum, and what has changed there is counted.
pub record Joined (add : Bool) (acc : Sum) (x : After) (r : Sum) : Type 0 where
  pub value-is : r.value ≡ taken add acc.value record { hit = true; old = x.old; new = x.value }
  pub changed-is : r.changed ≡ (acc.changed + x.changed) % modulus
