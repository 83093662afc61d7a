-- Touched cells, and the cells after a change: paper 01, section One move.
use Rattle.std.specs.Prelude.{Bool, false, cond, not, ◌&&◌, ◌||◌, List, [], ◌∷◌, map, ℕ, ◌+◌, ◌-◌, ◌^◌, ◌%◌, eqb, leb, length, get_or}
use Rattle.logic.specs.Formula.{Test, isin, notin, port, size, Node, root, all, any, and, or, lit, Forest, none, tree, Plan, child_depth}
use Rattle.logic.specs.Configuration.{Configuration, indicator}
use Rattle.logic.specs.Truth.{Tuple, port_of}
use Rattle.logic.specs.Penalty.{sum, combine, below}
use Rattle.logic.specs.Cells.{CellRule, place_of, sibling_first, layout}
use Rattle.logic.specs.Moves.{Pair}

module _ {A : Type 0} where
  -- One of a list passes a test.
  unfoldable pub some_of : (A → Bool) → List A → Bool
  some_of f [] = false
  some_of f (x ∷ xs) = f x || some_of f xs

-- A change of a configuration: pairs (set, port) at which membership may change, and sets whose size may change.
pub record Change : Type 0 where
  pub pairs : List Pair
  pub resized : ℕ → Bool

-- The change that pairs make: each resizes its set.
unfoldable pub pairs_change : List Pair → Change
pairs_change qs = record { pairs = qs; resized = λ S. some_of (λ q. eqb S q.0) qs }

-- "A cell of a node is touched by pair (S, p) if at or below that node stands a size literal on S, or a membership literal
-- on S whose variable has value p in the cell's tuple or is bound at or below the node." The variables bound above a node
-- are those of its tuple, so a variable is bound at or below it if its number is the tuple's length or more.
unfoldable pub member_hit : ℕ → ℕ → Tuple → Pair → Bool
member_hit v S e q = eqb S q.0 && (leb (length e) v || eqb (port_of e v) q.1)

-- Whether a change hits a literal's test: a port comparison never, a size if its set is resized, a membership by one of the pairs.
unfoldable pub hit : Change → Test → Tuple → Bool
hit ch (port r v w) e = false
hit ch (size r S c) e = ch.resized S
hit ch (isin v S) e = some_of (member_hit v S e) ch.pairs
hit ch (notin v S) e = some_of (member_hit v S e) ch.pairs

-- Of a node: only a literal has a test.
unfoldable pub node_hit : Change → Node → Tuple → Bool
node_hit ch root e = false
node_hit ch all e = false
node_hit ch any e = false
node_hit ch and e = false
node_hit ch or e = false
node_hit ch (lit l) e = hit ch l.test e

-- Such a literal stands in a forest.
unfoldable pub forest_hit : Change → Forest → Tuple → Bool
forest_hit ch none e = false
forest_hit ch (tree n c s) e = node_hit ch n e || forest_hit ch c e || forest_hit ch s e

-- 01's term: the cell e of a node n with the children c is touched.
unfoldable pub touched : Change → Node → Forest → Tuple → Bool
touched ch n c e = node_hit ch n e || forest_hit ch c e

-- How many cells a change touches.
unfoldable pub touched_count : Plan → Change → ℕ
touched_count P ch = sum (layout P.ports (λ n c b d e. indicator (touched ch n c e)) P.formula 0 0)

-- Cells are of 32 bits.
unfoldable pub modulus : ℕ
modulus = 4294967296

-- A cell's number before and after a change, and whether it is touched.
pub record Renewal : Type 0 where
  pub hit : Bool
  pub old : ℕ
  pub new : ℕ

-- "the new minus the old of every touched cell directly below"; the modulus is added so that no difference falls below 0.
unfoldable pub differences : List Renewal → ℕ
differences [] = 0
differences (x ∷ xs) = cond x.hit (x.new + (modulus - x.old)) 0 + differences xs

unfoldable pub new_numbers : List Renewal → List ℕ
new_numbers xs = map (λ (x : Renewal). x.new) xs

-- "literals, minima and the root afresh; each sum as its old number plus the new minus the old of every touched cell directly
-- below, modulo 2^32": the new number of a touched cell, k the configuration after the change.
unfoldable pub renew : Configuration → Node → Tuple → ℕ → List Renewal → ℕ
renew k root e old xs = combine k root e (new_numbers xs)
renew k all e old xs = (old + differences xs) % modulus
renew k any e old xs = combine k any e (new_numbers xs)
renew k and e old xs = (old + differences xs) % modulus
renew k or e old xs = combine k or e (new_numbers xs)
renew k (lit l) e old xs = combine k (lit l) e (new_numbers xs)

-- The numbers before a change, by a node's first cell and a tuple.
abbrev pub OldCells : Type 0
OldCells = ℕ → Tuple → ℕ

-- The cell of a table.
unfoldable pub cell_of : ℕ → List ℕ → OldCells
cell_of u table b e = get_or table (b + place_of u e) 0

-- The cells of the trees of a forest at a tuple; b is the forest's first cell and d its depth.
unfoldable pub renewals : ℕ → Configuration → Change → OldCells → Forest → ℕ → ℕ → Tuple → List Renewal
renewals u k ch t none b d e = []
renewals u k ch t (tree n c s) b d e =
    record {
      hit = touched ch n c e;
      old = t b e;
      new = cond (touched ch n c e)
          (renew k n e (t b e) (below u n e (renewals u k ch t c (b + u ^ d) (child_depth n d))))
          (t b e);
    }
    ∷ renewals u k ch t s (sibling_first u n c b d) d e

-- A cell after a change: renewed if it is touched, else as it was.
unfoldable pub new_cell : ℕ → Configuration → Change → OldCells → CellRule
new_cell u k ch t n c b d e =
    cond (touched ch n c e)
    (renew k n e (t b e) (below u n e (renewals u k ch t c (b + u ^ d) (child_depth n d))))
    (t b e)

-- The plan's own cells after a change to the configuration k, for any numbers in the table before (01's foreign cells too).
unfoldable pub new_cells : Plan → Configuration → Change → List ℕ → List ℕ
new_cells P k ch table = layout P.ports (new_cell P.ports k ch (cell_of P.ports table)) P.formula 0 0

-- "how many cells differ from before"
unfoldable pub differing : List ℕ → List ℕ → ℕ
differing [] ys = 0
differing (x ∷ xs) [] = 0
differing (x ∷ xs) (y ∷ ys) = indicator (not (eqb x y)) + differing xs ys
