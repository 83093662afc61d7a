-- The laws over a whole plan, as the layers above cite them. Assumes nothing.
use mathlib.Core.Path.{◌≡◌, sym, ◌∙◌}
use mathlib.Core.Logic.{◌↔◌}
use mathlib.Core.Bool.{true}
use mathlib.Core.List.{List, [], ◌∷◌, ◌++◌}
use Prim.Native.Nat.{ℕ, zero, suc, ◌+◌, ◌*◌, ◌^◌, ◌≤◌}
use native.Mathlib.Nat.{le_trans, mul-le-mul_right, mul_left_comm}
use native.Mathlib.Omega.{arith}
use lib.ListN.{length, get_or}
use Rattle.logic.specs.declared.Move.{Move}
use Rattle.logic.specs.Formula.{Forest, none, tree, Plan, child_depth}
use Rattle.logic.specs.inner.Literals.{Every, ConstantsLow, SetsBelow}
use Rattle.logic.specs.Configuration.{Sets, Configuration, configuration, in_masks, own_masks, spelled}
use Rattle.logic.specs.Truth.{first, ForestTrue, PlanTrue}
use Rattle.logic.specs.Penalty.{penalty}
use Rattle.logic.specs.Cells.{cell_count, tuple_at, tabulate, sibling_first, layout, own_cells, cells, root_penalty}
use Rattle.logic.specs.Moves.{legal, Pair, move_pairs, move_masks, flips}
use Rattle.logic.specs.Change.{pairs_change, modulus, new_cells}
use Rattle.logic.proofs.Lists.{and_left}
use Rattle.logic.proofs.Zero.{penalty-zero}
use Rattle.logic.proofs.Bound.{LiteralsAtMost, literals-low, sizes-64, spread, spread-pos, subtree_cells, subtree-count, penalty-le}
use Rattle.logic.proofs.Tables.{layout-first, length-layout, Stands, stands_self}
use Rattle.logic.proofs.Untouched.{agree_on}
use Rattle.logic.proofs.Update.{new-cells-true}
use Rattle.logic.proofs.Moves.{PairsKnown, known-pairs, flips-agree, move-spells}

-- a formula has a node
unfoldable pub Nonempty : Forest → Type 0
Nonempty none = ⊥
Nonempty (tree n c s) = Unit {0}

forest-zero : (u : ℕ) (k : Configuration) (f : Forest) → Nonempty f
    → get_or (layout u (λ n c b d e. penalty u k n c e) f 0 0) 0 0 ≡ 0 ↔ ForestTrue u k f first []
unfolding Nonempty ForestTrue
forest-zero u k none h = absurd h
forest-zero u k (tree n c s) h =
    let r = layout-first u (λ n c b d e. penalty u k n c e) n c s 0 in
    let z = penalty-zero u k n c [] in
    ((λ e. z.0 (sym r ∙ e)), (λ t. r ∙ z.1 t))

-- The root's penalty is 0 exactly when the formula is true.
pub root-zero : (P : Plan) (k : Configuration) → Nonempty P.formula → root_penalty P k ≡ 0 ↔ PlanTrue P k
unfolding root_penalty cells PlanTrue
root-zero P k h = forest-zero P.ports k P.formula h

pub length-cells : (P : Plan) (k : Configuration) → length (cells P k) ≡ own_cells P
unfolding cells own_cells
length-cells P k = length-layout P.ports (λ n c b d e. penalty P.ports k n c e) P.formula 0 0

-- every number of a list is at most m
all_append : (m : ℕ) (xs ys : List ℕ) → ((i : ℕ) → get_or xs i 0 ≤ m) → ((i : ℕ) → get_or ys i 0 ≤ m) → (i : ℕ) → get_or (xs ++ ys) i 0 ≤ m
all_append m [] ys h g i = g i
all_append m (x ∷ xs) ys h g zero = h 0
all_append m (x ∷ xs) ys h g (suc i) = all_append m xs ys (λ j. h (suc j)) g i

all-tabulate : (m n : ℕ) (g : ℕ → ℕ) → ((i : ℕ) → g i ≤ m) → (i : ℕ) → get_or (tabulate n g) i 0 ≤ m
unfolding tabulate
all-tabulate m zero g H i = omega arith
all-tabulate m (suc n) g H i = all_append m (tabulate n g) (g n ∷ []) (all-tabulate m n g H) (λ j. one j) i
  where
    one : (j : ℕ) → get_or (g n ∷ []) j 0 ≤ m
    one zero = H n
    one (suc j) = omega arith

module _ (u : ℕ) (u1 : 1 ≤ u) (B : ℕ) (B1 : 1 ≤ B) (k : Configuration) (m : ℕ) where
  layout-le : (f : Forest) (b d : ℕ) → LiteralsAtMost B k f d → B * subtree_cells u f ≤ m
      → (i : ℕ) → get_or (layout u (λ n c b d e. penalty u k n c e) f b d) i 0 ≤ m
  unfolding layout LiteralsAtMost Every subtree_cells
  layout-le none b d low h i = omega arith
  layout-le (tree n c s) b d low h i =
      let a = mul-le-mul_right (B * subtree_cells u c) (spread-pos u n u1) in
      let x = mul_left_comm B (spread u n) (subtree_cells u c) in
      all_append m (tabulate (u ^ d) (λ i. penalty u k n c (tuple_at u d i))) _
      (all-tabulate m (u ^ d) _ (λ j. le_trans (penalty-le u B B1 k n c d (child_depth n d) (tuple_at u d j) low.0 low.1) (omega arith)))
      (all_append m (layout u (λ n c b d e. penalty u k n c e) c (b + u ^ d) (child_depth n d)) _
      (layout-le c (b + u ^ d) (child_depth n d) low.1 (omega arith)) (layout-le s (sibling_first u n c b d) d low.2 (omega arith))) i

-- If every literal's penalty is at most B, no penalty is above B × cells. (B is at least 1: so much has a minimum of nothing.)
pub cells-at-most : (P : Plan) → 1 ≤ P.ports → (B : ℕ) → 1 ≤ B → (k : Configuration) → LiteralsAtMost B k P.formula 0
    → (i : ℕ) → get_or (cells P k) i 0 ≤ B * own_cells P
unfolding cells own_cells
cells-at-most P u1 B B1 k low i =
    layout-le P.ports u1 B B1 k (B * cell_count P.ports P.formula 0) P.formula 0 0 low
    (rw (subtree-count P.ports P.formula) (omega arith)) i

-- the sizes of sets over at most 64 ports
pub literals-65 : (P : Plan) → P.ports ≤ 64 → ConstantsLow P.formula 0 → (k : Sets) → LiteralsAtMost 65 (configuration P k) P.formula 0
unfolding configuration
literals-65 P u64 low k = literals-low (configuration P k) (sizes-64 P.ports P.sets k u64) P.formula 0 low

-- With constants at most 64 and u at most 64 no penalty is above 65 × cells.
pub cells-at-most-65 : (P : Plan) → 1 ≤ P.ports → P.ports ≤ 64 → ConstantsLow P.formula 0 → (k : Sets)
    → (i : ℕ) → get_or (cells P (configuration P k)) i 0 ≤ 65 * own_cells P
cells-at-most-65 P u1 u64 low k = cells-at-most P u1 65 (omega arith) (configuration P k) (literals-65 P u64 low k)

-- "No true penalty exceeds 65 × 1,048,576 = 68,157,440."
pub cells-at-most-total : (P : Plan) → 1 ≤ P.ports → P.ports ≤ 64 → ConstantsLow P.formula 0 → own_cells P ≤ 1048576 → (k : Sets)
    → (i : ℕ) → get_or (cells P (configuration P k)) i 0 ≤ 68157440
cells-at-most-total P u1 u64 low few k i = omega (arith, cells-at-most-65 P u1 u64 low k i)

-- True cells stay true under any flipped pairs of the plan's sets, and so under every legal move.
pub flips-true : (P : Plan) → 1 ≤ P.ports → P.ports ≤ 64 → ConstantsLow P.formula 0 → SetsBelow P.sets P.formula 0 → own_cells P ≤ 1048576
    → (k : Sets) (qs : List Pair) → PairsKnown P qs → (table : List ℕ) → Stands table 0 (cells P (configuration P k))
    → new_cells P (configuration P (flips qs k)) (pairs_change qs) table ≡ cells P (configuration P (flips qs k))
unfolding modulus
flips-true P u1 u64 low below few k qs w table h =
    new-cells-true P u1 65 (omega arith) (pairs_change qs) (configuration P k) (configuration P (flips qs k))
    (agree_on (pairs_change qs) (configuration P k) (configuration P (flips qs k)) P.sets (flips-agree P qs w k) P.formula 0 below) (literals-65 P u64 low k) (literals-65 P u64 low (flips qs k)) (omega arith) table h

pub move-true : (P : Plan) → 1 ≤ P.ports → P.ports ≤ 64 → ConstantsLow P.formula 0 → SetsBelow P.sets P.formula 0 → own_cells P ≤ 1048576
    → (m : Move) (ms : List ℕ) → legal P (in_masks ms) m ≡ true → own_masks P ≤ length ms
    → new_cells P (spelled P (move_masks P m ms)) (pairs_change (move_pairs P (in_masks ms) m)) (cells P (spelled P ms)) ≡ cells P (spelled P (move_masks P m ms))
unfolding spelled legal
move-true P u1 u64 low below few m ms h l =
    rw (move-spells P m ms h l)
    (flips-true P u1 u64 low below few (in_masks ms) (move_pairs P (in_masks ms) m)
    (known-pairs P (in_masks ms) m (and_left _ _ h)) (cells P (configuration P (in_masks ms))) (stands_self _))
