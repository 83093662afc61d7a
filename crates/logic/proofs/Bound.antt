-- If every literal's penalty is at most B, no penalty is above B for each cell at or below it. Assumes nothing.
use mathlib.Core.Path.{◌≡◌, sym, ap, ◌∙◌}
use mathlib.Core.Bool.{Bool}
use mathlib.Core.List.{List, [], ◌∷◌}
use Prim.Native.Nat.{ℕ, zero, suc, ◌+◌, ◌*◌, ◌^◌, ◌≤◌}
use native.Mathlib.Nat.{le_trans, min-le_left, pow-suc, pow-zero, mul_left_comm}
use native.Mathlib.Omega.{arith}
use Rattle.logic.specs.Formula.{Relation, lt, le, eq, ne, ge, gt, Test, isin, notin, port, size, Node, root, all, any, and, or, lit, Forest, none, tree, child_depth}
use Rattle.logic.specs.inner.Literals.{Every, OfLiteral, OfTest, ConstantLow, ConstantsLow}
use Rattle.logic.specs.Configuration.{Sets, Configuration, indicator, ports_in, out_of_test, configured}
use Rattle.logic.specs.Truth.{Tuple}
use Rattle.logic.specs.Penalty.{size_penalty, test_penalty, literal_penalty, sum, least, copy, combine, each_port, below, penalties, penalty}
use Rattle.logic.specs.Cells.{cell_count}
use Rattle.logic.proofs.Lists.{sum-append, indicator-le}

-- every literal's penalty is at most B
unfoldable pub LiteralsAtMost : ℕ → Configuration → Forest → ℕ → Type 0
LiteralsAtMost B k f d = Every (λ n c i. OfLiteral (λ l. (e : Tuple) → literal_penalty k l e ≤ B) n) f d

-- how many cells of each child stand directly below a cell
unfoldable pub spread : ℕ → Node → ℕ
spread u root = 1
spread u all = u
spread u any = u
spread u and = 1
spread u or = 1
spread u (lit l) = 1

-- the cells of a forest for one tuple
unfoldable pub subtree_cells : ℕ → Forest → ℕ
subtree_cells u none = 0
subtree_cells u (tree n c s) = suc (spread u n * subtree_cells u c) + subtree_cells u s

pub spread-pos : (u : ℕ) (n : Node) → 1 ≤ u → 1 ≤ spread u n
unfolding spread
spread-pos u root h = omega arith
spread-pos u all h = h
spread-pos u any h = h
spread-pos u and h = omega arith
spread-pos u or h = omega arith
spread-pos u (lit l) h = omega arith

pow-child : (u : ℕ) (n : Node) (d : ℕ) → u ^ child_depth n d ≡ u ^ d * spread u n
unfolding child_depth spread
pow-child u root d = omega arith
pow-child u all d = pow-suc u d
pow-child u any d = pow-suc u d
pow-child u and d = omega arith
pow-child u or d = omega arith
pow-child u (lit l) d = omega arith

count-subtree : (u : ℕ) (f : Forest) (d : ℕ) → cell_count u f d ≡ u ^ d * subtree_cells u f
unfolding cell_count subtree_cells
count-subtree u none d = omega arith
count-subtree u (tree n c s) d =
    rw (count-subtree u c (child_depth n d), count-subtree u s d, pow-child u n d) (omega arith)

pub subtree-count : (u : ℕ) (f : Forest) → subtree_cells u f ≡ cell_count u f 0
subtree-count u f = sym (count-subtree u f 0 ∙ ap (λ (x : ℕ). x * subtree_cells u f) (pow-zero u) ∙ omega arith)

module _ (B : ℕ) (B1 : 1 ≤ B) where
  least-le : (vs : List ℕ) → least vs ≤ B + sum vs
  unfolding least sum
  least-le [] = omega arith
  least-le (x ∷ []) = omega arith
  least-le (x ∷ y ∷ ys) = omega (arith, min-le_left x (least (y ∷ ys)))

  copy-le : (vs : List ℕ) → copy vs ≤ B + sum vs
  unfolding copy sum
  copy-le [] = omega arith
  copy-le (x ∷ xs) = omega arith

  module _ (k : Configuration) where
    combine-le : (n : Node) (e : Tuple) (vs : List ℕ) → OfLiteral (λ l. (x : Tuple) → literal_penalty k l x ≤ B) n → combine k n e vs ≤ B + sum vs
    unfolding combine OfLiteral
    combine-le root e vs h = copy-le vs
    combine-le all e vs h = omega arith
    combine-le any e vs h = least-le vs
    combine-le and e vs h = omega arith
    combine-le or e vs h = least-le vs
    combine-le (lit l) e vs h = omega (arith, h e)

ports-le : (u m : ℕ) (g : ℕ → List ℕ) → ((p : ℕ) → sum (g p) ≤ m) → sum (each_port u g) ≤ u * m
unfolding each_port sum
ports-le zero m g H = omega arith
ports-le (suc u) m g H = omega (arith, ports-le u m g H, H u, sum-append (each_port u g) (g u))

pub below-le : (u m : ℕ) (n : Node) (e : Tuple) (g : Tuple → List ℕ) → ((x : Tuple) → sum (g x) ≤ m) → sum (below u n e g) ≤ spread u n * m
unfolding below spread
below-le u m root e g H = omega (arith, H e)
below-le u m all e g H = ports-le u m _ (λ p. H (p ∷ e))
below-le u m any e g H = ports-le u m _ (λ p. H (p ∷ e))
below-le u m and e g H = omega (arith, H e)
below-le u m or e g H = omega (arith, H e)
below-le u m (lit l) e g H = omega (arith, H e)

-- a product with B over a node's cells
over-node : (B x y z : ℕ) → B * (suc (x * y) + z) ≡ B + x * (B * y) + B * z
over-node B x y z = omega (arith, mul_left_comm B x y)

module _ (u B : ℕ) (B1 : 1 ≤ B) (k : Configuration) where
  pub penalties-le : (f : Forest) (d : ℕ) (e : Tuple) → LiteralsAtMost B k f d → sum (penalties u k f e) ≤ B * subtree_cells u f
  unfolding penalties subtree_cells sum LiteralsAtMost Every
  penalties-le none d e h = omega arith
  penalties-le (tree n c s) d e h =
      rw (over-node B (spread u n) (subtree_cells u c) (subtree_cells u s))
      (omega (
        arith,
        combine-le B B1 k n e (below u n e (penalties u k c)) h.0,
        below-le u (B * subtree_cells u c) n e (penalties u k c) (λ x. penalties-le c (child_depth n d) x h.1),
        penalties-le s d e h.2,
      ))

  pub below-penalties-le : (n : Node) (c : Forest) (d : ℕ) (e : Tuple) → LiteralsAtMost B k c d
      → sum (below u n e (penalties u k c)) ≤ spread u n * (B * subtree_cells u c)
  below-penalties-le n c d e h = below-le u (B * subtree_cells u c) n e (penalties u k c) (λ x. penalties-le c d x h)

  -- of every node at every tuple
  pub penalty-le : (n : Node) (c : Forest) (d i : ℕ) (e : Tuple) → OfLiteral (λ l. (x : Tuple) → literal_penalty k l x ≤ B) n
      → LiteralsAtMost B k c i → penalty u k n c e ≤ B + spread u n * (B * subtree_cells u c)
  unfolding penalty
  penalty-le n c d i e a b =
      omega (arith, combine-le B B1 k n e (below u n e (penalties u k c)) a, below-penalties-le n c i e b)

-- With constants at most 64 and sizes at most 64, no literal's penalty is above 65.
indicator-65 : (b : Bool) → indicator b ≤ 65
indicator-65 b = omega (arith, indicator-le b)

size-le : (r : Relation) (s c : ℕ) → s ≤ 64 → c ≤ 64 → size_penalty r s c ≤ 65
unfolding size_penalty
size-le lt s c h k = omega arith
size-le le s c h k = omega arith
size-le eq s c h k = omega arith
size-le ne s c h k = indicator-65 _
size-le ge s c h k = omega arith
size-le gt s c h k = omega arith

ports-in-le : (u : ℕ) (s : ℕ → Bool) → ports_in u s ≤ u
unfolding ports_in
ports-in-le zero s = omega arith
ports-in-le (suc u) s = omega (arith, ports-in-le u s, indicator-le (s u))

-- no set over at most 64 ports is larger than 64
pub sizes-64 : (u n : ℕ) (k : Sets) → u ≤ 64 → (S : ℕ) → (configured u n k).size S ≤ 64
unfolding configured
sizes-64 u n k h S = le_trans (ports-in-le u (out_of_test (k S) (k n))) h

module _ (k : Configuration) (small : (S : ℕ) → k.size S ≤ 64) where
  test-le : (t : Test) → ConstantLow t → (e : Tuple) → test_penalty k t e ≤ 65
  unfolding test_penalty ConstantLow
  test-le (isin v S) h e = indicator-65 _
  test-le (notin v S) h e = indicator-65 _
  test-le (port r v w) h e = indicator-65 _
  test-le (size r S c) h e = size-le r _ c (small S) h

  of-literal : (n : Node) → OfTest ConstantLow n → OfLiteral (λ l. (e : Tuple) → literal_penalty k l e ≤ 65) n
  unfolding OfLiteral literal_penalty
  of-literal root h = tt
  of-literal all h = tt
  of-literal any h = tt
  of-literal and h = tt
  of-literal or h = tt
  of-literal (lit l) h = test-le l.test h

  pub literals-low : (f : Forest) (d : ℕ) → ConstantsLow f d → LiteralsAtMost 65 k f d
  unfolding ConstantsLow LiteralsAtMost Every
  literals-low none d h = tt
  literals-low (tree n c s) d h = (of-literal n h.0, literals-low c (child_depth n d) h.1, literals-low s d h.2)
