-- Sums over atoms, term by term. Assumes nothing.
use mathlib.Core.Path.{◌≡◌, refl}
use mathlib.Core.Bool.{Bool, true, false, cond}
use mathlib.Core.List.{[], ◌∷◌}
use Prim.Native.Nat.{ℕ, zero, suc, ◌+◌, ◌^◌, ◌%◌, ◌<◌}
use native.Mathlib.Omega.{arith}
use Rattle.logic.specs.Formula.{Node, root, all, any, and, or, lit, Forest, none, tree, child_depth}
use Rattle.logic.specs.Truth.{Tuple}
use Rattle.logic.specs.Penalty.{sum, each_port, below}
use Rattle.logic.specs.Cells.{CellRule, sibling_first}
use Rattle.logic.specs.Change.{modulus}
use Rattle.cells_sum.proofs.Sums.{sum-port}
use Rattle.cells_walk.specs.inner.Below.{Directly, at-root, at_all, at-any, at-and, at-or, at-lit}
use Rattle.cells_walk.proofs.Count.{single}
use Rattle.cells_atoms.specs.inner.Atoms.{is_atom, over_atoms, EachAtom}

-- A relation of three numbers that sums keep: of three sums over the same cells it holds if it holds of each cell's numbers.
module _ (Q : ℕ → ℕ → ℕ → Type 0) (start : Q 0 0 0)
    (step : (a b c x y z : ℕ) → Q a b c → Q x y z → Q (a + x) (b + y) (c + z)) where
  pub ports-kept : (u : ℕ) (f g h : ℕ → ℕ) → ((p : ℕ) → p < u → Q (f p) (g p) (h p))
      → Q (sum (each_port u (λ p. f p ∷ []))) (sum (each_port u (λ p. g p ∷ []))) (sum (each_port u (λ p. h p ∷ [])))
  unfolding each_port sum
  ports-kept zero f g h H = start
  ports-kept (suc u) f g h H =
      rw (sum-port u f, sum-port u g, sum-port u h)
      (step _ _ _ _ _ _ (ports-kept u f g h (λ p l. H p (omega arith))) (H u (omega arith)))

  below-kept : (u : ℕ) (n : Node) (e : Tuple) (f g h : Tuple → ℕ) → ((x : Tuple) → Directly u n e x → Q (f x) (g x) (h x))
      → Q (sum (below u n e (λ x. f x ∷ []))) (sum (below u n e (λ x. g x ∷ []))) (sum (below u n e (λ x. h x ∷ [])))
  unfolding below
  below-kept u root e f g h H = rw (single (f e), single (g e), single (h e)) (H e at-root)
  below-kept u all e f g h H = ports-kept u (λ p. f (p ∷ e)) (λ p. g (p ∷ e)) (λ p. h (p ∷ e)) (λ p l. H (p ∷ e) (at_all l))
  below-kept u any e f g h H = ports-kept u (λ p. f (p ∷ e)) (λ p. g (p ∷ e)) (λ p. h (p ∷ e)) (λ p l. H (p ∷ e) (at-any l))
  below-kept u and e f g h H = rw (single (f e), single (g e), single (h e)) (H e at-and)
  below-kept u or e f g h H = rw (single (f e), single (g e), single (h e)) (H e at-or)
  below-kept u (lit l) e f g h H = rw (single (f e), single (g e), single (h e)) (H e at-lit)

  case-kept : (a : Bool) (x y z x' y' z' : ℕ) → (a ≡ true → Q x y z) → (a ≡ false → Q x' y' z') → Q (cond a x x') (cond a y y') (cond a z z')
  case-kept true x y z x' y' z' h i = h refl
  case-kept false x y z x' y' z' h i = i refl

  pub over-kept : (u : ℕ) (f g h : CellRule) (t : Forest) (b d : ℕ) (e : Tuple) → EachAtom u (λ n c b d e. Q (f n c b d e) (g n c b d e) (h n c b d e)) t b d e
      → Q (over_atoms u f t b d e) (over_atoms u g t b d e) (over_atoms u h t b d e)
  unfolding over_atoms EachAtom
  over-kept u f g h none b d e H = start
  over-kept u f g h (tree n c s) b d e H =
      step _ _ _ _ _ _
      (case-kept (is_atom n) _ _ _ _ _ _ H.0
      (λ i. below-kept u n e _ _ _ (λ x w. over-kept u f g h c (b + u ^ d) (child_depth n d) x (H.1 i x w))))
      (over-kept u f g h s (sibling_first u n c b d) d e H.2)

-- A rule holds at each atom's cells if it follows from a condition of forests that goes down to children and siblings.
module _ (u : ℕ) (R : Node → Forest → ℕ → ℕ → Tuple → Type 0) (G : Forest → ℕ → ℕ → Tuple → Type 0)
    (children : (n : Node) (c s : Forest) (b d : ℕ) (e x : Tuple) → G (tree n c s) b d e → is_atom n ≡ false → Directly u n e x → G c (b + u ^ d) (child_depth n d) x)
    (siblings : (n : Node) (c s : Forest) (b d : ℕ) (e : Tuple) → G (tree n c s) b d e → G s (sibling_first u n c b d) d e)
    (own : (n : Node) (c s : Forest) (b d : ℕ) (e : Tuple) → G (tree n c s) b d e → is_atom n ≡ true → R n c b d e) where
  pub each-by : (f : Forest) (b d : ℕ) (e : Tuple) → G f b d e → EachAtom u R f b d e
  unfolding EachAtom
  each-by none b d e g = tt
  each-by (tree n c s) b d e g = (
    (λ i. own n c s b d e g i),
    (λ i x w. each-by c (b + u ^ d) (child_depth n d) x (children n c s b d e x g i w)),
    each-by s (sibling_first u n c b d) d e (siblings n c s b d e g),
  )

-- sums of numbers that are equal modulo 2^32
pub sum-mod : (a b x y : ℕ) → a % modulus ≡ b % modulus → x % modulus ≡ y % modulus → (a + x) % modulus ≡ (b + y) % modulus
unfolding modulus
sum-mod a b x y h i = omega arith

-- A rule that is 0 at every cell of every atom has the sum 0.
pub over_zero : (u : ℕ) (g : CellRule) (f : Forest) (b d : ℕ) (e : Tuple) → EachAtom u (λ n c b d e. g n c b d e ≡ 0) f b d e → over_atoms u g f b d e ≡ 0
over_zero u g f b d e = over-kept (λ x y z. x ≡ 0) refl (λ a b c x y z i j. omega arith) u g g g f b d e

-- The same of sums over ports, and over the cells directly below a cell.
pub ports-mod : (u : ℕ) (g h : ℕ → ℕ) → ((p : ℕ) → p < u → g p % modulus ≡ h p % modulus) → sum (each_port u (λ p. g p ∷ [])) % modulus ≡ sum (each_port u (λ p. h p ∷ [])) % modulus
ports-mod u g h H = ports-kept (λ x y z. x % modulus ≡ y % modulus) refl (λ a b c x y z i j. sum-mod a b x y i j) u g h h H

pub ports-zero : (u : ℕ) (g : ℕ → ℕ) → ((p : ℕ) → p < u → g p ≡ 0) → sum (each_port u (λ p. g p ∷ [])) ≡ 0
ports-zero u g H = ports-kept (λ x y z. x ≡ 0) refl (λ a b c x y z i j. omega arith) u g g g H

pub below-zero : (u : ℕ) (n : Node) (e : Tuple) (g : Tuple → ℕ) → ((x : Tuple) → Directly u n e x → g x ≡ 0) → sum (below u n e (λ x. g x ∷ [])) ≡ 0
below-zero u n e g H = below-kept (λ x y z. x ≡ 0) refl (λ a b c x y z i j. omega arith) u n e g g g H
