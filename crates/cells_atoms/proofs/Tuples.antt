-- Sums over atoms, atom by atom, each over all its tuples, and these row by row. Assumes nothing.
use mathlib.Core.Path.{◌≡◌, refl, sym, ap, ap₂, ◌∙◌}
use mathlib.Core.Bool.{Bool, true, false, cond}
use mathlib.Core.List.{[], ◌∷◌}
use Prim.Native.Nat.{ℕ, zero, suc, ◌+◌, ◌^◌}
use native.Mathlib.Nat.{pow-zero}
use native.Mathlib.Omega.{arith}
use Rattle.logic.specs.Formula.{Node, root, all, any, and, or, lit, Forest, none, tree, child_depth}
use Rattle.logic.specs.Truth.{Tuple}
use Rattle.logic.specs.Penalty.{sum, each_port, below}
use Rattle.logic.specs.Cells.{tuple_at, CellRule, sibling_first}
use Rattle.cells_walk.proofs.Count.{total, total-none, total-next, single, ports-total}
use Rattle.cells_atoms.specs.inner.Atoms.{is_atom, over_atoms, of_atoms, over_tuples}
use Rattle.cells_atoms.proofs.Over.{ports-kept}

module _ (u : ℕ) where
  tuples-same : (m : ℕ) (g h : Tuple → ℕ) (e : Tuple) → ((x : Tuple) → g x ≡ h x) → over_tuples u m g e ≡ over_tuples u m h e
  unfolding over_tuples
  tuples-same zero g h e H = H e
  tuples-same (suc m) g h e H =
      ports-kept (λ x y z. x ≡ y) refl (λ a b c x y z i j. ap₂ ◌+◌ i j) u _ _ (λ p. 0) (λ p l. tuples-same m g h (p ∷ e) H)

  tuples-zero : (m : ℕ) (e : Tuple) → over_tuples u m (λ x. 0) e ≡ 0
  unfolding over_tuples
  tuples-zero zero e = refl
  tuples-zero (suc m) e = ports-kept (λ x y z. x ≡ 0) refl (λ a b c x y z i j. omega arith) u _ (λ p. 0) (λ p. 0) (λ p l. tuples-zero m (p ∷ e))

  pub tuples-two : (m : ℕ) (g h : Tuple → ℕ) (e : Tuple) → over_tuples u m (λ x. g x + h x) e ≡ over_tuples u m g e + over_tuples u m h e
  unfolding over_tuples
  tuples-two zero g h e = refl
  tuples-two (suc m) g h e = ports-kept (λ x y z. x ≡ y + z) refl (λ a b c x y z i j. omega arith) u _ _ _ (λ p l. tuples-two m g h (p ∷ e))

  -- row by row: the innermost port last
  pub tuples-rows : (m : ℕ) (h : Tuple → ℕ) (e : Tuple) → over_tuples u m (λ x. sum (each_port u (λ p. h (p ∷ x) ∷ []))) e ≡ over_tuples u (suc m) h e
  unfolding over_tuples
  tuples-rows zero h e = refl
  tuples-rows (suc m) h e = ports-kept (λ x y z. x ≡ y) refl (λ a b c x y z i j. ap₂ ◌+◌ i j) u _ _ (λ p. 0) (λ p l. tuples-rows m h (p ∷ e))

  -- by the tuples' numbers
  tuples-total : (m : ℕ) (h : Tuple → ℕ) → over_tuples u m h [] ≡ total (u ^ m) (λ i. h (tuple_at u m i))
  unfolding over_tuples tuple_at
  tuples-total zero h = rw pow-zero (omega (arith, total-none (λ i. h []), total-next 0 (λ i. h [])))
  tuples-total (suc m) h = sym (tuples-rows m h []) ∙ tuples-total m (λ x. sum (each_port u (λ p. h (p ∷ x) ∷ []))) ∙ ports-total u m h

  pub rows-total : (m : ℕ) (h : Tuple → ℕ) → over_tuples u (suc m) h [] ≡ total (u ^ m) (λ i. sum (each_port u (λ p. h (p ∷ tuple_at u m i) ∷ [])))
  rows-total m h = sym (tuples-rows m h []) ∙ tuples-total m (λ x. sum (each_port u (λ p. h (p ∷ x) ∷ [])))

  tuples-below : (n : Node) (d : ℕ) (h : Tuple → ℕ) → over_tuples u d (λ x. sum (below u n x (λ y. h y ∷ []))) [] ≡ over_tuples u (child_depth n d) h []
  unfolding below child_depth
  tuples-below root d h = tuples-same d _ _ [] (λ x. single (h x))
  tuples-below all d h = tuples-rows d h []
  tuples-below any d h = tuples-rows d h []
  tuples-below and d h = tuples-same d _ _ [] (λ x. single (h x))
  tuples-below or d h = tuples-same d _ _ [] (λ x. single (h x))
  tuples-below (lit l) d h = tuples-same d _ _ [] (λ x. single (h x))

  tuples-case : (a : Bool) (d : ℕ) (g h : Tuple → ℕ) (e : Tuple) → over_tuples u d (λ x. cond a (g x) (h x)) e ≡ cond a (over_tuples u d g e) (over_tuples u d h e)
  tuples-case true d g h e = refl
  tuples-case false d g h e = refl

  -- The sum over a forest's atoms at every tuple of its depth is that of each atom over all tuples of its own depth.
  pub atoms-tuples : (g : CellRule) (f : Forest) (b d : ℕ)
      → over_tuples u d (over_atoms u g f b d) [] ≡ of_atoms u (λ n c b d. over_tuples u d (g n c b d) []) f b d
  unfolding over_atoms of_atoms
  atoms-tuples g none b d = tuples-zero d []
  atoms-tuples g (tree n c s) b d =
      tuples-two d _ (over_atoms u g s (sibling_first u n c b d) d) []
      ∙ ap₂ ◌+◌
      (tuples-case (is_atom n) d (g n c b d) _ []
      ∙ ap (cond (is_atom n) (over_tuples u d (g n c b d) [])) (tuples-below n d (over_atoms u g c (b + u ^ d) (child_depth n d)) ∙ atoms-tuples g c (b + u ^ d) (child_depth n d)))
      (atoms-tuples g s (sibling_first u n c b d) d)

  pub atoms-each : (g : CellRule) (f : Forest) (b : ℕ) → over_atoms u g f b 0 [] ≡ of_atoms u (λ n c b d. over_tuples u d (g n c b d) []) f b 0
  unfolding over_tuples
  atoms-each g f b = atoms-tuples g f b 0
