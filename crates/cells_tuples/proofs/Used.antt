-- The variables by which a tree without quantifiers tests sets are bound above it. Assumes nothing.
use Rattle.std.proofs.Common.{◌≡◌, ℕ, ◌+◌, ◌*◌, ◌^◌, ◌<◌, ◌≤◌, true, sym, ◌∙◌, inl, inr, arith, eqb-true}
use mathlib.Core.Bool.{false≢true}
use lib.Bits.{bit_or}
use Rattle.logic.specs.Formula.{Test, isin, notin, port, size, Node, root, all, any, and, or, lit, Forest, none, tree, child_depth}
use Rattle.logic.specs.inner.Literals.{Every, OfLiteral, OfTest}
use Rattle.logic.specs.Configuration.{in_mask}
use Rattle.logic.proofs.Lists.{or_cases}
use Rattle.table_format.specs.inner.Index.{test_uses, node_uses, forest_uses}
use Rattle.cells_touch.proofs.Bits.{in-or, in-power, in-zero}
use Rattle.cells_walk.specs.inner.Nodes.{TestFits, NodeFits, Fitting}
use Rattle.cells_flip.specs.inner.Flips.{NoQuantifier, Flat}
use Rattle.cells_flip.proofs.Words.{same-level}

-- the bit of variable v and set S
module _ (sets S v : ℕ) (v3 : v < 3) where
  abbrev Used : ℕ → Type 0
  Used uses = in_mask uses (4 * S + v) ≡ true

  unused : (d : ℕ) → Used 0 → v < d
  unused d h = absurd (false≢true (sym (in-zero (4 * S + v)) ∙ h))

  one_bit : (j : ℕ) → Used (2 ^ j) → 4 * S + v ≡ j
  one_bit j h = eqb-true (4 * S + v) j (sym (in-power j (4 * S + v)) ∙ h)

  test-bound : (d : ℕ) → d ≤ 3 → (t : Test) → TestFits sets d t → Used (test_uses t) → v < d
  unfolding TestFits test_uses
  test-bound d l (isin w T) f h = omega (arith, f.0, one_bit (4 * T + w) h)
  test-bound d l (notin w T) f h = omega (arith, f.0, one_bit (4 * T + w) h)
  test-bound d l (port r w x) f h = unused d h
  test-bound d l (size r T k) f h = omega (arith, one_bit (4 * T + 3) h)

  node-bound : (d : ℕ) → d ≤ 3 → (n : Node) → OfTest (TestFits sets d) n → Used (node_uses n) → v < d
  unfolding node_uses OfLiteral
  node-bound d l root f h = unused d h
  node-bound d l all f h = unused d h
  node-bound d l any f h = unused d h
  node-bound d l and f h = unused d h
  node-bound d l or f h = unused d h
  node-bound d l (lit x) f h = test-bound d l x.test f h

  either-bound : (d a b : ℕ) → (Used a → v < d) → (Used b → v < d) → Used (bit_or a b) → v < d
  either-bound d a b f g h = elim (or_cases (in_mask a (4 * S + v)) (in_mask b (4 * S + v)) (sym (in-or a b (4 * S + v)) ∙ h)) [
    | inl x ↦ f x
    | inr x ↦ g x
  ]

  own-bound : (n : Node) (c : Forest) (d : ℕ) → NoQuantifier n → NodeFits sets n c d → (Used (forest_uses c) → v < child_depth n d)
      → Used (bit_or (node_uses n) (forest_uses c)) → v < d
  own-bound n c d q fits below =
      either-bound d (node_uses n) (forest_uses c) (node-bound d fits.depth3 n fits.literal) (λ x. omega (arith, below x, same-level n d q))

  forest-bound : (f : Forest) (d : ℕ) → Flat f d → Fitting sets f d → Used (forest_uses f) → v < d
  unfolding Flat Fitting Every forest_uses
  forest-bound none d f g h = unused d h
  forest-bound (tree n c s) d f g h =
      either-bound d (bit_or (node_uses n) (forest_uses c)) (forest_uses s)
      (own-bound n c d f.0 g.0 (λ x. forest-bound c (child_depth n d) f.1 g.1 x))
      (λ x. forest-bound s d f.2 g.2 x) h

  pub tree-bound : (n : Node) (c s : Forest) (d : ℕ) → Flat (tree n c s) d → Fitting sets (tree n c s) d → Used (bit_or (node_uses n) (forest_uses c)) → v < d
  unfolding Flat Fitting Every
  tree-bound n c s d f g h = own-bound n c d f.0 g.0 (λ x. forest-bound c (child_depth n d) f.1 g.1 x) h
