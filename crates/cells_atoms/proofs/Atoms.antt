-- The differences of the cells directly below a sum are those of its atoms, modulo 2^32; so the root's new number is the old one of
-- the node below it and the differences of the formula's atoms. Assumes nothing.
use mathlib.Core.Path.{◌≡◌, refl, sym, ap, ◌∙◌}
use mathlib.Core.Bool.{Bool, true, false, cond, ◌||◌}
use mathlib.Core.List.{List, [], ◌∷◌, ◌++◌}
use Prim.Native.Nat.{ℕ, zero, suc, ◌+◌, ◌-◌, ◌^◌, ◌%◌, ◌<◌}
use native.Mathlib.Nat.{pow-zero}
use native.Mathlib.Omega.{arith}
use Rattle.logic.specs.Formula.{Node, root, all, any, and, or, lit, Forest, none, tree, child_depth}
use Rattle.logic.specs.inner.Literals.{Every}
use Rattle.logic.specs.Configuration.{Configuration}
use Rattle.logic.specs.Truth.{Tuple}
use Rattle.logic.specs.Penalty.{sum, copy, combine, each_port, below}
use Rattle.logic.specs.Cells.{CellRule, sibling_first}
use Rattle.logic.specs.Change.{Change, node_hit, forest_hit, touched, modulus, Renewal, differences, new_numbers, renew, OldCells, renewals, new_cell}
use Rattle.logic.proofs.Lists.{or_left, or_right}
use Rattle.logic.proofs.Bound.{LiteralsAtMost}
use Rattle.logic.proofs.Changed.{untouched-kept}
use Rattle.cells_sum.proofs.Sums.{sum-port}
use Rattle.cells_walk.proofs.Count.{single}
use Rattle.cells_walk.proofs.Frame.{directly-untouched}
use Rattle.cells_walk.proofs.Gather.{AllFit, renewals-fit}
use Rattle.cells_atoms.specs.inner.Atoms.{is_atom, over_atoms, difference, Regular, AllRegular}
use Rattle.cells_atoms.proofs.Over.{below-zero, each-by, over_zero, sum-mod}

differences-append : (xs ys : List Renewal) → differences (xs ++ ys) ≡ differences xs + differences ys
unfolding differences
differences-append [] ys = omega arith
differences-append (x ∷ xs) ys = omega (arith, differences-append xs ys)

-- Sums over what stands directly below a cell, modulo 2^32.
module _ (u : ℕ) where
  ports-differ : (m : ℕ) (g : ℕ → List Renewal) (h : ℕ → ℕ) → ((p : ℕ) → differences (g p) % modulus ≡ h p % modulus)
      → differences (each_port m g) % modulus ≡ sum (each_port m (λ p. h p ∷ [])) % modulus
  unfolding each_port differences sum
  ports-differ zero g h H = refl
  ports-differ (suc m) g h H =
      ap (λ (a : ℕ). a % modulus) (differences-append (each_port m g) (g m))
      ∙ sum-mod _ _ _ _ (ports-differ m g h H) (H m) ∙ ap (λ (a : ℕ). a % modulus) (sym (sum-port m h))

  below-differ : (n : Node) (e : Tuple) (g : Tuple → List Renewal) (h : Tuple → ℕ) → ((x : Tuple) → differences (g x) % modulus ≡ h x % modulus)
      → differences (below u n e g) % modulus ≡ sum (below u n e (λ x. h x ∷ [])) % modulus
  unfolding below
  below-differ root e g h H = H e ∙ ap (λ (a : ℕ). a % modulus) (sym (single (h e)))
  below-differ all e g h H = ports-differ u (λ p. g (p ∷ e)) (λ p. h (p ∷ e)) (λ p. H (p ∷ e))
  below-differ any e g h H = ports-differ u (λ p. g (p ∷ e)) (λ p. h (p ∷ e)) (λ p. H (p ∷ e))
  below-differ and e g h H = H e ∙ ap (λ (a : ℕ). a % modulus) (sym (single (h e)))
  below-differ or e g h H = H e ∙ ap (λ (a : ℕ). a % modulus) (sym (single (h e)))
  below-differ (lit l) e g h H = H e ∙ ap (λ (a : ℕ). a % modulus) (sym (single (h e)))

-- a sum's difference is what its cell gathers
sum-difference : (hit : Bool) (old below over : ℕ) → old < modulus → below % modulus ≡ over % modulus → (hit ≡ false → over ≡ 0)
    → cond hit (cond hit ((old + below) % modulus) old + (modulus - old)) 0 % modulus ≡ over % modulus
unfolding modulus
sum-difference true old below over l h z = omega arith
sum-difference false old below over l h z = omega (arith, z refl)

-- a number that is counted where it differs is the same modulo 2^32 as counted everywhere
pub whole-difference : (hit : Bool) (old new : ℕ) → old < modulus → (hit ≡ false → new ≡ old)
    → cond hit (new + (modulus - old)) 0 % modulus ≡ (new + (modulus - old)) % modulus
unfolding modulus
whole-difference true old new l h = refl
whole-difference false old new l h = omega (arith, h refl)

-- a cell's new number from its old one and its difference
from-difference : (hit : Bool) (old new over : ℕ) → old < modulus → new < modulus → (hit ≡ false → new ≡ old)
    → (cond hit (new + (modulus - old)) 0 + 0) % modulus ≡ over % modulus → new ≡ (old + over) % modulus
unfolding modulus
from-difference true old new over l i h e = omega arith
from-difference false old new over l i h e = omega (arith, h refl)

-- A rule that is 0 at the cells that a change does not touch: its sum over the atoms of a forest that is not touched.
pub over-untouched : (u : ℕ) (ch : Change) (g : CellRule) → ((n : Node) (c : Forest) (b d : ℕ) (e : Tuple) → touched ch n c e ≡ false → g n c b d e ≡ 0)
    → (f : Forest) (b d : ℕ) (e : Tuple) → forest_hit ch f e ≡ false → over_atoms u g f b d e ≡ 0
unfolding forest_hit touched
over-untouched u ch g H f b d e h =
    over_zero u g f b d e
    (each-by u (λ n c b d e. g n c b d e ≡ 0) (λ f b d e. forest_hit ch f e ≡ false)
    (λ n c s b d e x z i w. directly-untouched u ch n c e x (or_right (node_hit ch n e) _ (or_left (node_hit ch n e || forest_hit ch c e) _ z)) w)
    (λ n c s b d e z. or_right (node_hit ch n e || forest_hit ch c e) _ z)
    (λ n c s b d e z i. H n c b d e (or_left (node_hit ch n e || forest_hit ch c e) _ z)) f b d e h)

module _ (u : ℕ) (k : Configuration) (ch : Change) (t : OldCells) where
  difference-none : (n : Node) (c : Forest) (b d : ℕ) (e : Tuple) → touched ch n c e ≡ false → difference u k ch t n c b d e ≡ 0
  unfolding difference
  difference-none n c b d e h = rw h

  -- modulo 2^32 a cell's difference is its new number less its old one, touched or not
  pub difference-is : (n : Node) (c : Forest) (b d : ℕ) (e : Tuple) → t b e < modulus
      → difference u k ch t n c b d e % modulus ≡ (new_cell u k ch t n c b d e + (modulus - t b e)) % modulus
  unfolding difference
  difference-is n c b d e l = whole-difference (touched ch n c e) _ _ l (untouched-kept u k ch t n c b d e)

  module _ (low : (b : ℕ) (e : Tuple) → t b e < modulus) where
    abbrev after : Node → Forest → ℕ → ℕ → Tuple → List Renewal
    after n c b d = renewals u k ch t c (b + u ^ d) (child_depth n d)

    abbrev over : Node → Forest → ℕ → ℕ → Tuple → ℕ
    over n c b d = over_atoms u (difference u k ch t) c (b + u ^ d) (child_depth n d)

    -- a sum's difference, from those directly below it
    sum-differ : (n : Node) (c : Forest) (b d : ℕ) (e : Tuple)
        → renew k n e (t b e) (below u n e (after n c b d)) ≡ (t b e + differences (below u n e (after n c b d))) % modulus
        → ((x : Tuple) → differences (after n c b d x) % modulus ≡ over n c b d x % modulus)
        → difference u k ch t n c b d e % modulus ≡ sum (below u n e (λ x. over n c b d x ∷ [])) % modulus
    unfolding difference new_cell touched
    sum-differ n c b d e r H =
        ap (λ (a : ℕ). cond (touched ch n c e) (cond (touched ch n c e) a (t b e) + (modulus - t b e)) 0 % modulus) r
        ∙ sum-difference (touched ch n c e) (t b e) _ _ (low b e) (below-differ u n e _ _ H)
        (λ h. below-zero u n e (over n c b d)
        (λ x w. over-untouched u ch (difference u k ch t) difference-none c (b + u ^ d) (child_depth n d) x (directly-untouched u ch n c e x (or_right (node_hit ch n e) _ h) w)))

    node-differ : (n : Node) (c : Forest) (b d : ℕ) (e : Tuple) → Regular n c
        → ((x : Tuple) → differences (after n c b d x) % modulus ≡ over n c b d x % modulus)
        → difference u k ch t n c b d e % modulus ≡ cond (is_atom n) (difference u k ch t n c b d e) (sum (below u n e (λ x. over n c b d x ∷ []))) % modulus
    unfolding is_atom renew Regular
    node-differ root c b d e r H = absurd r
    node-differ all c b d e r H = sum-differ all c b d e refl H
    node-differ any c b d e r H = refl
    node-differ and c b d e r H = sum-differ and c b d e refl H
    node-differ or c b d e r H = refl
    node-differ (lit l) c b d e r H = refl

    -- The cells of a forest's trees at a tuple differ by what their atoms do at the tuples that extend it.
    pub atoms-differ : (f : Forest) (b d : ℕ) (e : Tuple) → AllRegular f d
        → differences (renewals u k ch t f b d e) % modulus ≡ over_atoms u (difference u k ch t) f b d e % modulus
    unfolding differences renewals over_atoms difference new_cell AllRegular Every
    atoms-differ none b d e r = refl
    atoms-differ (tree n c s) b d e r =
        sum-mod _ _ _ _ (node-differ n c b d e r.0 (λ x. atoms-differ c (b + u ^ d) (child_depth n d) x r.1))
        (atoms-differ s (sibling_first u n c b d) d e r.2)

    -- The new number of a cell, from its old one and its atoms' differences; of the root, from those of the node below it.
    module _ (B : ℕ) (small : B < modulus) where
      pub new-cell-fits : (n : Node) (c : Forest) (b d : ℕ) (e : Tuple) → LiteralsAtMost B k (tree n c none) d → new_cell u k ch t n c b d e < modulus
      unfolding AllFit renewals new_cell
      new-cell-fits n c b d e h = (renewals-fit u k ch t low B small (tree n c none) b d e h).0.new-fits

      pub cell-atoms : (n : Node) (c : Forest) (b d : ℕ) (e : Tuple) → AllRegular (tree n c none) d → LiteralsAtMost B k (tree n c none) d
          → new_cell u k ch t n c b d e ≡ (t b e + over_atoms u (difference u k ch t) (tree n c none) b d e) % modulus
      unfolding renewals differences new_cell
      cell-atoms n c b d e r h =
          from-difference (touched ch n c e) _ _ _ (low b e) (new-cell-fits n c b d e h) (untouched-kept u k ch t n c b d e) (atoms-differ (tree n c none) b d e r)

      pub root-atoms : (n : Node) (c : Forest) → AllRegular (tree n c none) 0 → LiteralsAtMost B k (tree n c none) 0
          → new_cell u k ch t root (tree n c none) 0 0 []
          ≡ cond (touched ch root (tree n c none) []) ((t 1 [] + over_atoms u (difference u k ch t) (tree n c none) 1 0 []) % modulus) (t 0 [])
      unfolding new_cell renew combine copy new_numbers below renewals child_depth
      root-atoms n c r h =
          ap (λ (b : ℕ). cond (touched ch root (tree n c none) []) (new_cell u k ch t n c (0 + b) 0 []) (t 0 [])) (pow-zero u)
          ∙ ap (λ (x : ℕ). cond (touched ch root (tree n c none) []) x (t 0 [])) (cell-atoms n c 1 0 [] r h)
