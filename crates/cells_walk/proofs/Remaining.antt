-- What remains of a walk over the trees of a forest: the invariant of its loops. Assumes nothing.
use Prim.Native.Nat.{ℕ, ◌≤◌, ◌<◌}
use native.Mathlib.Omega.{arith}

module _ {S R : Type 0} (Ready : ℕ → S → Type 0) (Gives : ℕ → S → R → Type 0) where
  -- The walk began before node i, in state s, and stands before node j, in state t: what the trees from there on give, all of
  -- them give.
  pub record Remaining (i : ℕ) (s : S) (j : ℕ) (t : S) : Type 0 where
    pub late : i ≤ j
    pub ready : Ready j t
    pub so : (r : R) → Gives j t r → Gives i s r

  pub remains-first : (i : ℕ) (s : S) → Ready i s → Remaining i s i s
  remains-first i s h = record { late = omega arith; ready = h; so = λ r g. g }

  -- a tree on
  pub remains-next : (i : ℕ) (s : S) (j next : ℕ) (t t' : S) → Remaining i s j t → j < next → Ready next t' → ((r : R) → Gives next t' r → Gives j t r)
      → Remaining i s next t'
  remains-next i s j next t t' o l h f = record { late = omega (arith, o.late); ready = h; so = λ r g. o.so r (f r g) }
