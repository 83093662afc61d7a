-- Masks that were copied. Assumes nothing.
use mathlib.Core.Path.{◌≡◌, sym, ap, ap₂, ◌∙◌}
use mathlib.Core.List.{List, ◌++◌, append-nil}
use Prim.Native.Nat.{ℕ, ◌≤◌}
use native.Mathlib.Omega.{arith}
use lib.ListN.{length, take, drop, drop_of_length-le}
use lib.Seq.{length-take-le, take_at}

-- a table of so many is the copy alone
pub copied-whole : (xs ys zs : List ℕ) (s : ℕ) → zs ≡ take s xs ++ drop s ys → length ys ≡ s → zs ≡ take s xs
copied-whole xs ys zs s h l = h ∙ ap (λ (ws : List ℕ). take s xs ++ ws) (drop_of_length-le ys {i = s} (omega (arith, l))) ∙ append-nil (take s xs)

-- the first masks of a copy are those of the original
pub copied-part : (xs ys zs : List ℕ) (s j : ℕ) → j ≡ s → zs ≡ take s xs ++ drop s ys → s ≤ length xs → take j zs ≡ take j xs
copied-part xs ys zs s j e h l =
    ap₂ take e h ∙ take_at (take s xs) (drop s ys) s (length-take-le s xs l) ∙ ap (λ (i : ℕ). take i xs) (sym e)
