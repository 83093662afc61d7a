-- The letters of a declaration. Assumes nothing.
use mathlib.Core.Path.{◌≡◌, refl, sym, ap, ◌∙◌}
use mathlib.Core.List.{List, [], ◌∷◌}
use Prim.Native.Nat.{ℕ, zero, suc}
use lib.ListN.{length, length-map, take}
use Rattle.text_tree.specs.Tree.{Declared, letters_of}

-- as many as there are sets
pub letters-length : (sets : List Declared) → length (letters_of sets) ≡ length sets
unfolding letters_of
letters-length sets = length-map sets (λ (d : Declared). d.letter)

pub sets-length : (sets : List Declared) (letters : List ℕ) → letters_of sets ≡ letters → length sets ≡ length letters
sets-length sets letters e = sym (letters-length sets) ∙ ap length e

-- the first letters are those of the first sets
pub letters-take : (n : ℕ) (sets : List Declared) → letters_of (take n sets) ≡ take n (letters_of sets)
unfolding letters_of
letters-take zero sets = refl
letters-take (suc n) [] = refl
letters-take (suc n) (x ∷ xs) = ap (λ (l : List ℕ). x.letter ∷ l) (letters-take n xs)
