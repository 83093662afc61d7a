-- The sizes of the sets, one after the other. Assumes nothing.
use mathlib.Core.Path.{◌≡◌, refl, sym, ap, ◌∙◌, subst}
use mathlib.Core.Bool.{Bool, true, ◌&&◌}
use mathlib.Core.List.{List, [], ◌∷◌}
use Prim.Native.Nat.{ℕ, zero, suc, ◌+◌, ◌≤◌, ◌<◌}
use native.Mathlib.Decide.{ℕ_discrete}
use native.Mathlib.Omega.{arith}
use lib.Dec.{eqb}
use lib.ListN.{length, get_or, set, length-set}
use borrow.Author.Tests.{eqb-true}
use Rattle.logic.proofs.Lists.{and_left, and_right}
use lib.Seq.{get_or-set_same, get_or-set_other}
use Rattle.logic.specs.Configuration.{ports_in, out_of_test, in_masks}
use Rattle.move_fill.specs.inner.Filling.{SizesSet, AllZero}

pub none-set : (masks : List ℕ) (sets : ℕ) (sizes : List ℕ) → AllZero sizes → SizesSet masks sets 0 sizes
unfolding AllZero
none-set masks sets sizes h = record { are = λ S l. absurd (omega arith); low = λ S. omega (arith, h S) }

pub one_set : (masks : List ℕ) (sets s value : ℕ) (sizes : List ℕ) → SizesSet masks sets s sizes → s < length sizes
    → value ≡ ports_in 64 (out_of_test (in_masks masks s) (in_masks masks sets)) → value ≤ 64 → (length (set sizes s value) ≡ length sizes) × SizesSet masks sets (s + 1) (set sizes s value)
one_set masks sets s value sizes h l v k = (length-set sizes s value, record { are = λ S i. which S i (ℕ_discrete S s); low = λ S. small S (ℕ_discrete S s) })
  where
    which : (S : ℕ) → S < s + 1 → Dec (S ≡ s) → get_or (set sizes s value) S 0 ≡ ports_in 64 (out_of_test (in_masks masks S) (in_masks masks sets))
    which S i (yes e) =
        ap (λ (x : ℕ). get_or (set sizes s value) x 0) e ∙ get_or-set_same sizes s value 0 l ∙ v
        ∙ ap (λ (x : ℕ). ports_in 64 (out_of_test (in_masks masks x) (in_masks masks sets))) (sym e)
    which S i (no n) = get_or-set_other sizes s S value 0 n ∙ h.are S (omega arith)

    small : (S : ℕ) → Dec (S ≡ s) → get_or (set sizes s value) S 0 ≤ 64
    small S (yes e) = subst (λ (x : ℕ). x ≤ 64) (sym (ap (λ (x : ℕ). get_or (set sizes s value) x 0) e ∙ get_or-set_same sizes s value 0 l)) k
    small S (no n) = subst (λ (x : ℕ). x ≤ 64) (sym (get_or-set_other sizes s S value 0 n)) (h.low S)

pub all_set : (masks : List ℕ) (sets s : ℕ) (sizes : List ℕ) → SizesSet masks sets s sizes → sets ≤ s → s ≤ sets → SizesSet masks sets sets sizes
all_set masks sets s sizes h l k = record { are = λ S i. h.are S (omega arith); low = h.low }

-- a list that is written out as noughts
pub noughts : List ℕ → Bool
noughts [] = true
noughts (x ∷ xs) = eqb x 0 && noughts xs

pub all-nought : (xs : List ℕ) → noughts xs ≡ true → AllZero xs
unfolding AllZero noughts
all-nought [] h i = refl
all-nought (x ∷ xs) h zero = eqb-true x 0 (and_left (eqb x 0) (noughts xs) h)
all-nought (x ∷ xs) h (suc i) = all-nought xs (and_right (eqb x 0) (noughts xs) h) i

pub sixteen : AllZero (0 ∷ 0 ∷ 0 ∷ 0 ∷ 0 ∷ 0 ∷ 0 ∷ 0 ∷ 0 ∷ 0 ∷ 0 ∷ 0 ∷ 0 ∷ 0 ∷ 0 ∷ 0 ∷ [])
unfolding noughts
sixteen = all-nought (0 ∷ 0 ∷ 0 ∷ 0 ∷ 0 ∷ 0 ∷ 0 ∷ 0 ∷ 0 ∷ 0 ∷ 0 ∷ 0 ∷ 0 ∷ 0 ∷ 0 ∷ 0 ∷ []) refl
