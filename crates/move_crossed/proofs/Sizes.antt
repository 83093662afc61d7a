-- The size of a swap's set after it, alone in a list. Assumes nothing.
use Rattle.std.proofs.Common.{◌≡◌, ℕ, zero, suc, ◌<◌, ◌≤◌, Bool, true, ◌&&◌, eqb, List, [], ◌∷◌, length, get_or, set, sym, refl, ap, ◌∙◌, subst, arith, get_or-set_other, get_or-set_same, eqb-true}
use native.Mathlib.Decide.{ℕ_discrete}
use Rattle.logic.proofs.Lists.{and_left, and_right}
use Rattle.move_crossed.specs.inner.Crossed.{OneSize}

-- a list that is written out as noughts
noughts : List ℕ → Bool
noughts [] = true
noughts (x ∷ xs) = eqb x 0 && noughts xs

all-nought : (xs : List ℕ) → noughts xs ≡ true → (i : ℕ) → get_or xs i 0 ≡ 0
unfolding noughts
all-nought [] h i = refl
all-nought (x ∷ xs) h zero = eqb-true x 0 (and_left (eqb x 0) (noughts xs) h)
all-nought (x ∷ xs) h (suc i) = all-nought xs (and_right (eqb x 0) (noughts xs) h) i

one_in : (xs : List ℕ) → ((i : ℕ) → get_or xs i 0 ≡ 0) → (s size : ℕ) → s < length xs → size ≤ 65 → OneSize s size (set xs s size)
one_in xs h s size l k = record { is = get_or-set_same xs s size 0 l; low = λ S. go S (ℕ_discrete S s) }
  where
    go : (S : ℕ) → Dec (S ≡ s) → get_or (set xs s size) S 0 ≤ 65
    go S (yes e) = subst (λ (x : ℕ). x ≤ 65) (sym (ap (λ (x : ℕ). get_or (set xs s size) x 0) e ∙ get_or-set_same xs s size 0 l)) k
    go S (no n) = omega (arith, get_or-set_other xs s S size 0 n, h S)

pub one-among : (s size : ℕ) → s < 16 → size ≤ 65 → OneSize s size (set (0 ∷ 0 ∷ 0 ∷ 0 ∷ 0 ∷ 0 ∷ 0 ∷ 0 ∷ 0 ∷ 0 ∷ 0 ∷ 0 ∷ 0 ∷ 0 ∷ 0 ∷ 0 ∷ []) s size)
unfolding noughts
one-among s size l k =
    let xs : List ℕ = 0 ∷ 0 ∷ 0 ∷ 0 ∷ 0 ∷ 0 ∷ 0 ∷ 0 ∷ 0 ∷ 0 ∷ 0 ∷ 0 ∷ 0 ∷ 0 ∷ 0 ∷ 0 ∷ [] in
    one_in xs (all-nought xs refl) s size l k
