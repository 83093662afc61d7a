-- A part of a list, lent and given back changed. Assumes nothing.
use mathlib.Core.Path.{◌≡◌, ap, ap₂, ◌∙◌}
use mathlib.Core.List.{List, ◌++◌, append-nil}
use Prim.Native.Nat.{ℕ, ◌+◌, ◌-◌, ◌≤◌}
use native.Mathlib.Omega.{arith}
use lib.ListN.{length, take, drop, length-append, length-drop, drop_of_length-le}
use lib.Seq.{take_all, take_at, drop_at, length-take-le}

-- a part lent from place `at` up to place `end`, and what it leaves when it is given back
abbrev pub lent_to : ℕ → ℕ → List ℕ → List ℕ
lent_to at end xs = take (end - at) (drop at xs)

abbrev pub back_to : ℕ → ℕ → List ℕ → List ℕ → List ℕ
back_to at end xs ys = take at xs ++ (ys ++ drop (end - at) (drop at xs))

-- the same from place `at` on
abbrev pub lent : ℕ → List ℕ → List ℕ
lent at xs = lent_to at (length xs) xs

abbrev pub back : ℕ → List ℕ → List ℕ → List ℕ
back at xs ys = back_to at (length xs) xs ys

pub lent_length : (at end : ℕ) (xs : List ℕ) → at ≤ end → end ≤ length xs → length (lent_to at end xs) ≡ end - at
lent_length at end xs h l = length-take-le (end - at) (drop at xs) (rw (length-drop at xs) (omega arith))

pub lent_is : (at : ℕ) (C D : List ℕ) → length C ≡ at → lent at (C ++ D) ≡ D
lent_is at C D h =
    ap (take (length (C ++ D) - at)) (drop_at C D at h) ∙ take_all (length (C ++ D) - at) D (omega (arith, length-append C D))

pub back-to-is : (at end : ℕ) (C D E F : List ℕ) → length C ≡ at → length D ≡ end - at → back_to at end (C ++ (D ++ E)) F ≡ C ++ (F ++ E)
back-to-is at end C D E F h k =
    ap₂ (λ (x y : List ℕ). x ++ (F ++ y)) (take_at C (D ++ E) at h)
    (ap (drop (end - at)) (drop_at C (D ++ E) at h) ∙ drop_at D E (end - at) k)

-- nothing stands behind a part of that length
pub nothing-behind : (n : ℕ) (l xs : List ℕ) → length xs ≡ n → l ++ drop n xs ≡ l
nothing-behind n l xs h =
    let long : length xs ≤ n = omega (arith, h) in
    ap (λ (x : List ℕ). l ++ x) (drop_of_length-le xs long) ∙ append-nil l

pub back_is : (at : ℕ) (C D E : List ℕ) → length C ≡ at → back at (C ++ D) E ≡ C ++ E
back_is at C D E h =
    let n = length (C ++ D) - at in
    let long : length D ≡ n = omega (arith, length-append C D) in
    ap₂ (λ (x y : List ℕ). x ++ (E ++ drop n y)) (take_at C D at h) (drop_at C D at h) ∙ ap (λ (x : List ℕ). C ++ x) (nothing-behind n E D long)

pub back-to-length : (at end : ℕ) (xs ys : List ℕ) → at ≤ end → end ≤ length xs → length ys ≡ length (lent_to at end xs) → length (back_to at end xs ys) ≡ length xs
back-to-length at end xs ys h l e =
    length-append (take at xs) _ ∙ ap₂ ◌+◌ (length-take-le at xs (omega arith)) (length-append ys _ ∙ ap₂ ◌+◌ (e ∙ lent_length at end xs h l) (length-drop (end - at) (drop at xs)))
    ∙ omega (arith, length-drop at xs)

pub back-length : (at : ℕ) (xs ys : List ℕ) → at ≤ length xs → length ys ≡ length (lent at xs) → length (back at xs ys) ≡ length xs
back-length at xs ys h e = back-to-length at (length xs) xs ys h (omega arith) e
