-- A run of a slice written place by place: the first n places from `from` on hold f's values, the rest is as it was. Assumes nothing.
use mathlib.Core.Path.{◌≡◌, refl, sym, ap, ap₂, ◌∙◌}
use mathlib.Core.List.{List, [], ◌∷◌, ◌++◌, append_assoc}
use Prim.Native.Nat.{ℕ, zero, suc, ◌+◌, ◌-◌, ◌≤◌, ◌<◌}
use native.Mathlib.Nat.{add-zero, add-suc, zero-add}
use native.Mathlib.Numerals.{add-one}
use native.Mathlib.Omega.{arith}
use lib.ListN.{length, take, drop, set, get_or, length-append, length-drop, length-set, take-append-drop, get_or-append}
use lib.Seq.{drop-cons, set_at, take-suc, length-take-le, get_or-take, get_or-drop, drop-drop, drop-append-add}
use Rattle.logic.specs.Cells.{tabulate}
use Rattle.logic.proofs.Tables.{length-tabulate}

-- The list xs with what is written from `from` on: f 0, f 1, .., n of them.
abbrev pub written : (ℕ → ℕ) → ℕ → ℕ → List ℕ → List ℕ
written f from n xs = take from xs ++ (tabulate n f ++ drop (from + n) xs)

pub length-written : (f : ℕ → ℕ) (from n : ℕ) (xs : List ℕ) → from + n ≤ length xs → length (written f from n xs) ≡ length xs
length-written f from n xs h =
    simp (length-append, length-tabulate, length-drop, length-take-le from xs (omega arith)) (omega arith)

written_none : (f : ℕ → ℕ) (from : ℕ) (xs : List ℕ) → xs ≡ written f from 0 xs
unfolding tabulate
written_none f from xs = rw add-zero (sym (take-append-drop from xs))

-- one place more
written_step : (f : ℕ → ℕ) (from n : ℕ) (xs : List ℕ) → from + n < length xs
    → set (written f from n xs) (from + n) (f n) ≡ written f from (n + 1) xs
unfolding tabulate
written_step f from n xs h =
    let A = take from xs in
    let B = tabulate n f in
    let la : length (A ++ B) ≡ from + n = length-append A B ∙ omega (arith, length-tabulate n f, length-take-le from xs (omega arith)) in
    let e : drop (from + n) xs ≡ get_or xs (from + n) 0 ∷ drop (suc (from + n)) xs = drop-cons xs (from + n) 0 h in
    ap (λ (l : List ℕ). set l (from + n) (f n)) (sym (append_assoc A B (drop (from + n) xs)) ∙ ap (λ (l : List ℕ). (A ++ B) ++ l) e)
    ∙ set_at (A ++ B) (get_or xs (from + n) 0) (drop (suc (from + n)) xs) (f n) (from + n) la
    ∙ simp (add-one, add-suc, append_assoc)

-- What a loop that writes w places from `from` on has done at n.
pub record Written (f : ℕ → ℕ) (from w : ℕ) (xs cells : List ℕ) (n : ℕ) : Type 0 where
  pub within : n ≤ w
  pub same_length : length cells ≡ length xs
  pub is : cells ≡ written f from n xs

pub start : (f : ℕ → ℕ) (from w : ℕ) (xs : List ℕ) → Written f from w xs xs 0
start f from w xs = record { within = omega arith; same_length = refl; is = written_none f from xs }

pub one_more : (f : ℕ → ℕ) (from w : ℕ) (xs cells : List ℕ) (n v : ℕ) → Written f from w xs cells n → n < w → from + w ≤ length xs → v ≡ f n
    → Written f from w xs (set cells (from + n) v) (n + 1)
one_more f from w xs cells n v i l h e = record {
  within = omega arith;
  same_length = length-set cells (from + n) v ∙ i.same_length;
  is = ap₂ (λ (k : List ℕ) (x : ℕ). set k (from + n) x) i.is e ∙ written_step f from n xs (omega arith);
}

pub done : (f : ℕ → ℕ) (from w : ℕ) (xs cells : List ℕ) (n : ℕ) → Written f from w xs cells n → w ≤ n → cells ≡ written f from w xs
done f from w xs cells n i h =
    let e : n ≡ w = omega (arith, i.within) in i.is ∙ ap (λ (k : ℕ). written f from k xs) e

-- the same from the first place on
pub from_first : (f : ℕ → ℕ) (n : ℕ) (xs : List ℕ) → written f 0 n xs ≡ tabulate n f ++ drop n xs
from_first f n xs = rw zero-add

pub one-more-first : (f : ℕ → ℕ) (w : ℕ) (xs cells : List ℕ) (n v : ℕ) → Written f 0 w xs cells n → n < w → w ≤ length xs → v ≡ f n
    → Written f 0 w xs (set cells n v) (n + 1)
one-more-first f w xs cells n v i l h e = rw zero-add at (one_more f 0 w xs cells n v i l (omega arith) e)

pub all_first : (f : ℕ → ℕ) (w : ℕ) (xs cells : List ℕ) (n : ℕ) → Written f 0 w xs cells n → w ≤ n → cells ≡ tabulate w f ++ drop w xs
all_first f w xs cells n i h = done f 0 w xs cells n i h ∙ from_first f w xs

-- what stands before the run, and behind it, is as it was
pub written-before : (f : ℕ → ℕ) (from n i : ℕ) (xs : List ℕ) → i < from → from ≤ length xs → get_or (written f from n xs) i 0 ≡ get_or xs i 0
written-before f from n i xs l h =
    get_or-append (take from xs) (tabulate n f ++ drop (from + n) xs) 0 i (rw (length-take-le from xs h) l) ∙ get_or-take from xs i 0 l

pub behind-first : (f : ℕ → ℕ) (n i : ℕ) (xs : List ℕ) → n ≤ i → drop i (written f 0 n xs) ≡ drop i xs
behind-first f n i xs h =
    let e : i ≡ length (tabulate n f) + (i - n) = omega (arith, length-tabulate n f) in
    let q : n + (i - n) ≡ i = omega arith in
    ap (drop i) (from_first f n xs) ∙ ap (λ (m : ℕ). drop m (tabulate n f ++ drop n xs)) e ∙ drop-append-add (tabulate n f) (drop n xs) (i - n)
    ∙ drop-drop (i - n) n xs ∙ ap (λ (m : ℕ). drop m xs) q

pub next-first : (f : ℕ → ℕ) (n : ℕ) (xs : List ℕ) → get_or (written f 0 n xs) n 0 ≡ get_or xs n 0
next-first f n xs =
    ap (λ (m : ℕ). get_or (written f 0 n xs) m 0) (sym (add-zero n))
    ∙ sym (get_or-drop n (written f 0 n xs) 0 0) ∙ ap (λ (l : List ℕ). get_or l 0 0) (behind-first f n n xs (omega arith))
    ∙ get_or-drop n xs 0 0 ∙ ap (λ (m : ℕ). get_or xs m 0) (add-zero n)

-- a copy writes the values of another list
pub take-tabulate : (n : ℕ) (l : List ℕ) → n ≤ length l → take n l ≡ tabulate n (λ i. get_or l i 0)
unfolding tabulate
take-tabulate zero l h = refl
take-tabulate (suc n) l h = take-suc l n 0 h ∙ ap (λ (k : List ℕ). k ++ (get_or l n 0 ∷ [])) (take-tabulate n l (omega arith))

pub copied : (to len : ℕ) (ys xs : List ℕ) → len ≤ length ys
    → written (λ j. get_or ys j 0) to len xs ≡ take to xs ++ (take len ys ++ drop (to + len) xs)
copied to len ys xs h = rw (take-tabulate len ys h)
