-- Joins of lists, and cells merged one after another. Assumes nothing.
use Rattle.std.proofs.Common.{◌≡◌, ◌≢◌, ℕ, ◌+◌, ◌*◌, ◌<◌, ◌≤◌, Bool, true, false, cond, ◌&&◌, leb, List, [], ◌∷◌, ◌++◌, length, get_or, take, drop, set, sym, refl, ap, ◌∙◌, ap₂, mul-le-mul_right, suc-mul, add-one, arith, drop-cons, take-suc}
use Rattle.cells_join.specs.declared.Join.{Join}
use Rattle.cells_join.specs.declared.Join.TheVariants.{Add, Least, LeastBit}
use Rattle.logic.proofs.Written.{Written, one-more-first, behind-first, next-first}
use Rattle.cells_join.specs.inner.Joined.{meet, unit_of, join_all, join_into, spread_of}

join-append : (join : Join) (x : ℕ) (ys zs : List ℕ) → join_all join x (ys ++ zs) ≡ join_all join (join_all join x ys) zs
unfolding join_all
join-append join x [] zs = refl
join-append join x (y ∷ ys) zs = join-append join (meet join x y) ys zs

pub into-none : (join : Join) (first : Bool) (x : ℕ) → x ≡ join_into join first x []
unfolding join_into join_all
into-none join false x = refl
into-none join true x = refl

-- what comes after something is joined to it
pub into-append : (join : Join) (first : Bool) (x : ℕ) (ys zs : List ℕ) → 1 ≤ length ys
    → join_into join first x (ys ++ zs) ≡ join_into join false (join_into join first x ys) zs
unfolding join_into
into-append join false x ys zs h = join-append join x ys zs
into-append join true x [] zs h = absurd (omega arith)
into-append join true x (y ∷ ys) zs h = join-append join y ys zs

-- one more cell
pub gather-next : (join : Join) (x p r v : ℕ) (l : List ℕ) → p < length l → r ≡ join_all join x (take p l) → v ≡ meet join r (get_or l p 0) → v ≡ join_all join x (take (p + 1) l)
unfolding join_all
gather-next join x p r v l h e q =
    q ∙ ap (λ (y : ℕ). meet join y (get_or l p 0)) e ∙ sym (join-append join x (take p l) (get_or l p 0 ∷ []))
    ∙ ap (join_all join x) (sym (take-suc l p 0 h) ∙ ap (λ (m : ℕ). take m l) (sym (add-one p)))

-- a number of 32 bits, low for a minimum, joined to the join of nothing is itself
unit-meet : (join : Join) (y : ℕ) → y < 4294967296 → (join ≢ Add → y < 2147483648) → meet join (unit_of join) y ≡ y
unfolding meet unit_of
unit-meet Add y h k = omega arith
unit-meet Least y h k = let l = k (λ e. cc) in omega arith
unit-meet LeastBit y h k = let l = k (λ e. cc) in omega arith

-- a join with a low number is low, where it is a minimum
pub meet_low : (join : Join) (x y b : ℕ) → join ≢ Add → y < b → meet join x y < b
unfolding meet
meet_low Add x y b h l = absurd (h refl)
meet_low Least x y b h l = omega arith
meet_low LeastBit x y b h l = omega arith

pub step-low : (join : Join) (first : Bool) (x y b : ℕ) → join ≢ Add → y < b → join_into join first x (y ∷ []) < b
unfolding join_into join_all
step-low join true x y b h l = l
step-low join false x y b h l = meet_low join x y b h l

pub unit-low : (join : Join) → join ≢ Add → unit_of join < 2147483648
unfolding unit_of
unit-low Add h = absurd (h refl)
unit-low Least h = omega arith
unit-low LeastBit h = omega arith

-- so that a join may begin at the join of nothing
pub from-unit : (join : Join) (x : ℕ) (l : List ℕ) → 1 ≤ length l → get_or l 0 0 < 4294967296 → (join ≢ Add → get_or l 0 0 < 2147483648)
    → join_all join (unit_of join) l ≡ join_into join true x l
unfolding join_all join_into
from-unit join x [] k b w = absurd (omega arith)
from-unit join x (y ∷ ys) k b w = ap (λ (z : ℕ). join_all join z ys) (unit-meet join y b w)

-- one cell alone
pub one_at : (i : ℕ) (l : List ℕ) → i < length l → take 1 (drop i l) ≡ get_or l i 0 ∷ []
one_at i l h = rw (drop-cons l i 0 h)

-- a cell stands above one at least
pub spread-pos : (kind ports : ℕ) → 1 ≤ ports → 1 ≤ spread_of kind ports
unfolding spread_of
spread-pos kind ports h = go (leb 1 kind && leb kind 2)
  where
    go : (b : Bool) → 1 ≤ cond b ports 1
    go true = h
    go false = omega arith

pub row_within : (t over s : ℕ) → t < over → t * s + s ≤ over * s
row_within t over s h = rw (← (suc-mul t s)) (mul-le-mul_right s h)

-- what the t-th cell is joined with
abbrev pub joined_at : Join → Bool → ℕ → ℕ → List ℕ → ℕ → ℕ
joined_at join first s at l t = join_into join first (get_or l t 0) (take s (drop (at + t * s) l))

-- one more cell merged: the cells below it are not written yet
pub merge-more : (join : Join) (first : Bool) (s at over from t v : ℕ) (xs cells : List ℕ) → Written (joined_at join first s at xs) 0 over xs cells t → t < over → over ≤ at → over ≤ length xs
    → from ≡ at + t * s → v ≡ join_into join first (get_or cells t 0) (take s (drop from cells))
    → Written (joined_at join first s at xs) 0 over xs (set cells t v) (t + 1)
merge-more join first s at over from t v xs cells i l h k e q =
    let g = joined_at join first s at xs in
    one-more-first g over xs cells t v i l k
    (q ∙ ap₂ (λ (x : ℕ) (ys : List ℕ). join_into join first x (take s ys))
    (ap (λ (ys : List ℕ). get_or ys t 0) i.is ∙ next-first g t xs)
    (ap₂ (λ (m : ℕ) (ys : List ℕ). drop m ys) e i.is ∙ behind-first g t (at + t * s) xs (omega arith)))
