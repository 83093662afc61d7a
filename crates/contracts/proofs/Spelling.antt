-- Masks that spell the same sets are the same masks, so that the book's sets and the tails say every mask and cell. Assumes nothing.
use mathlib.Core.Path.{◌≡◌, refl, sym, ap, ap₂, ◌∙◌}
use mathlib.Core.Bool.{true≢false}
use mathlib.Core.List.{List, [], ◌∷◌, ◌++◌}
use Prim.Native.Nat.{ℕ, zero, suc, ◌+◌, ◌/◌, ◌%◌, ◌^◌, ◌<◌}
use native.Mathlib.Nat.{mod-lt, pow-suc, pow-succ', div-one, div-div-eq-div-mul, le_trans}
use native.Mathlib.Omega.{arith}
use lib.Dec.{eqb}
use lib.ListN.{length, take, take-append-drop}
use lib.Pow.{pow_mono}
use lib.Seq.{length-take-le}
use Rattle.logic.specs.Formula.{Plan}
use Rattle.logic.specs.Configuration.{Sets, in_mask, in_masks, own_masks}
use Rattle.contracts.specs.State.{State}
use Rattle.contracts.specs.Journal.{Journaled}
use Rattle.contracts.specs.Book.{Book}
use Rattle.contracts.specs.Lists.{book_cells, AsBook}

digit-same : (a b : ℕ) → a < 2 → b < 2 → eqb a 1 ≡ eqb b 1 → a ≡ b
digit-same zero zero h l e = refl
digit-same zero (suc zero) h l e = absurd (true≢false (sym e))
digit-same zero (suc (suc b)) h l e = absurd (omega arith)
digit-same (suc zero) zero h l e = absurd (true≢false e)
digit-same (suc zero) (suc zero) h l e = refl
digit-same (suc zero) (suc (suc b)) h l e = absurd (omega arith)
digit-same (suc (suc a)) b h l e = absurd (omega arith)

halves : (m p : ℕ) → m / 2 ^ suc p ≡ m / 2 / 2 ^ p
halves m p = ap (λ (x : ℕ). m / x) (pow-succ' 2 p) ∙ sym (div-div-eq-div-mul m 2 (2 ^ p))

half-port : (m p : ℕ) → in_mask (m / 2) p ≡ in_mask m (suc p)
unfolding in_mask
half-port m p = ap (λ (x : ℕ). eqb (x % 2) 1) (sym (halves m p))

first-port : (m : ℕ) → in_mask m 0 ≡ eqb (m % 2) 1
unfolding in_mask
first-port m = ap (λ (x : ℕ). eqb (x % 2) 1) (div-one m)

-- masks below 2^w with the same ports
ports-same : (w a b : ℕ) → a < 2 ^ w → b < 2 ^ w → ((p : ℕ) → in_mask a p ≡ in_mask b p) → a ≡ b
ports-same zero a b h l e = omega arith
ports-same (suc w) a b h l e =
    let d = digit-same (a % 2) (b % 2) (mod-lt a (omega arith)) (mod-lt b (omega arith)) (sym (first-port a) ∙ e 0 ∙ first-port b) in
    let r = ports-same w (a / 2) (b / 2) (omega (arith, pow-suc 2 w)) (omega (arith, pow-suc 2 w)) (λ p. half-port a p ∙ e (suc p) ∙ sym (half-port b p)) in
    omega arith

below_power : (m : ℕ) → m < 2 ^ m
below_power zero = omega arith
below_power (suc m) = omega (arith, below_power m, pow-suc 2 m)

mask-same : (a b : ℕ) → ((p : ℕ) → in_mask a p ≡ in_mask b p) → a ≡ b
mask-same a b e =
    let w = a + b in
    ports-same w a b (le_trans (below_power a) (pow_mono (omega arith))) (le_trans (below_power b) (pow_mono (omega arith))) e

pub masks-same : (ms ms' : List ℕ) → length ms ≡ length ms' → ((S p : ℕ) → in_masks ms S p ≡ in_masks ms' S p) → ms ≡ ms'
unfolding in_masks
masks-same [] [] l e = refl
masks-same [] (m' ∷ ms') l e = absurd (omega arith)
masks-same (m ∷ ms) [] l e = absurd (omega arith)
masks-same (m ∷ ms) (m' ∷ ms') l e = ap₂ ◌∷◌ (mask-same m m' (e 0)) (masks-same ms ms' (omega arith) (λ S. e (suc S)))

-- The book's sets and the tails say what every mask and every cell is.
pub kept_same : (P : Plan) (b b' : Book) (tail-masks tail-cells : List ℕ) (x x' : Journaled)
    → AsBook P b tail-masks tail-cells x → AsBook P b' tail-masks tail-cells x' → b.sets ≡ b'.sets → x.tables ≡ x'.tables
kept_same P b b' tail-masks tail-cells x x' h h' e = λ i. record { masks = m i; cells = c i }
  where
    n : ℕ
    n = own_masks P

    s : State
    s = x.tables

    s' : State
    s' = x'.tables

    own : take n s.masks ≡ take n s'.masks
    own =
        masks-same (take n s.masks) (take n s'.masks)
        (length-take-le n s.masks h.enough-masks ∙ sym (length-take-le n s'.masks h'.enough-masks))
        (λ S p. ap (λ (j : Sets). j S p) (h.masks-are ∙ e ∙ sym h'.masks-are))

    m : s.masks ≡ s'.masks
    m =
        sym (take-append-drop n s.masks) ∙ ap₂ ◌++◌ own (h.masks-tail ∙ sym h'.masks-tail)
        ∙ take-append-drop n s'.masks

    c : s.cells ≡ s'.cells
    c = h.cells_are ∙ ap (λ (k : Sets). book_cells P k ++ tail-cells) e ∙ sym h'.cells_are
