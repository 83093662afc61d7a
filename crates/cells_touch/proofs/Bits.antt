-- The bits of a word, and words that have one in common. Assumes nothing.
use mathlib.Core.Path.{◌≡◌, refl, sym, ap, ◌∙◌}
use mathlib.Core.Logic.{◌≢◌, inl, inr}
use mathlib.Core.Bool.{Bool, true, false, not, ◌&&◌, ◌||◌, false≢true, true≢false}
use Prim.Native.Nat.{ℕ, zero, suc, ◌+◌, ◌-◌, ◌*◌, ◌^◌, ◌/◌, ◌%◌, ◌≤◌, ◌<◌}
use native.Mathlib.Nat.{mod-lt, div_self, div-eq_of_lt, mul-mod_left, pow-suc, div-one, div-div-eq-div-mul}
use native.Mathlib.Decide.{dec_lt}
use native.Mathlib.Omega.{arith}
use lib.Bits.{bit_and, bit_or, and_shr, or_shr, and_mod, or_mod}
use lib.Dec.{eqb}
use lib.Pow.{pow-lt, pow-add, pow_pos, shl-shr, shl_exact}
use borrow.Author.Tests.{eqb-true, eq-eqb, ne_eqb}
use Rattle.logic.specs.Configuration.{in_mask}
use Rattle.logic.proofs.Lists.{or_cases, or-true-left, or_true_right, and_left, and_right, and-true, same_test}
use Rattle.cells_touch.specs.inner.Hits.{meets, level}

low_bits : (x : ℕ) → x % 2 ^ 1 ≡ x % 2
low_bits x = refl

and-digit : (x y : ℕ) → x < 2 → y < 2 → eqb (bit_and x y) 1 ≡ (eqb x 1 && eqb y 1)
and-digit zero zero h k = refl
and-digit zero (suc zero) h k = refl
and-digit (suc zero) zero h k = refl
and-digit (suc zero) (suc zero) h k = refl
and-digit (suc (suc x)) y h k = absurd (omega arith)
and-digit zero (suc (suc y)) h k = absurd (omega arith)
and-digit (suc zero) (suc (suc y)) h k = absurd (omega arith)

or-digit : (x y : ℕ) → x < 2 → y < 2 → eqb (bit_or x y) 1 ≡ (eqb x 1 || eqb y 1)
or-digit zero zero h k = refl
or-digit zero (suc zero) h k = refl
or-digit (suc zero) zero h k = refl
or-digit (suc zero) (suc zero) h k = refl
or-digit (suc (suc x)) y h k = absurd (omega arith)
or-digit zero (suc (suc y)) h k = absurd (omega arith)
or-digit (suc zero) (suc (suc y)) h k = absurd (omega arith)

digit_lt : (x : ℕ) → x % 2 < 2
digit_lt x = mod-lt x (omega arith)

pub in_and : (a b j : ℕ) → in_mask (bit_and a b) j ≡ (in_mask a j && in_mask b j)
unfolding in_mask
in_and a b j =
    ap (λ (x : ℕ). eqb (x % 2) 1) (and_shr a b j)
    ∙ ap (λ (x : ℕ). eqb x 1) (and_mod (a / 2 ^ j) (b / 2 ^ j) 1)
    ∙ and-digit (a / 2 ^ j % 2) (b / 2 ^ j % 2) (digit_lt (a / 2 ^ j)) (digit_lt (b / 2 ^ j))

pub in-or : (a b j : ℕ) → in_mask (bit_or a b) j ≡ (in_mask a j || in_mask b j)
unfolding in_mask
in-or a b j =
    ap (λ (x : ℕ). eqb (x % 2) 1) (or_shr a b j)
    ∙ ap (λ (x : ℕ). eqb x 1) (or_mod (a / 2 ^ j) (b / 2 ^ j) 1)
    ∙ or-digit (a / 2 ^ j % 2) (b / 2 ^ j % 2) (digit_lt (a / 2 ^ j)) (digit_lt (b / 2 ^ j))

bit-low : (j q : ℕ) → 2 ^ (suc j + q) / 2 ^ q % 2 ≡ 0
bit-low j q =
    ap (λ (x : ℕ). x / 2 ^ q % 2) (pow-add 2 (suc j) q) ∙ ap (λ (x : ℕ). x % 2) (shl-shr (2 ^ suc j) q)
    ∙ ap (λ (x : ℕ). x % 2) (pow-suc 2 j) ∙ mul-mod_left (2 ^ j) 2

-- a power of two has one bit
pub in-power : (p q : ℕ) → in_mask (2 ^ p) q ≡ eqb q p
unfolding in_mask
in-power p q = go (dec_lt q p) (dec_lt p q)
  where
    go : Dec (q < p) → Dec (p < q) → eqb (2 ^ p / 2 ^ q % 2) 1 ≡ eqb q p
    go (yes l) m =
        let e : p ≡ suc (p - suc q) + q = omega arith in
        ap (λ (x : ℕ). eqb (2 ^ x / 2 ^ q % 2) 1) e ∙ ap (λ (x : ℕ). eqb x 1) (bit-low (p - suc q) q) ∙ sym (ne_eqb q p (λ z. omega arith))
    go (no n) (yes l) = ap (λ (x : ℕ). eqb (x % 2) 1) (div-eq_of_lt (pow-lt l)) ∙ sym (ne_eqb q p (λ z. omega arith))
    go (no n) (no m) =
        let e : p ≡ q = omega arith in
        ap (λ (x : ℕ). eqb (2 ^ x / 2 ^ q % 2) 1) e ∙ ap (λ (x : ℕ). eqb (x % 2) 1) (div_self (pow_pos q)) ∙ sym (eq-eqb q p (sym e))

pub in-zero : (j : ℕ) → in_mask 0 j ≡ false
unfolding in_mask
in-zero j = ap (λ (x : ℕ). eqb (x % 2) 1) (div-eq_of_lt (pow_pos j))

-- a bit of the half is a bit of the whole
in-half : (x j : ℕ) → in_mask (x / 2) j ≡ in_mask x (suc j)
unfolding in_mask
in-half x j = ap (λ (y : ℕ). eqb (y % 2) 1) (div-div-eq-div-mul x 2 (2 ^ j) ∙ ap (λ (y : ℕ). x / y) (let e : 2 * 2 ^ j ≡ 2 ^ suc j = omega (arith, pow-suc 2 j) in e))

-- a word other than 0 has a bit
some-bit : (m x : ℕ) → x < 2 ^ m → x ≢ 0 → (j : ℕ) × (in_mask x j ≡ true)
unfolding in_mask
some-bit zero x h n = absurd (n (omega arith))
some-bit (suc m) x h n = go (x % 2) refl (λ q. some-bit m (x / 2) (omega (arith, pow-suc 2 m)) q)
  where
    go : (r : ℕ) → x % 2 ≡ r → (x / 2 ≢ 0 → (j : ℕ) × (eqb (x / 2 / 2 ^ j % 2) 1 ≡ true)) → (j : ℕ) × (eqb (x / 2 ^ j % 2) 1 ≡ true)
    go zero e f = let r = f (λ q. n (omega arith)) in (suc r.0, sym (in-half x r.0) ∙ r.1)
    go (suc zero) e f = (0, ap (λ (y : ℕ). eqb (y % 2) 1) (div-one x) ∙ ap (λ (y : ℕ). eqb y 1) e)
    go (suc (suc r)) e f = absurd (omega (arith, digit_lt x))

below_power : (x : ℕ) → x < 2 ^ x
below_power zero = omega arith
below_power (suc x) = omega (arith, pow-suc 2 x, below_power x)

pub meets-bit : (a w : ℕ) → meets a w ≡ true → (j : ℕ) × (in_mask a j ≡ true) × (in_mask w j ≡ true)
unfolding meets
meets-bit a w h =
    let r = some-bit (bit_and a w) (bit_and a w) (below_power (bit_and a w))
    (λ q. true≢false (sym (eq-eqb (bit_and a w) 0 q) ∙ flipped (eqb (bit_and a w) 0) h)) in
    let b = sym (in_and a w r.0) ∙ r.1 in
    (r.0, and_left (in_mask a r.0) _ b, and_right (in_mask a r.0) _ b)
  where
    flipped : (b : Bool) → not b ≡ true → b ≡ false
    flipped true q = absurd (false≢true q)
    flipped false q = refl

pub bit-meets : (a w j : ℕ) → in_mask a j ≡ true → in_mask w j ≡ true → meets a w ≡ true
unfolding meets
bit-meets a w j h k =
    ap not (ne_eqb (bit_and a w) 0 (λ q. false≢true (sym (in-zero j) ∙ ap (λ (x : ℕ). in_mask x j) (sym q) ∙ in_and a w j ∙ and-true _ _ h k)))

pub meets-zero : (w : ℕ) → meets 0 w ≡ false
meets-zero w = go (meets 0 w) refl
  where
    go : (b : Bool) → meets 0 w ≡ b → b ≡ false
    go true h = let r = meets-bit 0 w h in absurd (false≢true (sym (in-zero r.0) ∙ r.1))
    go false h = refl

pub meets-power : (j w : ℕ) → meets (2 ^ j) w ≡ in_mask w j
meets-power j w = same_test (meets (2 ^ j) w) (in_mask w j)
    (λ h. let r = meets-bit (2 ^ j) w h in ap (in_mask w) (sym (eqb-true r.0 j (sym (in-power j r.0) ∙ r.1))) ∙ r.2)
    (λ h. bit-meets (2 ^ j) w j (in-power j j ∙ eq-eqb j j refl) h)

pub meets-or : (a b w : ℕ) → meets (bit_or a b) w ≡ (meets a w || meets b w)
meets-or a b w = same_test (meets (bit_or a b) w) (meets a w || meets b w)
    (λ h. let r = meets-bit (bit_or a b) w h in
    elim (or_cases (in_mask a r.0) (in_mask b r.0) (sym (in-or a b r.0) ∙ r.1)) [
      | inl x ↦ or-true-left (meets a w) _ (bit-meets a w r.0 x r.2)
      | inr x ↦ or_true_right (meets a w) _ (bit-meets b w r.0 x r.2)
    ])
    (λ h. elim (or_cases (meets a w) (meets b w) h) [
      | inl x ↦ let r = meets-bit a w x in bit-meets (bit_or a b) w r.0 (in-or a b r.0 ∙ or-true-left (in_mask a r.0) _ r.1) r.2
      | inr x ↦ let r = meets-bit b w x in bit-meets (bit_or a b) w r.0 (in-or a b r.0 ∙ or_true_right (in_mask a r.0) _ r.1) r.2
    ])

-- the bit of a variable in every set fits in a word
pub level-shift : (d : ℕ) → 1229782938247303441 * 2 ^ (d % 4) % 2 ^ 64 ≡ level d
unfolding level
level-shift d = let h : d % 4 ≤ 3 = omega arith in shl_exact {a = 1229782938247303441} 61 (d % 4) 64 (omega arith) (omega arith)

pub level-low : (d : ℕ) → level d ≤ 18446744073709551615
level-low d = let h : level d < 18446744073709551616 = rw (← level-shift d) (mod-lt (1229782938247303441 * 2 ^ (d % 4)) (omega arith)) in omega arith
