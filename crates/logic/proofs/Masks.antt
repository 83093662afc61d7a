-- Masks: a port after enter, leave and flip; the size of a set; a mask within u ports. Assumes nothing.
use mathlib.Core.Path.{◌≡◌, refl, sym, ap, ap₂, ◌∙◌, fun_ext}
use mathlib.Core.Logic.{◌≢◌, ◌↔◌}
use mathlib.Core.Bool.{Bool, true, false, cond, not, ◌&&◌, false≢true}
use Prim.Native.Nat.{ℕ, zero, suc, ◌+◌, ◌-◌, ◌*◌, ◌^◌, ◌/◌, ◌%◌, ◌≤◌, ◌<◌}
use native.Mathlib.Nat.{mod-lt, div_self, div-eq_of_lt, div-lt_iff_lt-mul, mul-mod_left, pow-suc, pow-succ', div-one, div-div-eq-div-mul, one-mul, zero-mul, le_trans, lt_of_not-le}
use native.Mathlib.Decide.{dec_lt, dec_le}
use native.Mathlib.Omega.{arith}
use lib.Dec.{eqb, ltb}
use lib.Count.{ones_in, ones, ones_step, leading_top}
use lib.Bits.{bit_and, bit_or, bit_xor, and_shr, xor_shr, and_mod, xor_mod, xor_disjoint, or_disjoint, or_add_and, and_high, xor_lt}
use lib.Pow.{pow-lt, pow-add, pow_pos, pow_mono, shl-shr, shl_exact, high}
use borrow.Author.Tests.{eqb-true, eqb-false, eq-eqb, ne_eqb, ltb-true, lt-ltb, le-ltb}
use Rattle.logic.specs.Configuration.{indicator, ports_in, out_of_test, in_mask, within_ports, enter, leave}
use Rattle.logic.specs.inner.Flip.{flip_port}

-- the bits of a power of two
bit-low : (j q : ℕ) → 2 ^ (suc j + q) / 2 ^ q % 2 ≡ 0
bit-low j q =
    ap (λ (x : ℕ). x / 2 ^ q % 2) (pow-add 2 (suc j) q) ∙ ap (λ (x : ℕ). x % 2) (shl-shr (2 ^ suc j) q)
    ∙ ap (λ (x : ℕ). x % 2) (pow-suc 2 j) ∙ mul-mod_left (2 ^ j) 2

bit-pow : (p q : ℕ) → 2 ^ p / 2 ^ q % 2 ≡ cond (eqb q p) 1 0
bit-pow p q = go (dec_lt q p) (dec_lt p q)
  where
    go : Dec (q < p) → Dec (p < q) → 2 ^ p / 2 ^ q % 2 ≡ cond (eqb q p) 1 0
    go (yes l) m =
        let e : p ≡ suc (p - suc q) + q = omega arith in
        ap (λ (x : ℕ). 2 ^ x / 2 ^ q % 2) e ∙ bit-low (p - suc q) q ∙ sym (ap (λ (b : Bool). cond b 1 0) (ne_eqb q p (λ z. omega arith)))
    go (no n) (yes l) = ap (λ (x : ℕ). x % 2) (div-eq_of_lt (pow-lt l)) ∙ sym (ap (λ (b : Bool). cond b 1 0) (ne_eqb q p (λ z. omega arith)))
    go (no n) (no m) =
        let e : p ≡ q = omega arith in
        ap (λ (x : ℕ). 2 ^ x / 2 ^ q % 2) e ∙ ap (λ (x : ℕ). x % 2) (div_self (pow_pos q)) ∙ sym (ap (λ (b : Bool). cond b 1 0) (eq-eqb q p (sym e)))

xor-digit : (x : ℕ) → x < 2 → (b : Bool) → eqb (bit_xor x (cond b 1 0)) 1 ≡ cond b (not (eqb x 1)) (eqb x 1)
xor-digit zero h true = refl
xor-digit zero h false = refl
xor-digit (suc zero) h true = refl
xor-digit (suc zero) h false = refl
xor-digit (suc (suc x)) h b = absurd (omega arith)

-- a flip changes its port and no other
pub in-flip : (mask p q : ℕ) → in_mask (flip_port mask p) q ≡ cond (eqb q p) (not (in_mask mask q)) (in_mask mask q)
unfolding in_mask flip_port
in-flip mask p q =
    ap (λ (x : ℕ). eqb (x % 2) 1) (xor_shr mask (2 ^ p) q)
    ∙ ap (λ (x : ℕ). eqb x 1) (xor_mod (mask / 2 ^ q) (2 ^ p / 2 ^ q) 1)
    ∙ ap (λ (x : ℕ). eqb (bit_xor (mask / 2 ^ q % 2) x) 1) (bit-pow p q)
    ∙ xor-digit (mask / 2 ^ q % 2) (mod-lt (mask / 2 ^ q) (omega arith)) (eqb q p)

pub in-flip-same : (mask p : ℕ) → in_mask (flip_port mask p) p ≡ not (in_mask mask p)
in-flip-same mask p = in-flip mask p p ∙ ap (λ (b : Bool). cond b (not (in_mask mask p)) (in_mask mask p)) (eq-eqb p p refl)

pub in-flip-other : (mask p q : ℕ) → q ≢ p → in_mask (flip_port mask p) q ≡ in_mask mask q
in-flip-other mask p q h = in-flip mask p q ∙ ap (λ (b : Bool). cond b (not (in_mask mask q)) (in_mask mask q)) (ne_eqb q p h)

-- the part of a mask at one port
and-port : (mask p : ℕ) → bit_and mask (2 ^ p) ≡ mask / 2 ^ p % 2 * 2 ^ p
and-port mask p = ap (bit_and mask) (sym top) ∙ and_high mask 1 p
  where
    top : 2 ^ (1 + p) - 2 ^ p ≡ 2 ^ p
    top = omega (arith, pow-add 2 1 p)

digit-zero : (x : ℕ) → x < 2 → eqb x 1 ≡ false → x ≡ 0
digit-zero x l h = let n = eqb-false x 1 h in omega arith

and-out : (mask p : ℕ) → in_mask mask p ≡ false → bit_and mask (2 ^ p) ≡ 0
unfolding in_mask
and-out mask p h =
    and-port mask p
    ∙ ap (λ (x : ℕ). x * 2 ^ p) (digit-zero (mask / 2 ^ p % 2) (mod-lt (mask / 2 ^ p) (omega arith)) h) ∙ zero-mul (2 ^ p)

and_in : (mask p : ℕ) → in_mask mask p ≡ true → bit_and mask (2 ^ p) ≡ 2 ^ p
unfolding in_mask
and_in mask p h = and-port mask p ∙ ap (λ (x : ℕ). x * 2 ^ p) (eqb-true (mask / 2 ^ p % 2) 1 h) ∙ one-mul (2 ^ p)

-- to enter from outside, and to leave from inside, is to flip
pub enter-flip : (mask p : ℕ) → in_mask mask p ≡ false → enter mask p ≡ flip_port mask p
unfolding enter flip_port
enter-flip mask p h = or_disjoint mask (2 ^ p) (and-out mask p h) ∙ sym (xor_disjoint mask (2 ^ p) (and-out mask p h))

pub leave-flip : (mask p : ℕ) → in_mask mask p ≡ true → leave mask p ≡ flip_port mask p
unfolding leave flip_port
leave-flip mask p h = ap (λ (x : ℕ). bit_xor x (2 ^ p)) same
  where
    same : bit_or mask (2 ^ p) ≡ mask
    same = omega (arith, or_add_and mask (2 ^ p), and_in mask p h)

pub flip-lt : (mask p w : ℕ) → mask < 2 ^ w → p < w → flip_port mask p < 2 ^ w
unfolding flip_port
flip-lt mask p w h l = xor_lt w mask (2 ^ p) h (pow-lt l)

-- the size of a set, counted from the lowest port
ports-low : (u : ℕ) (s : ℕ → Bool) → ports_in (suc u) s ≡ indicator (s 0) + ports_in u (λ p. s (suc p))
unfolding ports_in
ports-low zero s = omega arith
ports-low (suc u) s = omega (arith, ports-low u s)

halves : (m p : ℕ) → m / 2 ^ suc p ≡ m / 2 / 2 ^ p
halves m p = ap (λ (x : ℕ). m / x) (pow-succ' 2 p) ∙ sym (div-div-eq-div-mul m 2 (2 ^ p))

digit : (x : ℕ) → x < 2 → indicator (eqb x 1) ≡ x
unfolding indicator
digit zero h = refl
digit (suc zero) h = refl
digit (suc (suc x)) h = absurd (omega arith)

ports-ones : (u m : ℕ) → ports_in u (in_mask m) ≡ ones_in u m
unfolding ones_in ports_in in_mask
ports-ones zero m = refl
ports-ones (suc u) m =
    ports-low u (λ p. eqb (m / 2 ^ p % 2) 1)
    ∙ ap₂ ◌+◌ (ap (λ (x : ℕ). indicator (eqb (x % 2) 1)) (div-one m) ∙ digit (m % 2) (mod-lt m (omega arith)))
    (ap (ports_in u) (fun_ext (λ p. ap (λ (x : ℕ). eqb (x % 2) 1) (halves m p))) ∙ ports-ones u (m / 2))

ones-in : (u m : ℕ) → m < 2 ^ u → ones_in u m ≡ ones m
unfolding ones_in ones
ones-in zero m h = ap (λ (x : ℕ). ones x) (let z : 0 ≡ m = omega arith in z)
ones-in (suc u) m h = ap (λ (x : ℕ). m % 2 + x) (ones-in u (m / 2) (omega (arith, pow-suc 2 u))) ∙ sym (ones_step m)

-- the machine's count of ones is the number of members
pub ports-mask : (u mask : ℕ) → mask < 2 ^ u → ports_in u (in_mask mask) ≡ ones mask
ports-mask u mask h = ports-ones u mask ∙ ones-in u mask h

-- the highest port of a mask
top-port : (mask j : ℕ) → 2 ^ j ≤ mask → mask < 2 ^ suc j → in_mask mask j ≡ true
unfolding in_mask
top-port mask j l h =
    let e : mask ≡ 1 * 2 ^ j + (mask - 2 ^ j) = omega arith in
    let r : mask - 2 ^ j < 2 ^ j = omega (arith, pow-suc 2 j) in
    ap (λ (x : ℕ). eqb (x / 2 ^ j % 2) 1) e ∙ ap (λ (x : ℕ). eqb (x % 2) 1) (high 1 j r)

below_power : (m : ℕ) → m < 2 ^ m
below_power zero = omega arith
below_power (suc m) = omega (arith, below_power m, pow-suc 2 m)

-- Ground 13's condition: a mask is within u ports exactly when it has no port of u or more.
pub within-ports : (u mask : ℕ) → within_ports u mask ≡ true ↔ ((p : ℕ) → u ≤ p → in_mask mask p ≡ false)
unfolding within_ports in_mask
within-ports u mask = (
  (λ h p l. ap (λ (x : ℕ). eqb (x % 2) 1) (div-eq_of_lt (le_trans (ltb-true mask (2 ^ u) h) (pow_mono l)))),
  (λ H. go H (dec_lt mask (2 ^ u))),
)
  where
    go : ((p : ℕ) → u ≤ p → in_mask mask p ≡ false) → Dec (mask < 2 ^ u) → ltb mask (2 ^ u) ≡ true
    go H (yes l) = lt-ltb mask (2 ^ u) l
    go H (no l) =
        let r = leading_top mask mask (omega (arith, pow_pos u)) (below_power mask) in
        let a : u ≤ r.0 = reach r.0 r.3 (dec_le u r.0) in
        absurd (false≢true (sym (H r.0 a) ∙ top-port mask r.0 r.2 r.3))
      where
        reach : (j : ℕ) → mask < 2 ^ suc j → Dec (u ≤ j) → u ≤ j
        reach j h (yes y) = y
        reach j h (no y) = let m : 2 ^ suc j ≤ 2 ^ u = pow_mono (lt_of_not-le y) in absurd (omega arith)

-- a set with no port of u or more has as many members among any more ports
ports-more : (u j : ℕ) (s : ℕ → Bool) → ((p : ℕ) → u ≤ p → s p ≡ false) → ports_in (j + u) s ≡ ports_in u s
unfolding ports_in indicator
ports-more u zero s h = ap (λ (x : ℕ). ports_in x s) (let e : 0 + u ≡ u = omega arith in e)
ports-more u (suc j) s h =
    let w : suc j + u ≡ suc (j + u) = omega arith in
    let e = ap indicator (h (j + u) (omega arith)) in
    ap (λ (x : ℕ). ports_in x s) w ∙ omega (arith, ports-more u j s h)

-- a mask within u ports has as many members out of test among any more ports
pub ports-within : (u w mask : ℕ) (test : ℕ → Bool) → u ≤ w → within_ports u mask ≡ true
    → ports_in w (out_of_test (in_mask mask) test) ≡ ports_in u (out_of_test (in_mask mask) test)
unfolding out_of_test
ports-within u w mask test l h =
    let e : w ≡ w - u + u = omega arith in
    ap (λ (x : ℕ). ports_in x (out_of_test (in_mask mask) test)) e
    ∙ ports-more u (w - u) (out_of_test (in_mask mask) test) (λ p k. ap (λ (b : Bool). b && not (test p)) ((within-ports u mask).0 h p k))

out-digit : (x y : ℕ) → x < 2 → y < 2 → eqb (bit_and x (bit_xor x y)) 1 ≡ (eqb x 1 && not (eqb y 1))
out-digit zero zero h k = refl
out-digit zero (suc zero) h k = refl
out-digit (suc zero) zero h k = refl
out-digit (suc zero) (suc zero) h k = refl
out-digit (suc (suc x)) y h k = absurd (omega arith)
out-digit zero (suc (suc y)) h k = absurd (omega arith)
out-digit (suc zero) (suc (suc y)) h k = absurd (omega arith)

-- how the code spells the members out of test
pub in-out-of-test : (mask test : ℕ) → in_mask (bit_and mask (bit_xor mask test)) ≡ out_of_test (in_mask mask) (in_mask test)
unfolding in_mask out_of_test
in-out-of-test mask test = fun_ext (λ p.
    ap (λ (x : ℕ). eqb (x % 2) 1) (and_shr mask (bit_xor mask test) p ∙ ap (bit_and (mask / 2 ^ p)) (xor_shr mask test p))
    ∙ ap (λ (x : ℕ). eqb x 1)
    (and_mod (mask / 2 ^ p) (bit_xor (mask / 2 ^ p) (test / 2 ^ p)) 1 ∙ ap (bit_and (mask / 2 ^ p % 2)) (xor_mod (mask / 2 ^ p) (test / 2 ^ p) 1))
    ∙ out-digit (mask / 2 ^ p % 2) (test / 2 ^ p % 2) (mod-lt (mask / 2 ^ p) (omega arith)) (mod-lt (test / 2 ^ p) (omega arith)))

-- how the code tests and spells it: a shift, and a power of two that fits
pub within_all : (u mask : ℕ) → mask < 2 ^ 64 → 64 ≤ u → within_ports u mask ≡ true
unfolding within_ports
within_all u mask h l = lt-ltb mask (2 ^ u) (le_trans h (pow_mono l))

pub within-shift : (u mask : ℕ) → eqb (mask / 2 ^ u) 0 ≡ within_ports u mask
unfolding within_ports
within-shift u mask = go (dec_lt mask (2 ^ u))
  where
    go : Dec (mask < 2 ^ u) → eqb (mask / 2 ^ u) 0 ≡ ltb mask (2 ^ u)
    go (yes l) = eq-eqb _ 0 (div-eq_of_lt l) ∙ sym (lt-ltb mask (2 ^ u) l)
    go (no l) =
        let m : 2 ^ u ≤ mask = omega arith in
        ne_eqb (mask / 2 ^ u) 0 (λ z. l (rw one-mul at ((div-lt_iff_lt-mul {x = mask} {y = 1} (pow_pos u)).0 (omega arith)))) ∙ sym (le-ltb mask (2 ^ u) m)

pub port-bit : (p : ℕ) → p < 64 → (1 * 2 ^ p) % 2 ^ 64 ≡ 2 ^ p
port-bit p h = shl_exact {a = 1} 1 p 64 (omega arith) (omega arith) ∙ one-mul (2 ^ p)
