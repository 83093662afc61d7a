-- The port of a variable in the t-th tuple, for any depth, and how it goes on from cell to cell. Assumes nothing.
use mathlib.Core.Path.{◌≡◌, refl, sym, ap, ◌∙◌}
use mathlib.Core.Bool.{cond}
use mathlib.Core.List.{List}
use Prim.Native.Nat.{ℕ, zero, suc, ◌+◌, ◌-◌, ◌*◌, ◌^◌, ◌/◌, ◌%◌, ◌≤◌, ◌<◌}
use native.Mathlib.Nat.{mod-lt, mod-add-mod, add-mod_right, add-div_right, mul-mod_left, div-one, div-div-eq-div-mul, div-add-mod', pow-zero, pow-succ', one-le-pow, pow-le-pow_left, pow-le-pow_right, mul-le-mul, mul-le-mul_right, suc-mul, zero-div, zero-mod}
use native.Mathlib.Decide.{dec_lt}
use native.Mathlib.Omega.{arith}
use lib.Dec.{eqb}
use lib.ListN.{length}
use lib.Arith.{digits_div, digits_mod}
use lib.Pow.{pow-add}
use borrow.Author.Tests.{eq-eqb, ne_eqb}
use Rattle.logic.specs.Truth.{port_of}
use Rattle.logic.specs.Cells.{tuple_at}
use Rattle.cells_runs.specs.declared.Digit.{Digit}
use Rattle.cells_runs.specs.inner.Ports.{block_of, digit_at, DigitIs, RunsPlaced}

length-tuple-at : (u d i : ℕ) → length (tuple_at u d i) ≡ d
unfolding tuple_at
length-tuple-at u zero i = refl
length-tuple-at u (suc d) i = ap suc (length-tuple-at u d (i / u))

-- Which digit of a tuple's place a variable's port is.
pub port-digit : (u d v i : ℕ) → v < d → port_of (tuple_at u d i) v ≡ digit_at u (block_of u d v) i
unfolding tuple_at port_of digit_at block_of
port-digit u zero v i h = absurd (omega arith)
port-digit u (suc d) v i h = go (λ l. port-digit u d v (i / u) l) (dec_lt v d)
  where
    go : (v < d → port_of (tuple_at u d (i / u)) v ≡ i / u / u ^ (d - 1 - v) % u) → Dec (v < d)
        → cond (eqb v (length (tuple_at u d (i / u)))) (i % u) (port_of (tuple_at u d (i / u)) v) ≡ i / u ^ (suc d - 1 - v) % u
    go f (yes l) =
        let e : suc (d - 1 - v) ≡ suc d - 1 - v = omega arith in
        rw (length-tuple-at u d (i / u), ne_eqb v d (λ z. omega arith))
        (f l ∙ ap (λ (x : ℕ). x % u) (div-div-eq-div-mul i u (u ^ (d - 1 - v)))
        ∙ ap (λ (x : ℕ). i / x % u) (sym (pow-succ' u (d - 1 - v)) ∙ ap (λ (x : ℕ). u ^ x) e))
    go f (no l) =
        let e : v ≡ d = omega arith in
        let z : 0 ≡ suc d - 1 - v = omega arith in
        rw (length-tuple-at u d (i / u), eq-eqb v d e)
        (ap (λ (x : ℕ). x % u) (sym (div-one i)) ∙ ap (λ (x : ℕ). i / x % u) (sym (pow-zero u) ∙ ap (λ (x : ℕ). u ^ x) z))

pub digit_lt : (u block t : ℕ) → 1 ≤ u → digit_at u block t < u
unfolding digit_at
digit_lt u block t h = mod-lt (t / block) h

pub digit-first : (u block : ℕ) → 0 ≡ digit_at u block 0
unfolding digit_at
digit-first u block = sym (ap (λ (x : ℕ). x % u) (zero-div block) ∙ zero-mod u)

pub digit-start : (u block : ℕ) (d : Digit) → d.port ≡ 0 → d.left ≡ block → DigitIs u block 0 d
digit-start u block d p l = record { port-is = p ∙ digit-first u block; left_is = omega (arith, zero-mod block) }

-- a cell on, within the run and past its last cell
pub digit-stays : (u block t : ℕ) (d e : Digit) → 1 < d.left → e.port ≡ d.port → e.left + 1 ≡ d.left → DigitIs u block t d
    → DigitIs u block (t + 1) e
unfolding digit_at
digit-stays u block t d e h p l is =
    let q : t ≡ t / block * block + t % block = sym (div-add-mod' t block) in
    let s : t + 1 ≡ t / block * block + (t % block + 1) = omega arith in
    let w : t % block + 1 < block = omega (arith, is.left_is) in
    let quot : (t + 1) / block ≡ t / block = ap (λ (x : ℕ). x / block) s ∙ digits_div (t / block) w in
    let rest : (t + 1) % block ≡ t % block + 1 = ap (λ (x : ℕ). x % block) s ∙ digits_mod (t / block) w in
    record {
      port-is = p ∙ is.port-is ∙ ap (λ (x : ℕ). x % u) (sym quot);
      left_is = omega (arith, is.left_is);
    }

pub digit-goes : (u block t : ℕ) (d e : Digit) → d.left ≡ 1 → e.port ≡ (d.port + 1) % u → e.left ≡ block → DigitIs u block t d
    → DigitIs u block (t + 1) e
unfolding digit_at
digit-goes u block t d e h p l is =
    let b1 : 1 ≤ block = omega (arith, is.left_is) in
    let q : t ≡ t / block * block + t % block = sym (div-add-mod' t block) in
    let s : t + 1 ≡ t / block * block + block = omega (arith, is.left_is) in
    let quot : (t + 1) / block ≡ t / block + 1 =
    ap (λ (x : ℕ). x / block) s ∙ add-div_right (t / block * block) b1
    ∙ ap (λ (x : ℕ). x + 1) (ap (λ (x : ℕ). x / block) (omega arith) ∙ digits_div (t / block) {r = 0} b1) in
    let rest : (t + 1) % block ≡ 0 = ap (λ (x : ℕ). x % block) s ∙ add-mod_right (t / block * block) block ∙ mul-mod_left (t / block) block in
    record {
      port-is = p ∙ ap (λ (x : ℕ). (x + 1) % u) is.port-is ∙ mod-add-mod (t / block) u 1 ∙ ap (λ (x : ℕ). x % u) (sym quot);
      left_is = omega arith;
    }

-- the cells of a node are whole runs
pub block-pos : (u d v : ℕ) → 1 ≤ u → 1 ≤ block_of u d v
unfolding block_of
block-pos u d v h = one-le-pow (d - 1 - v) u h

pub block-whole : (u d v : ℕ) → v < d → u ^ d % block_of u d v ≡ 0
unfolding block_of
block-whole u d v h =
    let e : d ≡ suc v + (d - 1 - v) = omega arith in
    ap (λ (x : ℕ). x % u ^ (d - 1 - v)) (ap (λ (x : ℕ). u ^ x) e ∙ pow-add u (suc v) (d - 1 - v))
    ∙ mul-mod_left (u ^ suc v) (u ^ (d - 1 - v))

-- a larger block is whole rounds of a smaller one
pub block-nested : (u d v w : ℕ) → 1 ≤ u → block_of u d w < block_of u d v → block_of u d v % (u * block_of u d w) ≡ 0
unfolding block_of
block-nested u d v w h l = go (dec_lt (d - 1 - w) (d - 1 - v))
  where
    go : Dec (d - 1 - w < d - 1 - v) → u ^ (d - 1 - v) % (u * u ^ (d - 1 - w)) ≡ 0
    go (yes k) =
        let e : d - 1 - v ≡ d - 1 - v - suc (d - 1 - w) + suc (d - 1 - w) = omega arith in
        ap (λ (x : ℕ). u ^ (d - 1 - v) % x) (sym (pow-succ' u (d - 1 - w)))
        ∙ ap (λ (x : ℕ). x % u ^ suc (d - 1 - w)) (ap (λ (x : ℕ). u ^ x) e ∙ pow-add u (d - 1 - v - suc (d - 1 - w)) (suc (d - 1 - w)))
        ∙ mul-mod_left (u ^ (d - 1 - v - suc (d - 1 - w))) (u ^ suc (d - 1 - w))
    go (no k) = absurd (omega (arith, pow-le-pow_right {n = u} h {i = d - 1 - v} {j = d - 1 - w} (omega arith)))

pub block-once : (u d v : ℕ) → 1 ≤ u → v < d → u * block_of u d v ≤ u ^ d
unfolding block_of
block-once u d v h l = rw (← (pow-succ' u (d - 1 - v))) (pow-le-pow_right {n = u} h {i = suc (d - 1 - v)} {j = d} (omega arith))

-- a run that begins before the end of whole runs ends by it
pub run_fits : {u block w : ℕ} {cells : List ℕ} → RunsPlaced u block w cells → (t : ℕ) → t % block ≡ 0 → t < w → t + block ≤ w
run_fits {u} {block} {w} p t z h =
    let e : t ≡ t / block * block = omega (arith, div-add-mod' t block) in
    let f : w ≡ w / block * block = omega (arith, div-add-mod' w block, p.whole) in
    go e f (dec_lt (t / block) (w / block))
  where
    go : t ≡ t / block * block → w ≡ w / block * block → Dec (t / block < w / block) → t + block ≤ w
    go e f (yes l) = omega (arith, mul-le-mul_right block l, suc-mul (t / block) block)
    go e f (no l) =
        let m : w / block ≤ t / block = omega arith in absurd (omega (arith, mul-le-mul_right block m))

-- a power of at most 64 fits in 64 bits, as two variables inside a third ask for
pub power_low : (u n : ℕ) → u ≤ 64 → n ≤ 2 → u ^ n < 18446744073709551616
power_low u n h l =
    let e : u ^ n ≤ 64 ^ n = pow-le-pow_left h n in
    let f : 64 ^ n ≤ 64 ^ 2 = pow-le-pow_right {n = 64} (omega arith) {i = n} {j = 2} l in
    omega arith

-- ten powers of at most 64 fit in 64 bits
pub power-low : (u i : ℕ) → u ≤ 64 → i < 10 → u ^ i * u ≤ 1152921504606846976
power-low u i h l =
    let e : u ^ i ≤ 64 ^ i = pow-le-pow_left h i in
    let f : 64 ^ i ≤ 64 ^ 9 = pow-le-pow_right {n = 64} (omega arith) {i = i} {j = 9} (omega arith) in
    let g : u ^ i ≤ 18014398509481984 = omega arith in
    let m : u ^ i * u ≤ 18014398509481984 * 64 = mul-le-mul g h in
    omega arith
