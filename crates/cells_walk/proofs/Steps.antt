-- The arithmetic of the steps: numbers modulo 2^32, the ports of a tuple, a literal afresh. Assumes nothing.
use mathlib.Core.Path.{◌≡◌, refl, sym, ap, ap₂, ◌∙◌}
use mathlib.Core.Logic.{◌≢◌}
use mathlib.Core.Bool.{false, cond}
use mathlib.Core.List.{List}
use Prim.Native.Nat.{ℕ, zero, suc, ◌+◌, ◌-◌, ◌*◌, ◌^◌, ◌/◌, ◌%◌, ◌≤◌, ◌<◌}
use native.Mathlib.Nat.{pow-suc, pow-zero, mod-eq_of_lt, div-eq_of_lt, add-mul-div_right, add-mul-mod_self_right, mul_assoc, mul-le-mul, mul-le-mul_right, mul_comm, pow-le-pow_right}
use native.Mathlib.Omega.{arith}
use native.Mathlib.Decide.{ℕ_discrete}
use lib.Dec.{eqb}
use lib.ListN.{length, get_or}
use lib.Pow.{pow-add}
use borrow.Author.Tests.{eq-eqb, ne_eqb}
use Rattle.logic.specs.Formula.{Test, isin, notin, port, size, test_kind, relation_of}
use Rattle.logic.specs.Configuration.{ports_in, out_of_test, configured, in_mask, in_masks}
use Rattle.logic.specs.Truth.{Tuple, port_of}
use Rattle.logic.specs.Penalty.{test_penalty}
use Rattle.logic.proofs.Lists.{TupleOf, empty, more}
use Rattle.logic.proofs.Tables.{length-tuple}
use Rattle.logic.proofs.Masks.{ports-within}
use Rattle.logic.proofs.Relations.{relation-of-number}
use Rattle.table_format.specs.Bytes.{test_relation, test_a, test_b}
use Rattle.cells_rule.specs.inner.Rule.{rule_penalty, Operands}
use Rattle.cells_rule.proofs.Rules.{rule-is}
use Rattle.cells_walk.specs.inner.Visit.{packed, TestAt, LiteralReady, MasksSettled}
use Rattle.cells_walk.specs.inner.Nodes.{TestFits}

-- the digits of a tuple of ports below 256
pub packed_lt : {u d : ℕ} {e : Tuple} → u ≤ 256 → TupleOf u d e → packed e < 256 ^ d
unfolding packed
packed_lt h empty = rw pow-zero (omega arith)
packed_lt h (more {d = d} {p = p} {e = e} l t) =
    let q = packed_lt h t in
    let s : p * 256 ^ length e ≡ p * 256 ^ d = ap (λ (x : ℕ). p * 256 ^ x) (length-tuple t) in
    let m : p * 256 ^ d ≤ 255 * 256 ^ d = mul-le-mul_right (256 ^ d) (omega arith) in
    omega (arith, pow-suc 256 d)

power_pos : (v : ℕ) → 0 < 256 ^ v
power_pos zero = rw pow-zero (omega arith)
power_pos (suc v) = omega (arith, pow-suc 256 v, power_pos v)

-- a digit has eight bits
byte_power : (v : ℕ) → 2 ^ (8 * v) ≡ 256 ^ v
byte_power zero = refl
byte_power (suc v) =
    let e : 8 * suc v ≡ 8 * v + 8 = omega arith in
    ap (λ (x : ℕ). 2 ^ x) e ∙ pow-add 2 (8 * v) 8 ∙ ap (λ (x : ℕ). x * 256) (byte_power v) ∙ sym (pow-suc 256 v)

pub digit_shift : (x v : ℕ) → x / 2 ^ (8 * v) % 256 ≡ x / 256 ^ v % 256
digit_shift x v = ap (λ (y : ℕ). x / y % 256) (byte_power v)

-- three digits stay below 2^24
power-low : (d : ℕ) → d ≤ 2 → 256 ^ d ≤ 65536
power-low d h = pow-le-pow_right {n = 256} (omega arith) {i = d} {j = 2} h

pub digits_low : (d x : ℕ) → d ≤ 2 → x < 256 ^ d → x < 65536
digits_low d x h l = omega (arith, power-low d h)

pub port-low : (d p : ℕ) → d ≤ 2 → p < 256 → p * 256 ^ d ≤ 16711680
port-low d p h l =
    let k : p ≤ 255 = omega arith in
    let m : p * 256 ^ d ≤ 255 * 65536 = mul-le-mul k (power-low d h) in
    m

pub port-shift : (d p : ℕ) → d ≤ 2 → p < 256 → p * 2 ^ (8 * d) % 4294967296 ≡ p * 256 ^ d
port-shift d p h l =
    ap (λ (y : ℕ). p * y % 4294967296) (byte_power d) ∙ mod-eq_of_lt (let q : p * 256 ^ d < 4294967296 = omega (arith, port-low d p h l) in q)

-- a port that stands outside is the same digit
digit-out : (x p v j : ℕ) → (x + p * 256 ^ (v + suc j)) / 256 ^ v % 256 ≡ x / 256 ^ v % 256
digit-out x p v j =
    let w : p * 256 ^ (v + suc j) ≡ p * 256 ^ suc j * 256 ^ v =
    ap (λ (y : ℕ). p * y) (pow-add 256 v (suc j) ∙ mul_comm (256 ^ v) (256 ^ suc j)) ∙ sym (mul_assoc p (256 ^ suc j) (256 ^ v)) in
    ap (λ (y : ℕ). (x + y) / 256 ^ v % 256) w
    ∙ ap (λ (y : ℕ). y % 256) (add-mul-div_right x (p * 256 ^ suc j) (power_pos v))
    ∙ ap (λ (y : ℕ). (x / 256 ^ v + y) % 256) (ap (λ (y : ℕ). p * y) (pow-suc 256 j) ∙ sym (mul_assoc p (256 ^ j) 256))
    ∙ add-mul-mod_self_right (x / 256 ^ v) (p * 256 ^ j) 256

digit-own : (x p v : ℕ) → x < 256 ^ v → p < 256 → (x + p * 256 ^ v) / 256 ^ v % 256 ≡ p
digit-own x p v l h =
    ap (λ (y : ℕ). y % 256) (add-mul-div_right x p (power_pos v) ∙ ap (λ (y : ℕ). y + p) (div-eq_of_lt l)) ∙ mod-eq_of_lt (let q : 0 + p < 256 = omega arith in q)
    ∙ (let q : 0 + p ≡ p = omega arith in q)

-- the digit of a variable is its port
pub port-packed : {u d : ℕ} {e : Tuple} (v : ℕ) → u ≤ 256 → TupleOf u d e → v < d → packed e / 256 ^ v % 256 ≡ port_of e v
unfolding packed port_of
port-packed v h empty l = absurd (omega arith)
port-packed v h (more {d = d} {p = p} {e = e} k t) l = go (ℕ_discrete v (length e)) (λ m. port-packed v h t m)
  where
    go : Dec (v ≡ length e) → (v < d → packed e / 256 ^ v % 256 ≡ port_of e v)
        → (packed e + p * 256 ^ length e) / 256 ^ v % 256 ≡ cond (eqb v (length e)) p (port_of e v)
    go (yes q) f = rw (eq-eqb v (length e) q, ← q) (digit-own (packed e) p v (rw (q ∙ length-tuple t) (packed_lt h t)) (omega arith))
    go (no n) f =
        let j = length e - suc v in
        let w : length e ≡ v + suc j = omega (arith, length-tuple t) in
        rw (ne_eqb v (length e) n) (ap (λ (x : ℕ). (packed e + p * 256 ^ x) / 256 ^ v % 256) w ∙ digit-out (packed e) p v j ∙ f (omega (arith, length-tuple t)))

-- which literal a kind says, and its penalty by the numbers that the code reads
module _ (u sets d kind relation a b : ℕ) (masks : List ℕ) (digits : ℕ) (ready : MasksSettled u sets masks) where
  abbrev port_here : ℕ → ℕ
  port_here v = digits / 256 ^ v % 256

  module _ (t : Test) (e : Tuple) (at : TestAt u sets d kind relation a b masks digits t e) where
    port-here : (v : ℕ) → v < d → port_here v ≡ port_of e v
    port-here v h = ap (λ (x : ℕ). x / 256 ^ v % 256) at.digits_are ∙ port-packed v (omega (arith, ready.ports64)) at.tuple h

  -- the rule's penalty is the test's
  pub afresh-member : (r : ℕ) → kind ≢ 7 → kind ≢ 8 → r ≡ rule_penalty kind relation (in_mask (get_or masks b 0) (port_here a)) 0 0
      → (t : Test) (e : Tuple) → TestAt u sets d kind relation a b masks digits t e → r ≡ test_penalty (configured u sets (in_masks masks)) t e
  unfolding Operands test_kind test_a test_b TestFits in_masks configured
  afresh-member r n o q (isin v S) e at =
      q ∙ rule-is (configured u sets (in_masks masks)) (isin v S) e kind relation (in_mask (get_or masks b 0) (port_here a)) 0 0
      (at.kind-is, ap₂ (λ (x y : ℕ). in_mask (get_or masks x 0) y) at.b-is (ap port_here at.a-is ∙ port-here (isin v S) e at v at.fits.0))
  afresh-member r n o q (notin v S) e at =
      q ∙ rule-is (configured u sets (in_masks masks)) (notin v S) e kind relation (in_mask (get_or masks b 0) (port_here a)) 0 0
      (at.kind-is, ap₂ (λ (x y : ℕ). in_mask (get_or masks x 0) y) at.b-is (ap port_here at.a-is ∙ port-here (notin v S) e at v at.fits.0))
  afresh-member r n o q (port w v x) e at = absurd (n at.kind-is)
  afresh-member r n o q (size w S c) e at = absurd (o at.kind-is)

  pub afresh-port : (r : ℕ) → kind ≡ 7 → r ≡ rule_penalty kind relation false (port_here a) (port_here b)
      → (t : Test) (e : Tuple) → TestAt u sets d kind relation a b masks digits t e → r ≡ test_penalty (configured u sets (in_masks masks)) t e
  unfolding Operands test_kind test_relation test_a test_b TestFits
  afresh-port r k q (isin v S) e at = absurd (omega (arith, at.kind-is))
  afresh-port r k q (notin v S) e at = absurd (omega (arith, at.kind-is))
  afresh-port r k q (port w v x) e at =
      q ∙ rule-is (configured u sets (in_masks masks)) (port w v x) e kind relation false (port_here a) (port_here b)
      (at.kind-is, ap relation_of at.relation-is ∙ relation-of-number w, ap port_here at.a-is ∙ port-here (port w v x) e at v at.fits.0, ap port_here at.b-is ∙ port-here (port w v x) e at x at.fits.1)
  afresh-port r k q (size w S c) e at = absurd (omega (arith, at.kind-is))

  pub afresh-size : (r : ℕ) → kind ≡ 8 → r ≡ rule_penalty kind relation false (ports_in 64 (out_of_test (in_masks masks a) (in_masks masks sets))) b
      → (t : Test) (e : Tuple) → TestAt u sets d kind relation a b masks digits t e → r ≡ test_penalty (configured u sets (in_masks masks)) t e
  unfolding Operands test_kind test_relation test_a test_b TestFits configured in_masks
  afresh-size r k q (isin v S) e at = absurd (omega (arith, at.kind-is))
  afresh-size r k q (notin v S) e at = absurd (omega (arith, at.kind-is))
  afresh-size r k q (port w v x) e at = absurd (omega (arith, at.kind-is))
  afresh-size r k q (size w S c) e at =
      q ∙ rule-is (configured u sets (in_masks masks)) (size w S c) e kind relation false (ports_in 64 (out_of_test (in_masks masks a) (in_masks masks sets))) b (
        at.kind-is,
        ap relation_of at.relation-is ∙ relation-of-number w,
        ap (λ (x : ℕ). ports_in 64 (out_of_test (in_masks masks x) (in_masks masks sets))) at.a-is
            ∙ ports-within u 64 (get_or masks S 0) (in_masks masks sets) ready.ports64 (ready.within S at.fits.0),
        at.b-is,
      )

-- the port of a bound variable is below u
pub port-of-lt : {u d : ℕ} {e : Tuple} (v : ℕ) → TupleOf u d e → v < d → port_of e v < u
unfolding port_of
port-of-lt v empty l = absurd (omega arith)
port-of-lt {u = u} v (more {d = d} {p = p} {e = e} k t) l = go (ℕ_discrete v (length e)) (λ m. port-of-lt v t m)
  where
    go : Dec (v ≡ length e) → (v < d → port_of e v < u) → cond (eqb v (length e)) p (port_of e v) < u
    go (yes q) f = rw (eq-eqb v (length e) q) k
    go (no n) f = rw (ne_eqb v (length e) n) (f (omega (arith, length-tuple t)))

-- where the fields of a literal lie, by its kind
module _ (u sets d kind relation a b : ℕ) (masks : List ℕ) (digits : ℕ) (m : MasksSettled u sets masks) where
  digit_lt : (t : Test) (e : Tuple) → TestAt u sets d kind relation a b masks digits t e → (v : ℕ) → a ≡ v → v < d → digits / 256 ^ a % 256 < 64
  digit_lt t e at v q h =
      let p = port-of-lt v at.tuple h in
      let w : digits / 256 ^ a % 256 ≡ port_of e v =
      ap₂ (λ (x y : ℕ). x / 256 ^ y % 256) at.digits_are q ∙ port-packed v (omega (arith, m.ports64)) at.tuple h in
      omega (arith, m.ports64)

  member-at : kind ≢ 7 → kind ≢ 8 → (t : Test) (e : Tuple) → TestAt u sets d kind relation a b masks digits t e
      → (a ≤ 2) × (b < length masks) × (digits / 256 ^ a % 256 < 64)
  unfolding test_kind test_a test_b TestFits
  member-at n o (isin v S) e at = (
    omega (arith, at.a-is, at.fits.0, at.depth3),
    omega (arith, at.b-is, at.fits.1, m.masks-long),
    digit_lt (isin v S) e at v at.a-is at.fits.0,
  )
  member-at n o (notin v S) e at = (
    omega (arith, at.a-is, at.fits.0, at.depth3),
    omega (arith, at.b-is, at.fits.1, m.masks-long),
    digit_lt (notin v S) e at v at.a-is at.fits.0,
  )
  member-at n o (port r v w) e at = absurd (n at.kind-is)
  member-at n o (size r S c) e at = absurd (o at.kind-is)

  comparison-at : kind ≡ 7 → (t : Test) (e : Tuple) → TestAt u sets d kind relation a b masks digits t e → (a ≤ 2) × (b ≤ 2)
  unfolding test_kind test_a test_b TestFits
  comparison-at h (isin v S) e at = absurd (omega (arith, at.kind-is))
  comparison-at h (notin v S) e at = absurd (omega (arith, at.kind-is))
  comparison-at h (port r v w) e at =
      (omega (arith, at.a-is, at.fits.0, at.depth3), omega (arith, at.b-is, at.fits.1, at.depth3))
  comparison-at h (size r S c) e at = absurd (omega (arith, at.kind-is))

  size-at : kind ≡ 8 → (t : Test) (e : Tuple) → TestAt u sets d kind relation a b masks digits t e → (a < sets) × (sets < length masks)
  unfolding test_kind test_a test_b TestFits
  size-at h (isin v S) e at = absurd (omega (arith, at.kind-is))
  size-at h (notin v S) e at = absurd (omega (arith, at.kind-is))
  size-at h (port r v w) e at = absurd (omega (arith, at.kind-is))
  size-at h (size r S c) e at = (omega (arith, at.a-is, at.fits.0), omega (arith, m.masks-long))

module _ {u sets d kind relation a b : ℕ} {masks : List ℕ} {digits : ℕ} (ready : LiteralReady u sets d kind relation a b masks digits) where
  pub member-ready : kind ≢ 7 → kind ≢ 8 → (a ≤ 2) × (b < length masks) × (digits / 256 ^ a % 256 < 64)
  member-ready n o = member-at u sets d kind relation a b masks digits ready.settled n o ready.literal.test ready.ports ready.at

  pub comparison-ready : kind ≡ 7 → (a ≤ 2) × (b ≤ 2)
  comparison-ready h = comparison-at u sets d kind relation a b masks digits ready.settled h ready.literal.test ready.ports ready.at

  pub size-ready : kind ≡ 8 → (a < sets) × (sets < length masks)
  size-ready h = size-at u sets d kind relation a b masks digits ready.settled h ready.literal.test ready.ports ready.at
