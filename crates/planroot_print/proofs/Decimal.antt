-- A printed number is a digit run of that number: "A digit run is 0 or doesn't begin with 0." Assumes nothing.
use mathlib.Core.Path.{◌≡◌, refl}
use mathlib.Core.Bool.{true}
use mathlib.Core.List.{List, [], ◌∷◌, ◌++◌}
use Prim.Native.Nat.{ℕ, zero, suc, ◌+◌, ◌*◌, ◌/◌, ◌%◌, ◌≤◌, ◌<◌}
use native.Mathlib.Decide.{dec_lt}
use native.Mathlib.Omega.{arith}
use lib.Dec.{ltb}
use borrow.Author.Tests.{lt-ltb, le-ltb, ne_eqb}
use Rattle.logic.proofs.Lists.{and-true}
use Rattle.text_tokens.specs.Tokens.{pick, is_digit, number_of, digits_of}
use Rattle.planroot_input.specs.Lines.{digits_only, begins_well, value, is_run}
use Rattle.planroot_input.specs.inner.Words.{leads}
use Rattle.planroot_input.proofs.Runs.{digit-is, digits-snoc, number-snoc, leads-on, leads-well}
use Rattle.planroot_print.specs.Line.{decimal}

-- 10 to the power k
tens : ℕ → ℕ
tens zero = 1
tens (suc k) = 10 * tens k

record Shown (v : List ℕ) (n : ℕ) : Type 0 where
  pub lead : leads v ≡ true
  pub digits : digits_only v ≡ true
  pub is : value v ≡ n

-- a number above 0 below 10^k, by its digits
shown : (k n : ℕ) → 1 ≤ n → n < tens k → Shown (digits_of k n) n
unfolding tens digits_of value number_of leads digits_only
shown zero n low h = absurd (omega arith)
shown (suc k) n low h = go (dec_lt n 10) (λ a b. shown k (n / 10) a b)
  where
    d : is_digit (48 + n % 10) ≡ true
    d = digit-is (48 + n % 10) (omega arith) (omega arith)

    go : Dec (n < 10) → (1 ≤ n / 10 → n / 10 < tens k → Shown (digits_of k (n / 10)) (n / 10)) → Shown (pick (ltb n 10) [] (digits_of k (n / 10)) ++ ((48 + n % 10) ∷ [])) n
    go (yes s) more = rw (lt-ltb n 10 s) record { lead = rw (ne_eqb (48 + n % 10) 48 (λ e. omega arith)); digits = and-true _ _ d refl; is = rw d (omega arith) }
    go (no f) more =
        let S = more (omega arith) (omega arith) in
        let v = digits_of k (n / 10) in
        rw (le-ltb n 10 (omega arith)) record {
          lead = leads-on v ((48 + n % 10) ∷ []) S.lead;
          digits = digits-snoc v (48 + n % 10) S.digits d;
          is = omega (arith, S.is, number-snoc 0 v (48 + n % 10) S.digits d);
        }

zero-run : (is_run (decimal 0) ≡ true) × (value (decimal 0) ≡ 0)
unfolding is_run digits_only begins_well value number_of decimal digits_of
zero-run = (refl, refl)

pub decimal-run : (n : ℕ) → n < 4294967296 → (is_run (decimal n) ≡ true) × (value (decimal n) ≡ n)
unfolding is_run decimal tens
decimal-run n h = go (dec_lt 0 n)
  where
    go : Dec (0 < n) → (is_run (decimal n) ≡ true) × (value (decimal n) ≡ n)
    go (yes low) =
        let S = shown 10 n (omega arith) (omega arith) in
        let v = digits_of 10 n in
        (and-true _ _ (and-true _ _ S.digits (leads-well v S.lead)) (lt-ltb (value v) 18446744073709551616 (omega (arith, S.is))), S.is)
    go (no f) = let e : n ≡ 0 = omega arith in rw e zero-run
