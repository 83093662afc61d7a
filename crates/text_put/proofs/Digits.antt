-- The digits of a number. Assumes nothing.
use mathlib.Core.Path.{◌≡◌, refl}
use mathlib.Core.Bool.{Bool, true, false}
use mathlib.Core.List.{List, [], ◌∷◌, ◌++◌}
use Prim.Native.Nat.{ℕ, zero, suc, ◌+◌, ◌-◌, ◌/◌, ◌%◌, ◌≤◌, ◌<◌}
use native.Mathlib.Omega.{arith}
use lib.Dec.{ltb}
use lib.ListN.{length, length-append}
use borrow.Author.Tests.{lt-ltb, le-ltb}
use Rattle.text_tokens.specs.Tokens.{pick}
use Rattle.text_tokens.specs.Tokens.{digits_of}
use Rattle.text_put.specs.inner.Puts.{Puts}
use Rattle.text_put.proofs.Putting.{puts_none, puts-more}

pub digits-few : (k n : ℕ) → length (digits_of k n) ≤ k
unfolding digits_of
digits-few zero n = omega arith
digits-few (suc k) n = go (ltb n 10) (digits-few k (n / 10))
  where
    go : (t : Bool) → length (digits_of k (n / 10)) ≤ k → length (pick t [] (digits_of k (n / 10)) ++ ((48 + n % 10) ∷ [])) ≤ suc k
    go true h = omega arith
    go false h = omega (arith, length-append (digits_of k (n / 10)) ((48 + n % 10) ∷ []))

digits-none : (k n : ℕ) → k ≡ 0 → digits_of k n ≡ []
unfolding digits_of
digits-none zero n e = refl
digits-none (suc k) n e = absurd (omega arith)

digits-one : (k n : ℕ) → (k ≡ 0 → ⊥) → n < 10 → digits_of k n ≡ (48 + n % 10) ∷ []
unfolding digits_of
digits-one zero n f h = absurd (f refl)
digits-one (suc k) n f h = rw (lt-ltb n 10 h)

digits_more : (k n : ℕ) → (k ≡ 0 → ⊥) → 10 ≤ n → digits_of k n ≡ digits_of (k - 1) (n / 10) ++ ((48 + n % 10) ∷ [])
unfolding digits_of
digits_more zero n f h = absurd (f refl)
digits_more (suc k) n f h = let e : suc k - 1 ≡ k = omega arith in rw (le-ltb n 10 h, e)

-- the digits, put
module _ (at : ℕ) (out : List ℕ) (k n : ℕ) where
  pub put-none : k ≡ 0 → Puts at (digits_of k n) out at out
  put-none e = rw (digits-none k n e) (puts_none at out)

  pub put_one : (end : ℕ) (out' : List ℕ) → (k ≡ 0 → ⊥) → n < 10 → Puts at ((48 + n % 10) ∷ []) out end out' → Puts at (digits_of k n) out end out'
  put_one end out' f h P = rw (digits-one k n f h) P

  pub put_last : (next : ℕ) (mid : List ℕ) (end : ℕ) (out' : List ℕ) → (k ≡ 0 → ⊥) → 10 ≤ n → Puts at (digits_of (k - 1) (n / 10)) out next mid
      → Puts next ((48 + n % 10) ∷ []) mid end out' → Puts at (digits_of k n) out end out'
  put_last next mid end out' f h P Q = rw (digits_more k n f h) (puts-more at out (digits_of (k - 1) (n / 10)) ((48 + n % 10) ∷ []) next end mid out' P Q)
