-- Digit runs byte by byte. Assumes nothing.
use mathlib.Core.Path.{◌≡◌, refl, sym, ◌∙◌}
use mathlib.Core.Bool.{Bool, true, false, ◌&&◌, false≢true}
use mathlib.Core.List.{List, [], ◌∷◌, ◌++◌, append_assoc, append-nil}
use Prim.Native.Nat.{ℕ, ◌+◌, ◌*◌, ◌-◌, ◌≤◌, ◌<◌}
use native.Mathlib.Omega.{arith}
use lib.Dec.{leb, ltb}
use borrow.Author.Tests.{le-leb, lt-leb, leb-true, lt-ltb, le-ltb, ne_eqb}
use Rattle.std.specs.Prelude.{Some, None}
use Rattle.std.proofs.lemmas.Bool.{false_from_ne_true}
use Rattle.logic.proofs.Lists.{and_left, and_right, and-true}
use Rattle.text_tokens.specs.Tokens.{pick, is_digit, number_of}
use Rattle.planroot_input.specs.declared.Word.{Word}
use Rattle.planroot_input.specs.declared.Word.TheVariants as word
use Rattle.planroot_input.specs.Lines.{digits_only, begins_well, value, is_run}
use Rattle.planroot_input.specs.inner.Words.{leads, is-empty, is_zero, is_number, is-bad, AddsByte, JudgesWord}

pub digit-is : (b : ℕ) → 48 ≤ b → b ≤ 57 → is_digit b ≡ true
digit-is b h g = and-true _ _ (le-leb 48 b h) (le-leb b 57 g)

digit-low : (b : ℕ) → is_digit b ≡ true → 48 ≤ b
digit-low b d = leb-true 48 b (and_left (leb 48 b) _ d)

digit-high : (b : ℕ) → is_digit b ≡ true → b ≤ 57
digit-high b d = leb-true b 57 (and_right (leb 48 b) _ d)

and_no : (a b : Bool) → b ≡ false → (a && b) ≡ false
and_no true b h = h
and_no false b h = refl

pub low-no-digit : (b : ℕ) → b < 48 → is_digit b ≡ false
low-no-digit b h = rw (lt-leb 48 b h)

pub high-no-digit : (b : ℕ) → 57 < b → is_digit b ≡ false
high-no-digit b h = and_no (leb 48 b) _ (lt-leb b 57 h)

-- digits one behind the other
pub digits-snoc : (v : List ℕ) (b : ℕ) → digits_only v ≡ true → is_digit b ≡ true → digits_only (v ++ (b ∷ [])) ≡ true
unfolding digits_only
digits-snoc [] b h d = and-true _ _ d refl
digits-snoc (c ∷ v) b h d = and-true _ _ (and_left (is_digit c) _ h) (digits-snoc v b (and_right (is_digit c) _ h) d)

no-digits : (v : List ℕ) (b : ℕ) (x : List ℕ) → is_digit b ≡ false → digits_only (v ++ (b ∷ x)) ≡ false
unfolding digits_only
no-digits [] b x d = rw d
no-digits (c ∷ v) b x d = and_no (is_digit c) _ (no-digits v b x d)

pub number-snoc : (n : ℕ) (v : List ℕ) (b : ℕ) → digits_only v ≡ true → is_digit b ≡ true → number_of n (v ++ (b ∷ [])) ≡ 10 * number_of n v + (b - 48)
unfolding digits_only number_of
number-snoc n [] b h d = rw d
number-snoc n (c ∷ v) b h d = rw (and_left (is_digit c) _ h) (number-snoc (10 * n + (c - 48)) v b (and_right (is_digit c) _ h) d)

-- a number is no smaller than its beginning
pub number-grows : (n : ℕ) (v x : List ℕ) → digits_only v ≡ true → number_of n v ≤ number_of n (v ++ x)
unfolding digits_only number_of
number-grows n [] x h = at_least n x
  where
    at_least : (n : ℕ) (x : List ℕ) → n ≤ number_of n x
    at_least n [] = omega arith
    at_least n (b ∷ x) = go (is_digit b) (at_least (10 * n + (b - 48)) x)
      where
        go : (t : Bool) → 10 * n + (b - 48) ≤ number_of (10 * n + (b - 48)) x → n ≤ pick t (number_of (10 * n + (b - 48)) x) n
        go true q = omega arith
        go false q = omega arith
number-grows n (c ∷ v) x h = rw (and_left (is_digit c) _ h) (number-grows (10 * n + (c - 48)) v x (and_right (is_digit c) _ h))

pub leads-on : (v x : List ℕ) → leads v ≡ true → leads (v ++ x) ≡ true
unfolding leads
leads-on [] x h = absurd (false≢true h)
leads-on (b ∷ v) x h = h

pub leads-well : (v : List ℕ) → leads v ≡ true → begins_well v ≡ true
unfolding leads begins_well
leads-well [] h = absurd (false≢true h)
leads-well (b ∷ []) h = refl
leads-well (b ∷ c ∷ v) h = h

-- what is no beginning of a digit run
bad-byte : (v : List ℕ) (b : ℕ) → is_digit b ≡ false → (x : List ℕ) → is_run ((v ++ (b ∷ [])) ++ x) ≡ false
unfolding is_run
bad-byte v b d x = rw (append_assoc v (b ∷ []) x, no-digits v b x d)

bad-zero : (b : ℕ) (x : List ℕ) → is_run (48 ∷ b ∷ x) ≡ false
unfolding is_run begins_well
bad-zero b x = go (digits_only (48 ∷ b ∷ x)) (ltb (value (48 ∷ b ∷ x)) 18446744073709551616)
  where
    go : (a c : Bool) → (a && false && c) ≡ false
    go true c = refl
    go false c = refl

bad-large : (v : List ℕ) (b : ℕ) → digits_only v ≡ true → is_digit b ≡ true → 18446744073709551616 ≤ 10 * value v + (b - 48) → (x : List ℕ) → is_run ((v ++ (b ∷ [])) ++ x) ≡ false
unfolding is_run value
bad-large v b h d l x =
    let y = (v ++ (b ∷ [])) ++ x in
    and_no (digits_only y && begins_well y) (ltb (number_of 0 y) 18446744073709551616) (le-ltb (number_of 0 y) 18446744073709551616 (omega (arith, number-snoc 0 v b h d, number-grows 0 (v ++ (b ∷ [])) x (digits-snoc v b h d))))

-- one byte more
module _ (b : ℕ) where
  pub adds-bad : (w : Word) → (is_digit b ≡ true → ⊥) → AddsByte w b word.NoRun
  unfolding AddsByte
  adds-bad w f v W = is-bad _ (bad-byte v b (false_from_ne_true (is_digit b) f))

  pub adds-behind-0 : AddsByte word.Zero b word.NoRun
  unfolding AddsByte
  adds-behind-0 v is_zero = is-bad (48 ∷ b ∷ []) (λ x. bad-zero b x)

  pub stays-bad : AddsByte word.NoRun b word.NoRun
  unfolding AddsByte
  stays-bad v (is-bad _ F) = is-bad (v ++ (b ∷ [])) (λ x. rw (append_assoc v (b ∷ []) x) (F (b ∷ x)))

  module _ (n : ℕ) (D : (is_digit b ≡ true) × (n ≡ b - 48)) where
    pub adds-zero : n ≡ 0 → AddsByte word.Empty b word.Zero
    unfolding AddsByte
    adds-zero z v is-empty = let e : b ≡ 48 = omega (arith, digit-low b D.0, D.1) in rw e is_zero

    pub adds-first : (n ≡ 0 → ⊥) → AddsByte word.Empty b (word.Number n)
    unfolding AddsByte leads digits_only value number_of
    adds-first z v is-empty = is_number (b ∷ []) n record {
      lead = rw (ne_eqb b 48 (λ y. z (omega (arith, D.1))));
      digits = and-true _ _ D.0 refl;
      is = rw D.0 (omega (arith, D.1));
      small = omega (arith, digit-high b D.0, D.1);
    }

    module _ (k : ℕ) where
      pub adds-digit : (r : ℕ) → (10 * k + n < 18446744073709551616) × (r ≡ 10 * k + n) → AddsByte (word.Number k) b (word.Number r)
      unfolding AddsByte value
      adds-digit r l v (is_number _ _ N) = is_number (v ++ (b ∷ [])) r (record {
        lead = leads-on v (b ∷ []) N.lead;
        digits = digits-snoc v b N.digits D.0;
        is = omega (arith, N.is, D.1, l.1, number-snoc 0 v b N.digits D.0);
        small = omega (arith, l.0, l.1);
      })

      pub adds-large : (10 * k + n < 18446744073709551616 → ⊥) → AddsByte (word.Number k) b word.NoRun
      unfolding AddsByte
      adds-large l v (is_number _ _ N) = is-bad (v ++ (b ∷ [])) (bad-large v b N.digits D.0 (omega (arith, N.is, D.1)))

-- the end of a word
pub judges-empty : JudgesWord word.Empty None
unfolding JudgesWord is_run digits_only begins_well
judges-empty v is-empty = λ e. false≢true e

pub judges-zero : JudgesWord word.Zero (Some 0)
unfolding JudgesWord is_run digits_only begins_well value number_of
judges-zero v is_zero = (refl, refl)

pub judges-number : (n : ℕ) → JudgesWord (word.Number n) (Some n)
unfolding JudgesWord is_run
judges-number n v (is_number _ _ N) =
    (and-true _ _ (and-true _ _ N.digits (leads-well v N.lead)) (lt-ltb (value v) 18446744073709551616 (rw (← N.is) N.small)), N.is)

pub judges-bad : JudgesWord word.NoRun None
unfolding JudgesWord
judges-bad v (is-bad _ F) = λ e. false≢true (sym (rw (append-nil v) at (F [])) ∙ e)
