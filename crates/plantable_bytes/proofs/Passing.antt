-- Line 1, its end and what stands behind it. Assumes nothing.
use mathlib.Core.Path.{◌≡◌, refl, sym, ap, ◌∙◌, subst}
use mathlib.Core.Bool.{Bool, true, false, cond, not, ◌||◌, false≢true}
use mathlib.Core.List.{List, [], ◌∷◌}
use Prim.Native.Nat.{ℕ, suc, ◌+◌, ◌≤◌, ◌<◌}
use native.Mathlib.Omega.{arith}
use native.Mathlib.Numerals.{add-one}
use lib.Dec.{eqb, ltb}
use lib.ListN.{length, get_or, take, drop}
use lib.Seq.{take-suc, take_all}
use borrow.Author.Tests.{lt-ltb, le-ltb}
use Rattle.std.specs.Prelude.{Option, Some, None, SomeIff}
use Rattle.std.specs.List.{position, position_or_len}
use Rattle.std.proofs.lemmas.Bool.{false_from_ne_true}
use Rattle.text_tokens.specs.Tokens.{pick}
use Rattle.planroot_input.specs.declared.Word.{Word}
use Rattle.planroot_input.specs.declared.Word.TheVariants as word
use Rattle.planroot_input.specs.Lines.{line, behind, ends, value, is_run}
use Rattle.planroot_input.specs.inner.Words.{is-empty, IsWord, AddsByte, JudgesWord}
use Rattle.planroot_input.proofs.Splitting.{line-all}
use Rattle.plantable_bytes.specs.Table.{line_sound}
use Rattle.plantable_bytes.specs.inner.Contract.{FindsLine}

-- the word that some bytes are, one by one
module _ (bytes : List ℕ) where
  pub word-none : IsWord (take 0 bytes) word.Empty
  word-none = is-empty

  pub word-more : (w r : Word) (i : ℕ) → i < length bytes → IsWord (take i bytes) w → AddsByte w (get_or bytes i 0) r → IsWord (take (i + 1) bytes) r
  unfolding AddsByte
  word-more w r i h W A = rw (add-one i, take-suc bytes i 0 h) (A (take i bytes) W)

  pub word-all : (w : Word) (i : ℕ) → length bytes ≤ i → IsWord (take i bytes) w → IsWord bytes w
  word-all w i h W = subst (λ (x : List ℕ). IsWord x w) (take_all i bytes h) W

-- the first line end is where line 1 ends
line-length : (x : List ℕ) → position_or_len (λ (b : ℕ). eqb b 10) x ≡ length (line x)
unfolding line
line-length [] = refl
line-length (b ∷ x) = go (eqb b 10) (line-length x)
  where
    go : (t : Bool) → position_or_len (λ (b : ℕ). eqb b 10) x ≡ length (line x) → cond (not t) (1 + position_or_len (λ (b : ℕ). eqb b 10) x) 0 ≡ length (pick t [] (b ∷ line x))
    go true e = refl
    go false e = omega (arith, e)

pub line-within : (x : List ℕ) → ends x ≡ true → length (line x) < length x
unfolding ends line
line-within [] h = absurd (false≢true h)
line-within (b ∷ x) h = go (eqb b 10) h (λ k. line-within x k)
  where
    go : (t : Bool) → (t || ends x) ≡ true → (ends x ≡ true → length (line x) < length x) → length (pick t [] (b ∷ line x)) < suc (length x)
    go true h f = omega arith
    go false h f = omega (arith, f h)

found-if : (p l n : ℕ) (P : Type 0) → p ≡ l → P → l < n → SomeIff (cond (ltb p n) (Some p) None) P l
found-if p l n P e h k = rw (e, lt-ltb l n k) (h, refl)

none-if : (p l n : ℕ) (P : Type 0) → p ≡ l → (P → ⊥) → n ≤ l → SomeIff (cond (ltb p n) (Some p) None) P l
none-if p l n P e f k = rw (e, le-ltb l n k) f

pub end-found : (x : List ℕ) → SomeIff (position (λ (b : ℕ). eqb b 10) x) (ends x ≡ true) (length (line x))
end-found x = go (ends x) refl
  where
    p : ℕ
    p = position_or_len (λ (b : ℕ). eqb b 10) x

    go : (t : Bool) → ends x ≡ t → SomeIff (cond (ltb p (length x)) (Some p) None) (ends x ≡ true) (length (line x))
    go true e = found-if p (length (line x)) (length x) (ends x ≡ true) (line-length x) e (line-within x e)
    go false e =
        let whole : length (line x) ≡ length x = ap length (line-all x e) in
        none-if p (length (line x)) (length x) (ends x ≡ true) (line-length x) (λ h. false≢true (sym e ∙ h)) (omega (arith, whole))

pub line-taken : (x : List ℕ) → take (length (line x)) x ≡ line x
unfolding line
line-taken [] = refl
line-taken (b ∷ x) = go (eqb b 10) (line-taken x)
  where
    go : (t : Bool) → take (length (line x)) x ≡ line x → take (length (pick t [] (b ∷ line x))) (b ∷ x) ≡ pick t [] (b ∷ line x)
    go true e = refl
    go false e = ap (λ (l : List ℕ). b ∷ l) e

pub behind-left : (x : List ℕ) → drop (suc (length (line x))) x ≡ behind x
unfolding line behind
behind-left [] = refl
behind-left (b ∷ x) = go (eqb b 10) (behind-left x)
  where
    go : (t : Bool) → drop (suc (length (line x))) x ≡ behind x → drop (suc (length (pick t [] (b ∷ line x)))) (b ∷ x) ≡ pick t x (behind x)
    go true e = refl
    go false e = e

-- line 1 with its word, in each case
module _ (input : List ℕ) where
  pub no-line : (ends input ≡ true → ⊥) → FindsLine input None
  unfolding line_sound
  no-line f = rw (false_from_ne_true (ends input) f)

  module _ (e : ends input ≡ true) (end : ℕ) (E : end ≡ length (line input)) (w : Word) (W : IsWord (take end input) w) where
    own : take end input ≡ line input
    own = ap (λ (k : ℕ). take k input) E ∙ line-taken input

    run-of : (r : Option ℕ) → JudgesWord w r → SomeIff r (is_run (line input) ≡ true) (value (line input))
    unfolding JudgesWord
    run-of r J = J (line input) (subst (λ (x : List ℕ). IsWord x w) own W)

    pub wrong-line : JudgesWord w None → FindsLine input None
    unfolding line_sound
    wrong-line J = rw (e, false_from_ne_true (is_run (line input)) (run-of None J))

    pub line-found : (u : ℕ) → JudgesWord w (Some u) → FindsLine input (Some (record { ports = u; text = end + 1 }))
    unfolding line_sound
    line-found u J =
        let R = run-of (Some u) J in (
          rw (e, R.0),
          record {
            ports-are = R.1;
            within = omega (arith, E, line-within input e);
            text-is = ap (λ (k : ℕ). drop k input) (add-one end ∙ ap suc E) ∙ behind-left input;
          },
        )
