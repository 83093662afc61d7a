-- Laws of the tokens: where a token ends, and what each test of the reader tells. Assumes nothing.
use mathlib.Core.Path.{◌≡◌, refl, sym, ap, ◌∙◌}
use mathlib.Core.List.{List, [], ◌∷◌}
use mathlib.Core.Bool.{Bool, true, false, ◌&&◌, ◌||◌}
use mathlib.Core.Logic.{⊎_elim, ◌⊎◌, inl, inr}
use Prim.Native.Nat.{ℕ, suc, ◌+◌, ◌-◌, ◌*◌, ◌≤◌, ◌<◌, min}
use native.Mathlib.Omega.{arith}
use native.Mathlib.Numerals.{add-one}
use native.Mathlib.Decide.{dec_le}
use lib.ListN.{length, get_or, drop, drop_of_length-le, length-drop, get_or-eq_default}
use lib.Seq.{drop-cons}
use lib.Dec.{eqb, leb, ltb}
use borrow.Author.Tests.{eqb-true, leb-true, leb-false}
use Rattle.std.specs.Prelude.{take_while, cond}
use Rattle.std.specs.List.{list_any}
use Rattle.std.specs.Char.{is_ascii_alphanumeric}
use Rattle.std.proofs.Common.{nat_eq}
use Rattle.std.proofs.lemmas.Bool.Decides.{nat_tests}
use Rattle.std.proofs.lemmas.List.Sums.{take_while-cons}
use Rattle.logic.proofs.Lists.{and_left, and_right}
use Rattle.text_tokens.specs.Tokens.{pick, between, is_digit, is_set, is_variable, blank, blanks, after_blanks, one_or_two, sign, sign_of, digits, number_of, run_at, run_token, here_at, token_at, among, blanks_and_signs, known_byte}
use Rattle.text_tokens.specs.declared.Token.{Token}
use Rattle.text_tokens.specs.declared.Sign.{Sign}

-- what holds of both sides of a pick holds of it
when : {A : Type 0} (P : A → Type 0) (t : Bool) {x y : A} → (t ≡ true → P x) → (t ≡ false → P y) → P (pick t x y)
when P true f g = f refl
when P false f g = g refl

pub between-range : (a b c : ℕ) → between a b c ≡ true → (a ≤ b) × (b ≤ c)
between-range a b c e = (leb-true _ _ (and_left _ (leb b c) e), leb-true _ _ (and_right (leb a b) _ e))

lt-or-le : (a b : ℕ) → (a < b) ⊎ (b ≤ a)
lt-or-le a b = elim (dec_le b a) [ yes h ↦ inr h | no f ↦ inl (omega arith) ]

-- blanks

pub blanks-stop : (s : List ℕ) (i : ℕ) → i < length s → blank (get_or s i 0) ≡ false → after_blanks s i ≡ i
unfolding after_blanks blanks
blanks-stop s i h e = rw (drop-cons s i 0 h, e) (omega arith)

pub blanks-more : (s : List ℕ) (i : ℕ) → i < length s → blank (get_or s i 0) ≡ true → after_blanks s (i + 1) ≡ after_blanks s i
unfolding after_blanks blanks
blanks-more s i h e = rw (drop-cons s i 0 h, add-one, e) (omega arith)

-- the count of the program
pub blanks_count : (s : List ℕ) → length (take_while blank s) ≡ blanks s
unfolding blanks
blanks_count [] = refl
blanks_count (b ∷ s) = rw (take_while-cons blank b s) (by-blank (blank b) (blanks_count s))
  where
    by-blank : (t : Bool) → length (take_while blank s) ≡ blanks s → length (cond t (b ∷ take_while blank s) []) ≡ pick t (suc (blanks s)) 0
    by-blank true h = ap suc h
    by-blank false h = refl

blanks-le : (s : List ℕ) → blanks s ≤ length s
unfolding blanks
blanks-le [] = omega arith
blanks-le (b ∷ s) = let h = blanks-le s in when (λ (n : ℕ). n ≤ suc (length s)) (blank b) (λ _. omega arith) (λ _. omega arith)

pub blanks_within : (s : List ℕ) (at : ℕ) → at ≤ length s → after_blanks s at ≤ length s
unfolding after_blanks
blanks_within s at h = omega (arith, blanks-le (drop at s), length-drop at s)

-- digit runs

-- a number that is cut at 65 before more digits is cut at 65 after them
cut : (s : List ℕ) (v : ℕ) → min 65 (number_of (min 65 v) s) ≡ min 65 (number_of v s)
unfolding number_of
cut [] v = omega arith
cut (b ∷ s) v = by-digit (is_digit b) (cut s (10 * min 65 v + (b - 48))) (cut s (10 * v + (b - 48)))
  where
    same : min 65 (10 * min 65 v + (b - 48)) ≡ min 65 (10 * v + (b - 48))
    same = omega arith

    by-digit : (t : Bool)
        → min 65 (number_of (min 65 (10 * min 65 v + (b - 48))) s) ≡ min 65 (number_of (10 * min 65 v + (b - 48)) s)
        → min 65 (number_of (min 65 (10 * v + (b - 48))) s) ≡ min 65 (number_of (10 * v + (b - 48)) s)
        → min 65 (pick t (number_of (10 * min 65 v + (b - 48)) s) (min 65 v)) ≡ min 65 (pick t (number_of (10 * v + (b - 48)) s) v)
    by-digit true p q = sym p ∙ ap (λ (x : ℕ). min 65 (number_of x s)) same ∙ q
    by-digit false p q = omega arith

module _ (s : List ℕ) (i v : ℕ) where
  -- no digit stands at i, or the text ends there
  pub run_stop : is_digit (get_or s i 0) ≡ false → v ≤ 65 → run_at s i v ≡ record { value = v; end = i }
  unfolding run_at digits number_of
  run_stop e l = ⊎_elim (λ h. rw (drop-cons s i 0 h, e) (λ k. record { value = kept k; end = here k })) (λ h. rw (drop_of_length-le s h) (λ k. record { value = kept k; end = here k })) (lt-or-le i (length s))
    where
      here : i + 0 ≡ i
      here = omega arith

      kept : min 65 v ≡ v
      kept = omega arith

  pub run_more : i < length s → is_digit (get_or s i 0) ≡ true → run_at s (i + 1) (min 65 (10 * v + (get_or s i 0 - 48))) ≡ run_at s i v
  unfolding run_at digits number_of
  run_more h e = rw (drop-cons s i 0 h, add-one, e) (λ k. record { value = cut (drop (suc i) s) (10 * v + (get_or s i 0 - 48)) k; end = here k })
    where
      here : suc i + digits (drop (suc i) s) ≡ i + suc (digits (drop (suc i) s))
      here = omega arith

digits_le : (s : List ℕ) → digits s ≤ length s
unfolding digits
digits_le [] = omega arith
digits_le (b ∷ s) = let h = digits_le s in when (λ (n : ℕ). n ≤ suc (length s)) (is_digit b) (λ _. omega arith) (λ _. omega arith)

-- a run that begins with a digit moves on, and stays in the text
pub run-moves : (s : List ℕ) (i : ℕ) → i < length s → is_digit (get_or s i 0) ≡ true → (i < (run_at s i 0).end) × ((run_at s i 0).end ≤ length s)
unfolding run_at digits
run-moves s i h e = (omega (arith, first), omega (arith, digits_le (drop i s), length-drop i s))
  where
    first : 1 ≤ digits (drop i s)
    first = rw (drop-cons s i 0 h, e) (omega arith)

-- signs

-- a sign takes no byte past the end, where a byte is read as 0
record Short (b c : ℕ) (g : Sign) : Type 0 where
  pub low : 1 ≤ g.len
  pub high : g.len ≤ 1 + min 1 b + min 1 c

module _ (a b c : ℕ) where
  short-two : (k long short : ℕ) → 1 ≤ k → Short b c (one_or_two b k long short)
  short-two k long short h = when (Short b c) (eqb b k) (λ e. let y = eqb-true b k e in omega arith) (λ _. omega arith)

  short-less : Short b c (pick (eqb b 45) (pick (eqb c 62) (sign 12 3) (sign 11 2)) (one_or_two b 61 17 16))
  short-less =
      when (Short b c) (eqb b 45)
      (λ e. let y = eqb-true b 45 e in when (Short b c) (eqb c 62) (λ f. let z = eqb-true c 62 f in omega arith) (λ _. omega arith))
      (λ _. short-two 61 17 16 (omega arith))

  sign-short : Short b c (sign_of a b c)
  unfolding sign_of
  sign-short =
      when (Short b c) (eqb a 45) (λ _. short-two 62 10 25 (omega arith)) (λ _.
      when (Short b c) (eqb a 33) (λ _. short-two 61 19 25 (omega arith)) (λ _.
      when (Short b c) (eqb a 62) (λ _. short-two 61 20 21 (omega arith)) (λ _.
      when (Short b c) (eqb a 60) (λ _. short-less) (λ _. omega arith))))

-- a byte that is not 0 stands before the end
some_byte : (s : List ℕ) (i : ℕ) → i ≤ length s → min 1 (get_or s i 0) + i ≤ length s
some_byte s i h = ⊎_elim (λ lt. omega arith) (λ ge. rw (get_or-eq_default s 0 {n = i} ge) (omega arith)) (lt-or-le i (length s))

pub sign_moves : (s : List ℕ) (i : ℕ) (g : Sign) → i < length s → g ≡ sign_of (get_or s i 0) (get_or s (i + 1) 0) (get_or s (i + 2) 0) → (i < i + g.len) × (i + g.len ≤ length s)
sign_moves s i g h e =
    let k : Short (get_or s (i + 1) 0) (get_or s (i + 2) 0) g = rw e (sign-short (get_or s i 0) (get_or s (i + 1) 0) (get_or s (i + 2) 0)) in (
      omega arith,
      ⊎_elim (λ lt. omega (arith, some_byte s (i + 1) (omega arith), some_byte s (i + 2) (omega arith)))
          (λ ge. let z = get_or-eq_default s 0 {n = i + 2} (omega arith) in omega (arith, some_byte s (i + 1) (omega arith))) (lt-or-le (i + 1) (length s)),
    )

-- tokens

-- a token stays in the text, and moves on unless it is the end of the text
pub record Moves (s : List ℕ) (at : ℕ) (t : Token) : Type 0 where
  pub on : at + min 1 t.kind ≤ t.next
  pub within : t.next ≤ length s

run-token-moves : (s : List ℕ) (i : ℕ) → i < length s → is_digit (get_or s i 0) ≡ true → Moves s i (run_token (get_or s i 0) i (run_at s i 0))
unfolding run_token
run-token-moves s i h e =
    let m = run-moves s i h e in
    when (Moves s i) (eqb (get_or s i 0) 48 && ltb (i + 1) (run_at s i 0).end) (λ _. omega arith) (λ _. omega arith)

here-moves : (s : List ℕ) (i : ℕ) → i ≤ length s → Moves s i (here_at s i)
unfolding here_at
here-moves s i h =
    let a = get_or s i 0 in
    let g = sign_of a (get_or s (i + 1) 0) (get_or s (i + 2) 0) in
    when (Moves s i) (leb (length s) i) (λ _. omega arith) (λ e.
    let lt : i < length s = leb-false _ _ e in
    when (Moves s i) (is_variable a) (λ _. omega arith) (λ _.
    when (Moves s i) (is_set a) (λ _. omega arith) (λ _.
    when (Moves s i) (is_digit a) (λ d. run-token-moves s i lt d) (λ _.
    let w = sign_moves s i g lt refl in omega arith))))

pub token-moves : (s : List ℕ) (at : ℕ) → at ≤ length s → Moves s at (token_at s at)
unfolding token_at after_blanks
token-moves s at h =
    let k = here-moves s (after_blanks s at) (blanks_within s at h) in
    record { on = omega (arith, k.on); within = k.within }

-- known bytes

eqb-turned : (a b : ℕ) → eqb a b ≡ eqb b a
eqb-turned a b = grind (arith, nat_tests)

among_any : (b : ℕ) (xs : List ℕ) → among b xs ≡ list_any (λ y. nat_eq y b) xs
unfolding among
among_any b [] = refl
among_any b (x ∷ xs) = rw (eqb-turned b x) (ap (λ t. eqb x b || t) (among_any b xs))

or-or : (p q r t : Bool) → (p || (q || (r || t))) ≡ (((p || q) || r) || t)
or-or true q r t = refl
or-or false true r t = refl
or-or false false r t = refl

-- the test of the program
pub known_test : (b : ℕ) → known_byte b ≡ (is_ascii_alphanumeric b || list_any (λ y. nat_eq y b) blanks_and_signs)
unfolding known_byte
known_test b = ap (λ t. is_digit b || (is_set b || (is_variable b || t))) (among_any b blanks_and_signs) ∙ or-or (is_digit b) (is_set b) (is_variable b) (list_any (λ y. nat_eq y b) blanks_and_signs)
