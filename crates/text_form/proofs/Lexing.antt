-- The symbols that known bytes spell, wherever in a text they stand. Assumes nothing.
use mathlib.Core.Path.{◌≡◌, refl, sym, ap, ◌∙◌, subst}
use mathlib.Core.List.{List, [], ◌∷◌, ◌++◌}
use mathlib.Core.Bool.{Bool, true, false, ◌||◌}
use Prim.Native.Nat.{ℕ, suc, ◌+◌, ◌-◌, ◌*◌, ◌/◌, ◌%◌, ◌≤◌, ◌<◌, min}
use native.Mathlib.Omega.{arith}
use native.Mathlib.Numerals.{add-one}
use native.Mathlib.Decide.{dec_lt}
use lib.ListN.{length, get_or, drop, length-drop}
use lib.Seq.{drop-cons, drop-drop, get_or-drop}
use lib.Dec.{eqb, ltb}
use borrow.Author.Tests.{eqb-true, lt-ltb, le-ltb, le-leb, lt-leb, ne_eqb}
use Rattle.logic.specs.Formula.{Relation, lt, le, eq, ne, ge, gt, relation_number}
use Rattle.logic.proofs.Lists.{or_left, or_right, or-false, or-true-left, or_true_right, and-true, and-false}
use Rattle.text_tokens.specs.declared.Token.{Token}
use Rattle.text_tokens.specs.declared.Sign.{Sign}
use Rattle.text_tokens.specs.Tokens.{less, at_most, equal, unequal, at_least, greater, variable, set_letter, number, pick, is_variable, is_set, is_digit, blank, sign, single_kind, sign_of, digits, number_of, digits_of, run_at, run_token, here_at, token_at, blanks_and_signs, among, known_byte, known_bytes}
use Rattle.text_tokens.proofs.Laws.{between-range, blanks-stop, blanks-more}
use Rattle.text_grammar.specs.Grammar.{Symbol, relation_kind}
use Rattle.text_grammar.proofs.Positions.{Tokens, append}
use Rattle.text_form.specs.Spelling.{relation_bytes}

-- a symbol of a kind and a value
abbrev pub symbol : ℕ → ℕ → Symbol
symbol k v = record { kind = k; value = v }

-- the symbols xs stand in the text s from position i on, and the bytes `rest` are left behind them
pub record Lexed (s : List ℕ) (i : ℕ) (xs : List Symbol) (rest : List ℕ) : Type 0 where
  pub to : ℕ
  pub are : Tokens s i xs to
  pub left : drop to s ≡ rest

-- the bytes l begin with known bytes that spell the symbols xs, and `rest` is left behind them
pub record Lexes (l : List ℕ) (xs : List Symbol) (rest : List ℕ) : Type 0 where
  pub at : (s : List ℕ) (i : ℕ) → drop i s ≡ l → Lexed s i xs rest
  pub known : known_bytes rest ≡ true → known_bytes l ≡ true

-- bytes that spell symbols, and behind them bytes that spell more
pub then : {l m rest : List ℕ} {xs ys : List Symbol} → Lexes l xs m → Lexes m ys rest → Lexes l (xs ++ ys) rest
then {xs} {ys} p q = record {
  at = λ s i e.
      let x = p.at s i e in
      let y = q.at s x.to x.left in
      record { to = y.to; are = append s i x.to xs ys y.to x.are y.are; left = y.left };
  known = λ h. p.known (q.known h);
}

-- what it says of a position that the bytes from there on begin with b
record Begins (s : List ℕ) (i b : ℕ) (l : List ℕ) : Type 0 where
  within : i < length s
  byte : get_or s i 0 ≡ b
  later : drop (i + 1) s ≡ l

begins : (s : List ℕ) (i b : ℕ) (l : List ℕ) → drop i s ≡ b ∷ l → Begins s i b l
begins s i b l e =
    let w : i < length s = omega (arith, length-drop i s, ap length e) in
    let p : get_or s i 0 ∷ drop (suc i) s ≡ b ∷ l = sym (drop-cons s i 0 w) ∙ e in
    let q : drop (suc i) s ≡ l = cc in
    record { within = w; byte = cc; later = ap (λ (n : ℕ). drop n s) (add-one i) ∙ q }

-- one known byte in front
known-cons : (b : ℕ) (l : List ℕ) → known_byte b ≡ true → known_bytes l ≡ true → known_bytes (b ∷ l) ≡ true
unfolding known_bytes
known-cons b l h k = and-true (known_byte b) (known_bytes l) h k

-- a space in front of a symbol is passed over
pub past-space : {l rest : List ℕ} {x : Symbol} {xs : List Symbol} → Lexes l (x ∷ xs) rest → Lexes (32 ∷ l) (x ∷ xs) rest
unfolding Tokens token_at known_bytes known_byte among blanks_and_signs
past-space {l} {rest} {x} {xs} p = record {
  at = λ s i e.
      let B = begins s i 32 l e in
      let w = p.at s (i + 1) B.later in
      record {
        to = w.to;
        are = subst (λ (t : Token). (symbol t.kind t.value ≡ x) × (1 ≤ t.kind) × Tokens s t.next xs w.to)
            (ap (here_at s) (blanks-more s i B.within (ap blank B.byte))) w.are;
        left = w.left;
      };
  known = p.known;
}

-- a token of n bytes, told by what stands from its position on
one_token : (b : ℕ) (l : List ℕ) (t : Symbol) (n : ℕ) → blank b ≡ false → 1 ≤ t.kind → (known_bytes (drop n (b ∷ l)) ≡ true → known_bytes (b ∷ l) ≡ true)
    → ((s : List ℕ) (i : ℕ) → drop i s ≡ b ∷ l → here_at s i ≡ record { kind = t.kind; value = t.value; next = i + n }) → Lexes (b ∷ l) (t ∷ []) (drop n (b ∷ l))
unfolding Tokens token_at
one_token b l t n k h known H = record {
  at = λ s i e.
      let B = begins s i b l e in
      let T : token_at s i ≡ record { kind = t.kind; value = t.value; next = i + n } = ap (here_at s) (blanks-stop s i B.within (ap blank B.byte ∙ k)) ∙ H s i e in
      record {
        to = i + n;
        are = (ap (λ (x : Token). symbol x.kind x.value) T, omega (arith, ap (λ (x : Token). x.kind) T, h), ap (λ (x : Token). x.next) T);
        left = sym (drop-drop n i s) ∙ ap (drop n) e;
      };
  known = known;
}

-- letters

no-blank : (b : ℕ) → 33 ≤ b → blank b ≡ false
no-blank b h = or-false _ _ (ne_eqb b 32 (λ e. omega arith)) (ne_eqb b 10 (λ e. omega arith))

known-variable : (v : ℕ) → is_variable v ≡ true → known_byte v ≡ true
unfolding known_byte
known-variable v h = or_true_right (is_digit v) _ (or_true_right (is_set v) _ (or-true-left (is_variable v) (among v blanks_and_signs) h))

pub variable-token : (v : ℕ) (l : List ℕ) → is_variable v ≡ true → Lexes (v ∷ l) (symbol variable v ∷ []) l
unfolding here_at
variable-token v l k =
    let r = between-range 97 v 122 k in
    one_token v l (symbol variable v) 1 (no-blank v (omega arith)) (omega arith) (known-cons v l (known-variable v k)) (λ s i e. let B = begins s i v l e in rw (lt-leb (length s) i B.within, B.byte, k))

known-set : (S : ℕ) → is_set S ≡ true → known_byte S ≡ true
unfolding known_byte
known-set S h = or_true_right (is_digit S) _ (or-true-left (is_set S) (is_variable S || among S blanks_and_signs) h)

pub set-token : (S : ℕ) (l : List ℕ) → is_set S ≡ true → Lexes (S ∷ l) (symbol set_letter S ∷ []) l
unfolding here_at
set-token S l k =
    let r = between-range 65 S 90 k in
    one_token S l (symbol set_letter S) 1 (no-blank S (omega arith)) (omega arith) (known-cons S l (known-set S k)) (λ s i e.
    let B = begins s i S l e in rw (lt-leb (length s) i B.within, B.byte, lt-leb 97 S (omega arith), k))

-- signs

-- a byte that begins no sign: a blank, a letter or a digit
abbrev no_sign : ℕ → Bool
no_sign b = blank b || (is_variable b || (is_set b || is_digit b))

-- a sign, told by its first byte and the two behind it
pub sign-token : (b : ℕ) (l : List ℕ) (g : Sign) → no_sign b ≡ false → sign_of b (get_or l 0 0) (get_or l 1 0) ≡ g → 1 ≤ g.kind
    → (known_bytes (drop g.len (b ∷ l)) ≡ true → known_bytes (b ∷ l) ≡ true) → Lexes (b ∷ l) (symbol g.kind 0 ∷ []) (drop g.len (b ∷ l))
unfolding here_at
sign-token b l g k f h known =
    let u = or_right (blank b) _ k in
    let w = or_right (is_variable b) _ u in
    one_token b l (symbol g.kind 0) g.len (or_left _ _ k) h known (λ s i e.
    let B = begins s i b l e in
    let second : get_or s (i + 1) 0 ≡ get_or l 0 0 = sym (get_or-drop i s 1 0) ∙ ap (λ (x : List ℕ). get_or x 1 0) e in
    let third : get_or s (i + 2) 0 ≡ get_or l 1 0 = sym (get_or-drop i s 2 0) ∙ ap (λ (x : List ℕ). get_or x 2 0) e in
    rw (lt-leb (length s) i B.within, B.byte, or_left (is_variable b) _ u, or_left (is_set b) _ w, or_right (is_set b) _ w, second, third, f))

-- a relation before a space
pub relation-token : (r : Relation) (l : List ℕ) → Lexes (relation_bytes r ++ (32 ∷ l)) (symbol (relation_kind r) 0 ∷ []) (32 ∷ l)
unfolding relation_bytes relation_kind relation_number sign_of single_kind known_bytes known_byte among blanks_and_signs
relation-token lt l = sign-token 60 (32 ∷ l) (sign less 1) refl refl (omega arith) (λ k. k)
relation-token le l = sign-token 60 (61 ∷ 32 ∷ l) (sign at_most 2) refl refl (omega arith) (λ k. k)
relation-token eq l = sign-token 61 (32 ∷ l) (sign equal 1) refl refl (omega arith) (λ k. k)
relation-token ne l = sign-token 33 (61 ∷ 32 ∷ l) (sign unequal 2) refl refl (omega arith) (λ k. k)
relation-token ge l = sign-token 62 (61 ∷ 32 ∷ l) (sign at_least 2) refl refl (omega arith) (λ k. k)
relation-token gt l = sign-token 62 (32 ∷ l) (sign greater 1) refl refl (omega arith) (λ k. k)

-- numbers

-- where no digit stands in front, a number ends
number-ends : (v : ℕ) (l : List ℕ) → digits l ≡ 0 → number_of v l ≡ v
unfolding digits number_of
number-ends v [] e = refl
number-ends v (b ∷ l) e = go (is_digit b) e
  where
    go : (t : Bool) → pick t (suc (digits l)) 0 ≡ 0 → pick t (number_of (10 * v + (b - 48)) l) v ≡ v
    go true h = absurd (omega arith)
    go false h = refl

digit-is : (n : ℕ) → n ≤ 9 → is_digit (48 + n) ≡ true
digit-is n h = and-true _ _ (le-leb 48 (48 + n) (omega arith)) (le-leb (48 + n) 57 (omega arith))

known-digit : (b : ℕ) → is_digit b ≡ true → known_byte b ≡ true
unfolding known_byte
known-digit b h = or-true-left (is_digit b) (is_set b || (is_variable b || among b blanks_and_signs)) h

-- a digit run of n digits that is 0 or does not begin with 0
run-token : (b : ℕ) (l : List ℕ) (n v : ℕ) → is_digit b ≡ true → digits (b ∷ l) ≡ n → number_of 0 (b ∷ l) ≡ v → v ≤ 65 → (b ≡ 48 → n ≤ 1)
    → (known_bytes (drop n (b ∷ l)) ≡ true → known_bytes (b ∷ l) ≡ true) → Lexes (b ∷ l) (symbol number v ∷ []) (drop n (b ∷ l))
unfolding here_at run_at run_token
run-token b l n v d c e h z known =
    let r = between-range 48 b 57 d in
    one_token b l (symbol number v) n (no-blank b (omega arith)) (omega arith) known (λ s i q.
    let B = begins s i b l q in
    let m : min 65 v ≡ v = omega arith in
    rw (
      lt-leb (length s) i B.within,
      B.byte,
      lt-leb 97 b (omega arith),
      lt-leb 65 b (omega arith),
      d,
      q,
      c,
      e,
      m,
      and-false (eqb b 48) (ltb (i + 1) (i + n)) (λ y. let x = z (eqb-true b 48 y) in le-ltb (i + 1) (i + n) (omega arith)),
    ))

-- a constant before a byte that is no digit
pub constant_token : (c : ℕ) (l : List ℕ) → c ≤ 64 → digits l ≡ 0 → Lexes (digits_of 2 c ++ l) (symbol number c ∷ []) l
unfolding digits_of digits number_of
constant_token c l h e = go (dec_lt c 10)
  where
    ones : is_digit (48 + c % 10) ≡ true
    ones = digit-is (c % 10) (omega arith)

    tens : is_digit (48 + c / 10 % 10) ≡ true
    tens = digit-is (c / 10 % 10) (omega arith)

    go : Dec (c < 10) → Lexes ((pick (ltb c 10) [] (digits_of 1 (c / 10)) ++ ((48 + c % 10) ∷ [])) ++ l) (symbol number c ∷ []) l
    go (yes s) =
        let v : 10 * 0 + (48 + c % 10 - 48) ≡ c = omega arith in
        rw (lt-ltb c 10 s) (run-token (48 + c % 10) l 1 c ones (rw (ones, e)) (rw (ones, v) (number-ends c l e)) (omega arith) (λ _. omega arith) (known-cons (48 + c % 10) l (known-digit (48 + c % 10) ones)))
    go (no f) =
        let v : 10 * (10 * 0 + (48 + c / 10 % 10 - 48)) + (48 + c % 10 - 48) ≡ c = omega arith in
        rw (le-ltb c 10 (omega arith), lt-ltb (c / 10) 10 (omega arith))
        (run-token (48 + c / 10 % 10) ((48 + c % 10) ∷ l) 2 c tens (rw (tens, ones, e)) (rw (tens, ones, v) (number-ends c l e)) (omega arith) (λ x. absurd (omega arith))
        (λ k. known-cons (48 + c / 10 % 10) ((48 + c % 10) ∷ l) (known-digit (48 + c / 10 % 10) tens) (known-cons (48 + c % 10) l (known-digit (48 + c % 10) ones) k)))
