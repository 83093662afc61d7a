-- The sets of a declaration, and the reader's steps over a whole text. Assumes nothing.
use mathlib.Core.Path.{◌≡◌, refl, sym, ap, ap₂, ◌∙◌}
use mathlib.Core.List.{List, [], ◌∷◌, ◌++◌, append_assoc, append-nil}
use mathlib.Core.Bool.{Bool, true, false}
use Prim.Native.Nat.{ℕ, zero, suc, ◌+◌, ◌*◌, ◌≤◌, ◌<◌, min}
use native.Mathlib.Omega.{arith}
use native.Mathlib.Numerals.{add-one}
use native.Mathlib.Nat.{le_refl}
use lib.ListN.{length, take, set, length-set, length-take}
use lib.Seq.{length-take-le, take-suc-set, take_all, take_at}
use lib.Dec.{eqb, ltb}
use borrow.Author.Tests.{eqb-true, eqb-false, ne_eqb, ltb-true, ltb-false}
use Rattle.text_tree.specs.Tree.{Tree, Declared, letters_of}
use Rattle.text_tree.proofs.Sets.{letters-length}
use Rattle.text_tokens.specs.declared.Token.{Token}
use Rattle.text_tokens.specs.Tokens.{token_at}
use Rattle.text_tokens.proofs.Laws.{token-moves}
use Rattle.std.specs.Prelude.{Some, None}
use Rattle.text_grammar.specs.declared.Reading.{Reading}
use Rattle.text_grammar.specs.declared.Letters.{Letters}
use Rattle.text_grammar.specs.Grammar.{formula, kind_at, next_at, value_at}
use Rattle.text_grammar.specs.Parser.{found, test, parse_at, set_at, sets_at, after_sets, failed, read, ended, declared, parsed}
use Rattle.text_grammar.specs.inner.Contract.{ReaderRoom, Accepted, Reads, Keeps, LettersRead, Lent, Parsed}
use Rattle.text_grammar.proofs.Readers.{kind-of, next_of, not-kind, moves}

-- at the end of the text stands no token
pub end-kind : (s : List ℕ) (i : ℕ) → i ≤ length s → length s ≤ i → kind_at s i ≡ 0
end-kind s i h e = let M = token-moves s i h in omega (arith, M.on, M.within)

module _ (s : List ℕ) (i : ℕ) where
  pub sets-step : (f : ℕ) → kind_at s i ≡ 23 → sets_at (suc f) s i ≡ set_at s i ∷ sets_at f s (next_at s i)
  unfolding sets_at
  sets-step f e = rw e

  pub after-step : (f : ℕ) → kind_at s i ≡ 23 → after_sets (suc f) s i ≡ after_sets f s (next_at s i)
  unfolding after_sets
  after-step f e = rw e

  pub sets-stop : (f : ℕ) → (kind_at s i ≡ 23 → ⊥) → sets_at f s i ≡ []
  unfolding sets_at
  sets-stop zero z = refl
  sets-stop (suc f) z = rw (ne_eqb _ _ z)

  pub after_stop : (f : ℕ) → (kind_at s i ≡ 23 → ⊥) → after_sets f s i ≡ i
  unfolding after_sets
  after_stop zero z = refl
  after_stop (suc f) z = rw (ne_eqb _ _ z)

-- every bound that suffices gives the same
pub record Same (s : List ℕ) (f g i : ℕ) : Type 0 where
  pub sets : sets_at f s i ≡ sets_at g s i
  pub after : after_sets f s i ≡ after_sets g s i

same_stop : (f g : ℕ) (s : List ℕ) (i : ℕ) → (kind_at s i ≡ 23 → ⊥) → Same s f g i
same_stop f g s i z = record { sets = sets-stop s i f z ∙ sym (sets-stop s i g z); after = after_stop s i f z ∙ sym (after_stop s i g z) }

no-letter : (s : List ℕ) (i : ℕ) → i ≤ length s → length s ≤ i → kind_at s i ≡ 23 → ⊥
no-letter s i h p e = omega (arith, end-kind s i h p)

-- the letter is passed, and stays in the text
record Passes (s : List ℕ) (i : ℕ) : Type 0 where
  on : i < next_at s i
  within : next_at s i ≤ length s

letter-passes : (s : List ℕ) (i : ℕ) → i ≤ length s → kind_at s i ≡ 23 → Passes s i
letter-passes s i h e = let M = token-moves s i h in record { on = omega (arith, M.on); within = M.within }

pub same-sets : (f g : ℕ) (s : List ℕ) (i : ℕ) → i ≤ length s → length s ≤ f + i → length s ≤ g + i → Same s f g i
same-sets zero g s i h p q = same_stop zero g s i (no-letter s i h (omega arith))
same-sets (suc f) zero s i h p q = same_stop (suc f) zero s i (no-letter s i h (omega arith))
same-sets (suc f) (suc g) s i h p q =
    go (eqb (kind_at s i) 23) refl (λ e. let w = letter-passes s i h e in same-sets f g s (next_at s i) w.within (omega (arith, w.on)) (omega (arith, w.on)))
  where
    go : (b : Bool) → eqb (kind_at s i) 23 ≡ b → (kind_at s i ≡ 23 → Same s f g (next_at s i)) → Same s (suc f) (suc g) i
    go true e r =
        let k = eqb-true _ _ e in
        let w = r k in
        record {
          sets = sets-step s i f k ∙ ap (λ (l : List Declared). set_at s i ∷ l) w.sets ∙ sym (sets-step s i g k);
          after = after-step s i f k ∙ w.after ∙ sym (after-step s i g k);
        }
    go false e r = same_stop (suc f) (suc g) s i (eqb-false _ _ e)

-- one letter more in the table: what was kept, and the letter in front of the others
keeps-length : (n v : ℕ) (L M : List ℕ) (r : ℕ) → Keeps n v L M r → length M ≡ length L
keeps-length n v L M r K = go (ltb n (length L)) refl
  where
    go : (b : Bool) → ltb n (length L) ≡ b → length M ≡ length L
    go true e = ap length (K.holds (ltb-true n (length L) e)).0 ∙ length-set {A = ℕ} L n v
    go false e = ap length (K.full (ltb-false n (length L) e)).0

keeps-few : (n v : ℕ) (L M : List ℕ) (r : ℕ) → Keeps n v L M r → n ≤ length L → r ≤ length M
keeps-few n v L M r K h = go (ltb n (length L)) refl
  where
    go : (b : Bool) → ltb n (length L) ≡ b → r ≤ length M
    go true e = let l = ltb-true n (length L) e in omega (arith, (K.holds l).1, keeps-length n v L M r K)
    go false e = omega (arith, (K.full (ltb-false n (length L) e)).1, keeps-length n v L M r K)

keeps-step : (n v : ℕ) (L M : List ℕ) (r : ℕ) → Keeps n v L M r → n ≤ length L → (X : List ℕ)
    → take (length M) (take r M ++ X) ≡ take (length L) (take n L ++ (v ∷ X))
keeps-step n v L M r K h X = ap (λ (m : ℕ). take m (take r M ++ X)) (keeps-length n v L M r K) ∙ go (ltb n (length L)) refl
  where
    whole : length L ≤ n → (Y : List ℕ) → take (length L) (take n L ++ Y) ≡ take n L
    whole f Y = take_at (take n L) Y (length L) (length-take-le n L h ∙ omega arith)

    go : (b : Bool) → ltb n (length L) ≡ b → take (length L) (take r M ++ X) ≡ take (length L) (take n L ++ (v ∷ X))
    go true e =
        let l = ltb-true n (length L) e in
        let k = K.holds l in
        ap (λ (Y : List ℕ). take (length L) (Y ++ X))
        ((λ i. take (k.1 i) (k.0 i)) ∙ ap (λ (m : ℕ). take m (set L n v)) (add-one n) ∙ take-suc-set L n v l)
        ∙ ap (take (length L)) (append_assoc (take n L) (v ∷ []) X)
    go false e =
        let f = ltb-false n (length L) e in
        let k = K.full f in
        ap (λ (Y : List ℕ). take (length L) (Y ++ X)) (λ i. take (k.1 i) (k.0 i)) ∙ whole f X ∙ sym (whole f (v ∷ X))

-- the reader's loop: the letters from `at` to i are read, and the first n of them stand in the table L
pub record Passed (s : List ℕ) (at i : ℕ) (L : List ℕ) (n : ℕ) : Type 0 where
  pub within : i ≤ length s
  pub onward : at ≤ i
  pub few : n ≤ length L
  pub kept : (f g : ℕ) → length s ≤ f + at → length s ≤ g + i → take (length L) (take n L ++ letters_of (sets_at g s i)) ≡ take (length L) (letters_of (sets_at f s at))
  pub ends : (f g : ℕ) → length s ≤ f + at → length s ≤ g + i → after_sets g s i ≡ after_sets f s at

-- one letter in front of the others
letters-step : (s : List ℕ) (i f : ℕ) → kind_at s i ≡ 23 → letters_of (sets_at (suc f) s i) ≡ value_at s i ∷ letters_of (sets_at f s (next_at s i))
unfolding letters_of
letters-step s i f k = ap letters_of (sets-step s i f k)

pub passed_none : (s : List ℕ) (at : ℕ) (L : List ℕ) → at ≤ length s → Passed s at at L 0
passed_none s at L h =
    record {
      within = h;
      onward = le_refl at;
      few = omega arith;
      kept = λ f g p q. ap (λ (l : List Declared). take (length L) (letters_of l)) (same-sets g f s at h q p).sets;
      ends = λ f g p q. (same-sets g f s at h q p).after;
    }

pub passed-one : (s : List ℕ) (at i : ℕ) (L M : List ℕ) (n r : ℕ) (t : Token) → Passed s at i L n → t ≡ token_at s i → t.kind ≡ 23
    → Keeps n t.value L M r → Passed s at t.next M r
passed-one s at i L M n r t P T y K =
    let k = kind-of s i t T 23 y in
    let w = letter-passes s i P.within k in
    let next : next_at s i ≡ t.next = next_of s i t T in
    let value : t.value ≡ value_at s i = ap (λ (x : Token). x.value) T in
    let m : t.next ≤ length s = omega (arith, w.within) in
    let F = length s in
    record {
      within = m;
      onward = omega (arith, P.onward, w.on);
      few = keeps-few n t.value L M r K P.few;
      kept = λ f g p q.
          keeps-step n t.value L M r K P.few (letters_of (sets_at g s t.next))
          ∙ ap (λ (l : List ℕ). take (length L) (take n L ++ l))
          (ap₂ ◌∷◌ value (ap letters_of ((same-sets g F s t.next m q (omega arith)).sets ∙ ap (sets_at F s) (sym next))) ∙ sym (letters-step s i F k))
          ∙ P.kept f (suc F) p (omega arith)
          ∙ ap (λ (x : ℕ). take x (letters_of (sets_at f s at))) (sym (keeps-length n t.value L M r K));
      ends = λ f g p q.
          (same-sets g F s t.next m q (omega arith)).after ∙ ap (after_sets F s) (sym next) ∙ sym (after-step s i F k) ∙ P.ends f (suc F) p (omega arith);
    }

pub passed-all : (s : List ℕ) (at i : ℕ) (L : List ℕ) (n : ℕ) → Passed s at i L n → (kind_at s i ≡ 23 → ⊥) → LettersRead s at L (record { count = n; next = i })
unfolding letters_of
passed-all s at i L n P z =
    record {
      few = P.few;
      kept = λ f p.
          sym (take_all (length L) (take n L) (omega (arith, length-take-le n L P.few, P.few)))
          ∙ ap (take (length L)) (sym (append-nil (take n L)) ∙ ap (λ (l : List ℕ). take n L ++ l) (sym (ap letters_of (sets-stop s i (length s) z))))
          ∙ P.kept f (length s) p (omega arith);
      ends = λ f p. sym (after_stop s i (length s) z) ∙ P.ends f (length s) p (omega arith);
      within = P.within;
      onward = P.onward;
    }

-- the whole text

empty : (xs : List Declared) → length xs ≡ 0 → xs ≡ []
empty [] e = refl
empty (x ∷ xs) e = absurd (omega arith)

pub declared-some : (s : List ℕ) (xs : List Declared) (i : ℕ) → (length xs ≡ 0 → ⊥) → declared s xs i ≡ test (eqb (kind_at s i) 2) (λ j. ended s xs (parse_at (4 * length s + 4) formula s j)) (λ j. failed) (next_at s i)
declared-some s [] i z = absurd (z refl)
declared-some s (x ∷ xs) i z = refl

ended-more : (s : List ℕ) (xs : List Declared) (a : Tree) (i : ℕ) → eqb (kind_at s i) 0 ≡ false → ended s xs (found a i) ≡ failed
ended-more s xs a i e = rw e

ended_here : (s : List ℕ) (xs : List Declared) (a : Tree) (i : ℕ) → kind_at s i ≡ 0 → ended s xs (found a i) ≡ read xs a
ended_here s xs a i e = rw e

module _ (s out before letters : List ℕ) (lent : Lent s out before) (same : length letters ≡ length before) (opening : Token) (O : opening ≡ token_at s 0) where
  pub opening-within : opening.next ≤ length s
  opening-within = (moves s 0 opening O (omega arith)).within

  pub whole-unopened : (opening.kind ≡ 1 → ⊥) → Parsed s out letters None
  unfolding parsed
  whole-unopened z = rw (not-kind s 0 opening O 1 z)

  module _ (y : opening.kind ≡ 1) (sets : Letters) (S : LettersRead s opening.next letters sets) where
    opened : parsed s ≡ declared s (sets_at (length s) s opening.next) sets.next
    unfolding parsed
    opened = rw (kind-of s 0 opening O 1 y, next_of s 0 opening O, ← S.ends (length s) (omega arith))

    -- one letter at least is kept
    count-is : sets.count ≡ min (length letters) (length (sets_at (length s) s opening.next))
    count-is =
        sym (length-take-le sets.count letters S.few) ∙ ap length (S.kept (length s) (omega arith))
        ∙ length-take (length letters) (letters_of (sets_at (length s) s opening.next))
        ∙ ap (min (length letters)) (letters-length (sets_at (length s) s opening.next))

    pub whole-unnamed : sets.count ≡ 0 → Parsed s out letters None
    whole-unnamed e = opened ∙ ap (λ (xs : List Declared). declared s xs sets.next) (empty (sets_at (length s) s opening.next) (omega (arith, count-is, lent.some)))

    module _ (z : sets.count ≡ 0 → ⊥) (closing : Token) (C : closing ≡ token_at s sets.next) where
      close-step : declared s (sets_at (length s) s opening.next) sets.next ≡ test (eqb (kind_at s sets.next) 2) (λ j. ended s (sets_at (length s) s opening.next) (parse_at (4 * length s + 4) formula s j)) (λ j. failed) (next_at s sets.next)
      close-step = declared-some s (sets_at (length s) s opening.next) sets.next (λ e. z (omega (arith, count-is)))

      pub whole-unclosed : (closing.kind ≡ 2 → ⊥) → Parsed s out letters None
      whole-unclosed w = opened ∙ close-step ∙ rw (not-kind s sets.next closing C 2 w)

      module _ (c : closing.kind ≡ 2) where
        closed-step : parsed s ≡ ended s (sets_at (length s) s opening.next) (parse_at (4 * length s + 4) formula s closing.next)
        closed-step = opened ∙ close-step ∙ rw (kind-of s sets.next closing C 2 c, next_of s sets.next closing C)

        close-within : closing.next ≤ length s
        close-within = (moves s sets.next closing C S.within).within

        pub body-room : ReaderRoom s out closing.next 0 0
        body-room = record { within = close-within; room = omega (arith, lent.short); wide = lent.wide; shallow = omega arith }

        pub whole-none : Reads formula s out out closing.next 0 0 None → Parsed s out letters None
        whole-none B = closed-step ∙ ap (ended s (sets_at (length s) s opening.next)) (B (4 * length s + 4) (omega arith))

        module _ (o : List ℕ) (body : Reading) (B : Reads formula s out o closing.next 0 0 (Some body)) (last : Token) (L : last ≡ token_at s body.next) where
          R : Accepted (parse_at (4 * length s + 4) formula s closing.next) s out o closing.next 0 0 body
          R = B (4 * length s + 4) (omega arith)

          pub whole-longer : (last.kind ≡ 0 → ⊥) → Parsed s out letters None
          whole-longer w =
              closed-step ∙ ap (ended s (sets_at (length s) s opening.next)) R.is ∙ ended-more s _ R.tree body.next (not-kind s body.next last L 0 w)

          pub whole-read : last.kind ≡ 0 → Parsed s o letters (Some (record { deep = body.deep; sets = sets.count; end = body.count }))
          whole-read w =
              record {
                sets = sets_at (length s) s opening.next;
                tree = R.tree;
                is = closed-step ∙ ap (ended s (sets_at (length s) s opening.next)) R.is ∙ ended_here s _ R.tree body.next (kind-of s body.next last L 0 w);
                stored = R.stored;
                deeper = R.deeper;
                few = S.few;
                kept = S.kept (length s) (omega arith);
                fits = omega (arith, R.short, R.within, lent.short);
              }
