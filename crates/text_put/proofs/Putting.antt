-- Bytes put one behind another. Assumes nothing.
use mathlib.Core.Path.{◌≡◌, refl, sym, ap, ◌∙◌}
use mathlib.Core.List.{List, [], ◌∷◌, ◌++◌}
use Prim.Native.Nat.{ℕ, zero, suc, ◌+◌, ◌≤◌, ◌<◌}
use native.Mathlib.Omega.{arith}
use native.Mathlib.Numerals.{add-one}
use lib.ListN.{length, get_or, take, drop, set, length-append, length-set, take-append-drop}
use lib.Seq.{sets, length-sets, sets-eq, take-suc}
use Rattle.text_put.specs.inner.Puts.{Puts}

pub sets-append : (xs ys l : List ℕ) (i : ℕ) → sets l i (xs ++ ys) ≡ sets (sets l i xs) (i + length xs) ys
sets-append [] ys l i = let e : i ≡ i + 0 = omega arith in ap (λ (k : ℕ). sets l k ys) e
sets-append (x ∷ xs) ys l i =
    let e : suc i + length xs ≡ i + suc (length xs) = omega arith in
    sets-append xs ys (set l i x) (suc i) ∙ ap (λ (k : ℕ). sets (sets (set l i x) (suc i) xs) k ys) e

-- what lies past the end of a table is not put
set_past : (l : List ℕ) (i v : ℕ) → length l ≤ i → set l i v ≡ l
set_past [] i v h = refl
set_past (x ∷ xs) zero v h = absurd (omega arith)
set_past (x ∷ xs) (suc i) v h = ap (λ (r : List ℕ). x ∷ r) (set_past xs i v (omega arith))

sets-past : (xs l : List ℕ) (i : ℕ) → length l ≤ i → sets l i xs ≡ l
sets-past [] l i h = refl
sets-past (x ∷ xs) l i h = sets-past xs (set l i x) (suc i) (omega (arith, length-set l i x, h)) ∙ set_past l i x h

module _ (at : ℕ) (out : List ℕ) where
  pub puts-past : (b : ℕ) → length out ≤ at → Puts at (b ∷ []) out (at + 1) out
  puts-past b h = record { end_is = refl; out-is = sym (set_past out at b h) }

  pub puts_none : Puts at [] out at out
  puts_none = record { end_is = omega arith; out-is = refl }

  pub puts-length : (bytes : List ℕ) (end : ℕ) (out' : List ℕ) → Puts at bytes out end out' → length out' ≡ length out
  puts-length bytes end out' P = ap length P.out-is ∙ length-sets out at bytes

  -- some bytes, then some more
  pub puts-more : (xs ys : List ℕ) (m end : ℕ) (out' out'' : List ℕ) → Puts at xs out m out' → Puts m ys out' end out'' → Puts at (xs ++ ys) out end out''
  puts-more xs ys m end out' out'' P Q = record {
    end_is = omega (arith, P.end_is, Q.end_is, length-append xs ys);
    out-is = Q.out-is ∙ ap (λ (l : List ℕ). sets l m ys) P.out-is ∙ ap (λ (k : ℕ). sets (sets out at xs) k ys) P.end_is ∙ sym (sets-append xs ys out at);
  }

  -- one byte of several more
  pub puts-next : (word : List ℕ) (i next end : ℕ) (out' out'' : List ℕ) → i < length word → Puts at (take i word) out next out'
      → Puts next (get_or word i 0 ∷ []) out' end out'' → Puts at (take (i + 1) word) out end out''
  puts-next word i next end out' out'' h P Q =
      let b = get_or word i 0 in
      let e : take (i + 1) word ≡ take i word ++ (b ∷ []) = ap (λ (k : ℕ). take k word) (add-one i) ∙ take-suc word i 0 h in
      rw e (puts-more (take i word) (b ∷ []) next end out' out'' P Q)

  -- all bytes, where the loop ends at their end, and where it ends at that of the places
  pub puts-whole : (word : List ℕ) (i next : ℕ) (out' : List ℕ) → take i word ≡ word → Puts at (take i word) out next out' → Puts at word out (at + length word) out'
  puts-whole word i next out' e P = record { end_is = refl; out-is = P.out-is ∙ ap (λ (w : List ℕ). sets out at w) e }

  pub puts-rest : (word : List ℕ) (i next : ℕ) (out' : List ℕ) → length out' ≤ next → Puts at (take i word) out next out' → Puts at word out (at + length word) out'
  puts-rest word i next out' h P =
      let Q : Puts next (drop i word) out' (next + length (drop i word)) out' = record { end_is = refl; out-is = sym (sets-past (drop i word) out' next h) } in
      let R = puts-more (take i word) (drop i word) next (next + length (drop i word)) out' out' P Q in
      record { end_is = refl; out-is = R.out-is ∙ ap (λ (w : List ℕ). sets out at w) (take-append-drop i word) }

-- the front of a table
pub puts-front : (bytes out : List ℕ) (end : ℕ) (out' : List ℕ) → length bytes ≤ length out → Puts 0 bytes out end out' → out' ≡ bytes ++ drop end out
puts-front bytes out end out' h P = P.out-is ∙ sets-eq bytes out 0 (omega arith) ∙ ap (λ (k : ℕ). bytes ++ drop k out) (sym P.end_is)
