-- Parts of a table written one after the other. Assumes nothing.
use mathlib.Core.Path.{◌≡◌, refl, sym, ap, ap₂, ◌∙◌}
use mathlib.Core.List.{◌∷◌, append_assoc, List, [], ◌++◌}
use Prim.Native.Nat.{◌+◌, ℕ, ◌≤◌}
use native.Mathlib.Omega.{arith}
use lib.ListN.{set, length-append, length-drop, length, take, drop, take-append-drop}
use lib.Seq.{set_at, length-take-le}
use Rattle.table_format.specs.Bytes.{word_bytes}
use Rattle.table_format.specs.inner.Written.{Written}

-- what is written from the start, and what stands behind it
pub written_start : (xs b a : List ℕ) → Written 0 xs b a → length xs ≤ length b → a ≡ xs ++ drop (length xs) b
unfolding Written
written_start xs b a W h =
    W [] (take (length xs) b) (drop (length xs) b) (sym (take-append-drop (length xs) b)) refl (length-take-le (length xs) b h)

-- the table around two neighbouring parts, of which the first is as long as xs
abbrev Around : List ℕ → List ℕ → List ℕ → List ℕ → List ℕ → Type 0
Around xs ys b A T = (X : List ℕ) × (Y : List ℕ) × (b ≡ A ++ (X ++ (Y ++ T))) × (length X ≡ length xs) × (length Y ≡ length ys)

around : (xs ys b A Z T : List ℕ) → b ≡ A ++ (Z ++ T) → length Z ≡ length (xs ++ ys) → Around xs ys b A T
around xs ys b A Z T e l =
    let n = length xs in
    let long : length Z ≡ n + length ys = l ∙ length-append xs ys in (
      take n Z,
      drop n Z,
      e ∙ ap (λ (z : List ℕ). A ++ (z ++ T)) (sym (take-append-drop n Z)) ∙ ap (λ (z : List ℕ). A ++ z) (append_assoc (take n Z) (drop n Z) T),
      length-take-le n Z (omega arith),
      length-drop n Z ∙ omega arith,
    )

behind : (at : ℕ) (A xs : List ℕ) → length A ≡ at → (n : ℕ) → length xs ≡ n → length (A ++ xs) ≡ at + n
behind at A xs l n m = length-append A xs ∙ ap₂ ◌+◌ l m

-- first the part in front, then the one behind it
pub written_then : (at : ℕ) (xs ys b m a : List ℕ) → Written at xs b m → Written (at + length xs) ys m a → Written at (xs ++ ys) b a
unfolding Written
written_then at xs ys b m a F G A Z T e lA lZ =
    let r = around xs ys b A Z T e lZ in
    let Y = r.1 in
    let mid : m ≡ (A ++ xs) ++ (Y ++ T) = F A r.0 (Y ++ T) r.2 lA r.3 ∙ sym (append_assoc A xs (Y ++ T)) in
    G (A ++ xs) Y T mid (behind at A xs lA (length xs) refl) r.4
    ∙ append_assoc A xs (ys ++ T) ∙ ap (λ (z : List ℕ). A ++ z) (sym (append_assoc xs ys T))

pub written_byte : (at v : ℕ) (b : List ℕ) → Written at (v ∷ []) b (set b at v)
unfolding Written
written_byte at v b A [] T e lA l = absurd (omega arith)
written_byte at v b A (x ∷ []) T e lA l = ap (λ (z : List ℕ). set z at v) e ∙ set_at A x T v at lA
written_byte at v b A (x ∷ y ∷ X) T e lA l = absurd (omega arith)

-- first the part behind, then the one in front
pub written-front : (at : ℕ) (xs ys b m a : List ℕ) → Written (at + length xs) ys b m → Written at xs m a → Written at (xs ++ ys) b a
unfolding Written
written-front at xs ys b m a G F A Z T e lA lZ =
    let r = around xs ys b A Z T e lZ in
    let X = r.0 in
    let Y = r.1 in
    let mid : m ≡ (A ++ X) ++ (ys ++ T) = G (A ++ X) Y T (r.2 ∙ sym (append_assoc A X (Y ++ T))) (behind at A X lA (length xs) r.3) r.4 in
    F A X (ys ++ T) (mid ∙ append_assoc A X (ys ++ T)) lA r.3 ∙ ap (λ (z : List ℕ). A ++ z) (sym (append_assoc xs ys T))

pub written_none : (at : ℕ) (b : List ℕ) → Written at [] b b
unfolding Written
written_none at b A [] T e lA l = e
written_none at b A (x ∷ X) T e lA l = absurd (omega arith)

pub word-written : (at x : ℕ) (b : List ℕ) (low high : ℕ) → (low ∷ high ∷ []) ≡ word_bytes x → Written at (word_bytes x) b (set (set b at low) (at + 1) high)
word-written at x b low high e =
    rw (← e) (written_then at (low ∷ []) (high ∷ []) b (set b at low) _ (written_byte at low b) (written_byte (at + 1) high (set b at low)))
