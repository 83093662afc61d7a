-- An input that is put piece by piece at the front of a table. Assumes nothing.
use mathlib.Core.Path.{◌≡◌, refl, sym, ap, ◌∙◌}
use mathlib.Core.List.{List, [], ◌∷◌, ◌++◌, append-nil}
use Prim.Native.Nat.{ℕ, suc, ◌+◌, ◌≤◌, min}
use native.Mathlib.Decide.{dec_le}
use native.Mathlib.Omega.{arith}
use lib.ListN.{length, take, drop, take-append-drop, drop_of_length-le}
use lib.Seq.{sets, length-sets, sets-eq, set_out, length-take-le, take_at, take_all, take-length}
use Rattle.text_put.specs.inner.Puts.{Puts}
use Rattle.text_put.proofs.Putting.{sets-append, puts-length, puts-front}
use Rattle.program_bytes.specs.Outcome.{Kept}

-- nothing is put past the end
sets-past : (vs l : List ℕ) (i : ℕ) → length l ≤ i → sets l i vs ≡ l
sets-past [] l i h = refl
sets-past (v ∷ vs) l i h = ap (λ (k : List ℕ). sets k (suc i) vs) (set_out l i v h) ∙ sets-past vs l (suc i) (omega arith)

-- a table that is filled holds the first bytes
sets-full : (input l : List ℕ) → length l ≤ length input → sets l 0 input ≡ take (length l) input
sets-full input l h =
    let xs = take (length l) input in
    let ys = drop (length l) input in
    let n : length xs ≡ length l = length-take-le (length l) input h in
    let none : drop (0 + length xs) l ≡ [] = drop_of_length-le l {i = 0 + length xs} (omega arith) in
    ap (λ (x : List ℕ). sets l 0 x) (sym (take-append-drop (length l) input)) ∙ sets-append xs ys l 0
    ∙ sets-past ys (sets l 0 xs) (0 + length xs) (omega (arith, length-sets l 0 xs))
    ∙ sets-eq xs l 0 (omega arith) ∙ ap (λ (k : List ℕ). xs ++ k) none ∙ append-nil xs

-- What is kept of an input whose bytes are put at the front of a table, in however many pieces (`Putting.puts-more`).
module _ (input table : List ℕ) (end : ℕ) (table' : List ℕ) (P : Puts 0 input table end table') where
  pub puts-kept : Kept input (min (length table') end) table'
  puts-kept = go (dec_le (length input) (length table))
    where
      same : length table' ≡ length table
      same = puts-length 0 table input end table' P

      go : Dec (length input ≤ length table) → Kept input (min (length table') end) table'
      go (yes h) =
          let n : min (length table') end ≡ length input = omega (arith, P.end_is, same) in
          let put : table' ≡ input ++ drop end table = puts-front input table end table' h P in
          record {
            count-is = omega (arith, P.end_is);
            bytes-are = ap (λ (k : ℕ). take k table') n ∙ ap (λ (l : List ℕ). take (length input) l) put ∙ take_at input (drop end table) (length input) refl
                ∙ sym (take_all (length table') input (omega (arith, same)));
          }
      go (no f) =
          let n : min (length table') end ≡ length table' = omega (arith, P.end_is, same) in
          record {
            count-is = omega (arith, P.end_is);
            bytes-are = ap (λ (k : ℕ). take k table') n ∙ take-length table' ∙ P.out-is ∙ sets-full input table (omega arith)
                ∙ ap (λ (k : ℕ). take k input) (sym same);
          }
