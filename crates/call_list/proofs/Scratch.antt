-- Laws of the scratch table through a list of calls. Assumes nothing.
use mathlib.Core.Path.{◌≡◌, refl, sym, ap, ◌∙◌}
use mathlib.Core.List.{List, [], ◌∷◌, ◌++◌}
use Prim.Native.Nat.{ℕ, zero, suc, ◌+◌}
use native.Mathlib.Omega.{arith}
use lib.ListN.{length, take, drop, length-append, take-append-drop}
use Rattle.table_format.specs.Decode.{Decoded}
use Rattle.contracts.specs.TrialCall.{scratch_own}
use Rattle.contracts.specs.Lists.{Exchange}
use Rattle.call_one.specs.Scratch.{lent_to, ScratchOne, ScratchRun, kept, passed}

-- a call more at the end
pub scratch-snoc : (d : Decoded) (s s' s'' : List ℕ) (xs : List Exchange) (x : Exchange)
    → ScratchRun d s xs s' → ScratchOne d x s' s'' → ScratchRun d s (xs ++ x ∷ []) s''
scratch-snoc d s s' s'' xs x kept o = passed o kept
scratch-snoc d s s' s'' xs x (passed {s' = t} {xs = rest} y r) o = passed y (scratch-snoc d t s' s'' rest x r o)

-- what is equal from a place on is so with the same behind it
same_drop : (j : ℕ) (a b c : List ℕ) → length a ≡ length b → drop j a ≡ drop j b → drop j (a ++ c) ≡ drop j (b ++ c)
same_drop zero a b c l e = ap (λ (x : List ℕ). x ++ c) e
same_drop (suc j) [] [] c l e = refl
same_drop (suc j) [] (y ∷ b) c l e = absurd (omega (arith, l))
same_drop (suc j) (x ∷ a) [] c l e = absurd (omega (arith, l))
same_drop (suc j) (x ∷ a) (y ∷ b) c l e = same_drop j a b c (omega (arith, l)) e

module _ (d : Decoded) (x : Exchange) (s s' : List ℕ) (o : ScratchOne d x s s') where
  abbrev k : ℕ
  k = length (lent_to x)

  before-is : s ≡ lent_to x ++ drop k s
  before-is = sym (take-append-drop k s) ∙ ap (λ (x : List ℕ). x ++ drop k s) o.front

  after_is : s' ≡ take k s' ++ drop k s
  after_is = sym (take-append-drop k s') ∙ ap (λ (x : List ℕ). take k s' ++ x) o.behind

  one-length : length s' ≡ length s
  one-length =
      ap length after_is ∙ length-append (take k s') (drop k s) ∙ ap (λ (n : ℕ). n + length (drop k s)) o.written.same_length
      ∙ sym (ap length before-is ∙ length-append (lent_to x) (drop k s))

  one-past : drop (scratch_own d) s' ≡ drop (scratch_own d) s
  one-past =
      ap (drop (scratch_own d)) after_is
      ∙ same_drop (scratch_own d) (take k s') (lent_to x) (drop k s) o.written.same_length o.written.past
      ∙ sym (ap (drop (scratch_own d)) before-is)

-- a list leaves scratch as long as it was, and as it was past the plan's own cells
pub scratch-length : (d : Decoded) (s s' : List ℕ) (xs : List Exchange) → ScratchRun d s xs s'
    → length s' ≡ length s
scratch-length d s s' xs kept = refl
scratch-length d s s' xs (passed {s' = t} {x = x} {xs = rest} o r) =
    scratch-length d t s' rest r ∙ one-length d x s t o

pub scratch-past : (d : Decoded) (s s' : List ℕ) (xs : List Exchange) → ScratchRun d s xs s'
    → drop (scratch_own d) s' ≡ drop (scratch_own d) s
scratch-past d s s' xs kept = refl
scratch-past d s s' xs (passed {s' = t} {x = x} {xs = rest} o r) =
    scratch-past d t s' rest r ∙ one-past d x s t o
