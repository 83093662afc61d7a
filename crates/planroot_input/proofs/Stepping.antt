-- The bytes of a piece, one by one. Assumes nothing.
use mathlib.Core.Path.{◌≡◌, subst}
use mathlib.Core.List.{List, [], ◌∷◌, ◌++◌, append_assoc, append-nil}
use Prim.Native.Nat.{ℕ, ◌+◌, ◌≤◌, ◌<◌}
use native.Mathlib.Numerals.{add-one}
use lib.ListN.{length, get_or, take}
use lib.Seq.{take-suc, take_all}
use Rattle.planroot_input.specs.declared.Phase.TheVariants as phase
use Rattle.planroot_input.specs.declared.Scan.{Scan}
use Rattle.planroot_input.specs.inner.Scans.{Scanned, PassesFirst, PassesSecond, PassesText, PassesPiece}
use Rattle.planroot_input.proofs.Phases.{of-line-1, of-line-2, of-text}

module _ (s : Scan) (b : ℕ) (ms tx : List ℕ) where
  pub steps_first : (r : Scan) → s.phase ≡ phase.FirstLine → PassesFirst s b r → PassesPiece s (b ∷ []) ms tx r ms tx
  unfolding PassesPiece PassesFirst
  steps_first r p P input S = P input ms tx p (of-line-1 _ _ _ _ p S)

  pub steps-second : (r : Scan) (ms' : List ℕ) → s.phase ≡ phase.SecondLine → PassesSecond s b ms r ms' → PassesPiece s (b ∷ []) ms tx r ms' tx
  unfolding PassesPiece PassesSecond
  steps-second r ms' p P input S = P input tx p (of-line-2 _ _ _ _ p S)

  pub steps-text : (r : Scan) (tx' : List ℕ) → s.phase ≡ phase.Text → PassesText s b tx r tx' → PassesPiece s (b ∷ []) ms tx r ms tx'
  unfolding PassesPiece PassesText
  steps-text r tx' p P input S = P input ms p (of-text _ _ _ _ p S)

pub steps-none : (s : Scan) (ms tx : List ℕ) → PassesPiece s [] ms tx s ms tx
unfolding PassesPiece
steps-none s ms tx input S = rw append-nil S

-- some bytes, then some more
pub steps-more : (s m r : Scan) (xs ys ms ms' ms'' tx tx' tx'' : List ℕ) → PassesPiece s xs ms tx m ms' tx' → PassesPiece m ys ms' tx' r ms'' tx'' → PassesPiece s (xs ++ ys) ms tx r ms'' tx''
unfolding PassesPiece
steps-more s m r xs ys ms ms' ms'' tx tx' tx'' F G input S = subst (λ (x : List ℕ). Scanned x r ms'' tx'') (append_assoc input xs ys) (G (input ++ xs) (F input S))

pub steps-one : (s m r : Scan) (bytes : List ℕ) (i : ℕ) (ms ms' ms'' tx tx' tx'' : List ℕ) → i < length bytes → PassesPiece s (take i bytes) ms tx m ms' tx'
    → PassesPiece m (get_or bytes i 0 ∷ []) ms' tx' r ms'' tx'' → PassesPiece s (take (i + 1) bytes) ms tx r ms'' tx''
steps-one s m r bytes i ms ms' ms'' tx tx' tx'' h F G =
    rw (add-one i, take-suc bytes i 0 h) (steps-more s m r (take i bytes) (get_or bytes i 0 ∷ []) ms ms' ms'' tx tx' tx'' F G)

pub steps_all : (s r : Scan) (bytes : List ℕ) (i : ℕ) (ms ms' tx tx' : List ℕ) → length bytes ≤ i → PassesPiece s (take i bytes) ms tx r ms' tx' → PassesPiece s bytes ms tx r ms' tx'
steps_all s r bytes i ms ms' tx tx' h F = subst (λ (x : List ℕ). PassesPiece s x ms tx r ms' tx') (take_all i bytes h) F
