-- An input that is passed piece by piece. Assumes nothing.
use mathlib.Core.Path.{◌≡◌, subst}
use mathlib.Core.Bool.{Bool, true}
use mathlib.Core.List.{List, [], ◌++◌}
use Prim.Native.Nat.{ℕ}
use Rattle.planroot_input.specs.declared.Scan.{Scan}
use Rattle.planroot_input.specs.inner.Scans.{Starts, PassesPiece, DecidesLine}
use Rattle.planroot_line.proofs.Stopping.{settled-line}
use Rattle.planroot.specs.declared.Input.{Input}
use Rattle.planroot.specs.declared.Input.TheVariants.{Whole, Enough}
use Rattle.planroot.specs.inner.Known.{Known, KnownEnough, KnownInput}

pub known_start : (s : Scan) (ms tx : List ℕ) → Starts s → Known s ms tx
unfolding Starts
known_start s ms tx S = record { input = []; scanned = S ms tx }

pub known_step : (s r : Scan) (piece ms tx ms' tx' : List ℕ) → Known s ms tx → PassesPiece s piece ms tx r ms' tx' → Known r ms' tx'
unfolding PassesPiece
known_step s r piece ms tx ms' tx' K S = record { input = K.input ++ piece; scanned = S K.input K.scanned }

module _ (s : Scan) (ms tx : List ℕ) where
  pub known-whole : Known s ms tx → KnownInput (Whole s) ms tx
  unfolding KnownInput
  known-whole K = K

  pub known-enough : (r : Bool) → Known s ms tx → DecidesLine s r → r ≡ true → KnownInput (Enough s) ms tx
  unfolding KnownInput DecidesLine
  known-enough r K D e = record { input = K.input; scanned = K.scanned; settled = settled-line K.input ((D K.input ms tx K.scanned).settled e) }

-- what `main` finds in the answer
module _ (x : Input) (s : Scan) (ms tx : List ℕ) (K : KnownInput x ms tx) where
  pub whole-known : x ≡ Whole s → Known s ms tx
  unfolding KnownInput
  whole-known e = subst (λ (y : Input). KnownInput y ms tx) e K

  pub enough-known : x ≡ Enough s → Known s ms tx
  unfolding KnownInput
  enough-known e = let L : KnownEnough s ms tx = subst (λ (y : Input). KnownInput y ms tx) e K in record { input = L.input; scanned = L.scanned }
