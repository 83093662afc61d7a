-- Some input is passed, whichever standard input gave. Internal to the program.
use Rattle.std.specs.Prelude.{◌≡◌, List, ◌++◌, ℕ}
use Rattle.planroot_input.specs.declared.Scan.{Scan}
use Rattle.planroot_input.specs.inner.Scans.{Scanned}
use Rattle.planroot_line.specs.Line.{input_line}
use Rattle.planroot.specs.declared.Input.{Input}
use Rattle.planroot.specs.declared.Input.TheVariants.{Whole, Enough}

pub record Known (s : Scan) (ms tx : List ℕ) : Type 0 where
  pub input : List ℕ
  pub scanned : Scanned input s ms tx

-- Nothing that follows changes the line.
pub record KnownEnough (s : Scan) (ms tx : List ℕ) : Type 0 where
  pub input : List ℕ
  pub scanned : Scanned input s ms tx
  pub settled : (more : List ℕ) → input_line (input ++ more) ≡ input_line input

-- The input to its end, or as far as it is enough.
unfoldable pub KnownInput : Input → List ℕ → List ℕ → Type 0
KnownInput (Whole s) ms tx = Known s ms tx
KnownInput (Enough s) ms tx = KnownEnough s ms tx
