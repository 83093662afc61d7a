-- What is known of an input by the phase of its scan. Assumes nothing.
use mathlib.Core.Path.{◌≡◌, sym, subst}
use mathlib.Core.List.{List}
use Prim.Native.Nat.{ℕ}
use Rattle.planroot_input.specs.declared.Phase.{Phase}
use Rattle.planroot_input.specs.declared.Phase.TheVariants as phase
use Rattle.planroot_input.specs.declared.Scan.{Scan}
use Rattle.planroot_input.specs.inner.Scans.{Line1, Line2, InText, ScannedAt, Scanned}

module _ (input : List ℕ) (s : Scan) (ms tx : List ℕ) where
  at-phase : (p : Phase) → s.phase ≡ p → ScannedAt p input s ms tx → Scanned input s ms tx
  unfolding Scanned
  at-phase p e S = subst (λ (q : Phase). ScannedAt q input s ms tx) (sym e) S

  of-phase : (p : Phase) → s.phase ≡ p → Scanned input s ms tx → ScannedAt p input s ms tx
  unfolding Scanned
  of-phase p e S = subst (λ (q : Phase). ScannedAt q input s ms tx) e S

  pub in-line-1 : s.phase ≡ phase.FirstLine → Line1 input s → Scanned input s ms tx
  unfolding ScannedAt
  in-line-1 e L = at-phase phase.FirstLine e L

  pub in-line-2 : s.phase ≡ phase.SecondLine → Line2 input s ms → Scanned input s ms tx
  unfolding ScannedAt
  in-line-2 e L = at-phase phase.SecondLine e L

  pub in-text : s.phase ≡ phase.Text → InText input s ms tx → Scanned input s ms tx
  unfolding ScannedAt
  in-text e T = at-phase phase.Text e T

  pub of-line-1 : s.phase ≡ phase.FirstLine → Scanned input s ms tx → Line1 input s
  unfolding ScannedAt
  of-line-1 e S = of-phase phase.FirstLine e S

  pub of-line-2 : s.phase ≡ phase.SecondLine → Scanned input s ms tx → Line2 input s ms
  unfolding ScannedAt
  of-line-2 e S = of-phase phase.SecondLine e S

  pub of-text : s.phase ≡ phase.Text → Scanned input s ms tx → InText input s ms tx
  unfolding ScannedAt
  of-text e S = of-phase phase.Text e S
