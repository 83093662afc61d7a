-- An input that comes in pieces: `start`, then `step` with each piece, of which only their contracts are known.
use Rattle.std.specs.Prelude.{List, [], ◌∷◌, ◌++◌, ℕ}
use Rattle.planroot_input.specs.declared.Scan.{Scan}
use Rattle.planroot_input.specs.inner.Scans.{Starts, PassesPiece}

unfoldable pub together : List (List ℕ) → List ℕ
together [] = []
together (p ∷ ps) = p ++ together ps

-- The scan and the lent tables after these pieces.
pub data Passed : List (List ℕ) → Scan → List ℕ → List ℕ → Type 0 where
  started : {s : Scan} (ms tx : List ℕ) → Starts s → Passed [] s ms tx
  stepped : {ps : List (List ℕ)} {s : Scan} {ms tx : List ℕ} → Passed ps s ms tx → {r : Scan} {ms' tx' : List ℕ} (piece : List ℕ) → PassesPiece s piece ms tx r ms' tx'
      → Passed (ps ++ (piece ∷ [])) r ms' tx'
