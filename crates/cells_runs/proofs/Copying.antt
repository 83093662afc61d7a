-- Cells copied one by one to a place behind them. Assumes nothing.
use mathlib.Core.Path.{◌≡◌, ap, ◌∙◌}
use mathlib.Core.List.{List}
use Prim.Native.Nat.{ℕ, ◌+◌, ◌≤◌, ◌<◌}
use native.Mathlib.Omega.{arith}
use lib.ListN.{length, get_or}
use Rattle.logic.proofs.Written.{Written, written-before}

-- one cell more copied
pub copy_more : (to len : ℕ) (xs cells : List ℕ) (i : ℕ) → Written (λ j. get_or xs j 0) to len xs cells i → i < len → len ≤ to → to + len ≤ length xs
    → get_or cells i 0 ≡ get_or xs i 0
copy_more to len xs cells i w l h k =
    ap (λ (c : List ℕ). get_or c i 0) w.is ∙ written-before (λ j. get_or xs j 0) to i i xs (omega arith) (omega arith)
