-- What a record count that is not past leaves. Assumes nothing.
use mathlib.Core.Path.{◌≡◌}
use mathlib.Core.Bool.{Bool, true, false, cond}
use Prim.Native.Nat.{ℕ, ◌≤◌}
use native.Mathlib.Omega.{arith}
use Rattle.contracts.specs.Journal.{count_past}

-- no more cells than are lent
pub lent-most : (r room count n : ℕ) → r ≡ cond (count_past room count) 0 n → r ≤ n
lent-most r room count n e = go (count_past room count) e
  where
    go : (b : Bool) → r ≡ cond b 0 n → r ≤ n
    go true h = omega (arith, h)
    go false h = omega (arith, h)
