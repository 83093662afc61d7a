-- A number by a test. Assumes nothing.
use mathlib.Core.Path.{◌≡◌}
use mathlib.Core.Bool.{Bool, true, false, cond}
use Prim.Native.Nat.{ℕ}

pub by-test : (f : Bool → ℕ) (x y : ℕ) → x ≡ f true → y ≡ f false → (b : Bool) → cond b x y ≡ f b
by-test f x y h k true = h
by-test f x y h k false = k
