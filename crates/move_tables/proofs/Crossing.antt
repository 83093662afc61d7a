-- The sets that a word of uses tests by more than one variable. Assumes nothing.
use mathlib.Core.Path.{◌≡◌, sym, ap, ap₂, ◌∙◌}
use mathlib.Core.Bool.{Bool, ◌&&◌, ◌||◌}
use Prim.Native.Nat.{ℕ, ◌+◌, ◌*◌, ◌/◌, ◌%◌, ◌^◌}
use native.Mathlib.Nat.{div-div-eq-div-mul}
use native.Mathlib.Omega.{arith}
use lib.Bits.{bit_and, bit_or}
use lib.Dec.{eqb}
use lib.Pow.{pow-add}
use Rattle.logic.specs.Configuration.{in_mask}
use Rattle.cells_touch.proofs.Bits.{in_and, in-or}
use Rattle.move_shares.specs.inner.Shares.{crosses}
use Rattle.move_tables.specs.inner.Taking.{Crossed}

-- a word moved down by some bits
moved : (w j v : ℕ) → in_mask (w / 2 ^ v) j ≡ in_mask w (j + v)
unfolding in_mask
moved w j v =
    let e : v + j ≡ j + v = omega arith in
    ap (λ (x : ℕ). eqb (x % 2) 1) (div-div-eq-div-mul w (2 ^ v) (2 ^ j) ∙ ap (λ (x : ℕ). w / x) (sym (pow-add 2 v j)) ∙ ap (λ (x : ℕ). w / 2 ^ x) e)

pub crossed-so : (used second third : ℕ) → second ≡ used / 2 ^ 1 → third ≡ used / 2 ^ 2
    → Crossed used (bit_or (bit_and used (bit_or second third)) (bit_and second third))
unfolding Crossed crosses
crossed-so used second third h i S l =
    let b : in_mask second (4 * S) ≡ in_mask used (4 * S + 1) = ap (λ (w : ℕ). in_mask w (4 * S)) h ∙ moved used (4 * S) 1 in
    let c : in_mask third (4 * S) ≡ in_mask used (4 * S + 2) = ap (λ (w : ℕ). in_mask w (4 * S)) i ∙ moved used (4 * S) 2 in
    in-or (bit_and used (bit_or second third)) (bit_and second third) (4 * S)
    ∙ ap₂ ◌||◌
    (in_and used (bit_or second third) (4 * S) ∙ ap (λ (a : Bool). in_mask used (4 * S) && a) (in-or second third (4 * S) ∙ ap₂ ◌||◌ b c))
    (in_and second third (4 * S) ∙ ap₂ ◌&&◌ b c)
