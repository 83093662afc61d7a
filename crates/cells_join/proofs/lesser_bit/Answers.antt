use Rattle.std.proofs.Common.{◌≡◌, ℕ, zero, suc, ◌<◌, min, refl, arith}
use lib.Bits.{bit_and}
use Rattle.cells_join.proofs.lesser_bit.Goals as goal

both : (x y : ℕ) → x < 2 → y < 2 → bit_and x y ≡ min x y
both zero zero h k = refl
both zero (suc zero) h k = refl
both (suc zero) zero h k = refl
both (suc zero) (suc zero) h k = refl
both (suc (suc x)) y h k = absurd (omega arith)
both zero (suc (suc y)) h k = absurd (omega arith)
both (suc zero) (suc (suc y)) h k = absurd (omega arith)

pub returns : goal.returns
returns c =
    both c.args.x c.args.y c.requires.0 c.requires.1
