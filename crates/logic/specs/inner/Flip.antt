-- A mask with one port flipped: what the code does where a port enters or leaves.
use Rattle.std.specs.Prelude.{ℕ, ◌^◌}
use Rattle.std.specs.Int.Bits.{bit_xor}

unfoldable pub flip_port : ℕ → ℕ → ℕ
flip_port mask p = bit_xor mask (2 ^ p)
