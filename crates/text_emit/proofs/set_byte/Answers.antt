use native.Mathlib.Omega.{arith}
use Rattle.text_emit.proofs.Bytes.{set-number-le}
use Rattle.text_emit.proofs.set_byte.Goals as goal

pub overflow_cast-result : goal.overflow_cast-result
overflow_cast-result c =
    omega (arith, c.set_number.ensures, set-number-le c.args.sets.now c.args.s, c.requires)
