use native.Mathlib.Omega.{arith}
use Rattle.planroot.proofs.Passing.{whole-known, enough-known}
use Rattle.planroot.proofs.main.Goals as goal

pub say-requires : goal.say-requires
say-requires c =
    let K = whole-known _ _ _ _ c.in_ok-s.ensures c.in-Whole.is in
    record { masks-room = omega (arith, c.pass_input.auto.masks); text-room = omega (arith, c.pass_input.auto.text); input = K.input; scanned = K.scanned }

pub say-requires-in-Enough : goal.say-requires-in-Enough
say-requires-in-Enough c =
    let K = enough-known _ _ _ _ c.in_ok-s.ensures c.in-Enough.is in
    record { masks-room = omega (arith, c.pass_input.auto.masks); text-room = omega (arith, c.pass_input.auto.text); input = K.input; scanned = K.scanned }
