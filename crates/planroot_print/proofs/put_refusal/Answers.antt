use native.Mathlib.Omega.{arith}
use Rattle.text_put.proofs.Digits.{digits-few}
use Rattle.planroot_print.proofs.Lines.{refusal-put}
use Rattle.planroot_print.proofs.put_refusal.Goals as goal

pub put_byte-requires : goal.put_byte-requires
put_byte-requires c =
    omega (arith, c.put_bytes-a.ensures.end_is, c.put_digits-b.ensures.end_is, digits-few 10 c.args.number)

pub returns : goal.returns
returns c =
    refusal-put _ _ _ _ _ _ _ _ c.put_bytes-a.ensures c.put_digits-b.ensures c.put_byte.ensures
