use native.Mathlib.Omega.{arith}
use Rattle.text_put.proofs.Digits.{digits-few}
use Rattle.planroot_print.proofs.Lines.{penalty-put}
use Rattle.planroot_print.proofs.put_penalty.Goals as goal

pub put_bytes-c-requires : goal.put_bytes-c-requires
put_bytes-c-requires c =
    omega (arith, c.put_bytes-a.ensures.end_is, c.put_digits-b.ensures.end_is, digits-few 10 c.args.root)

pub put_digits-d-requires : goal.put_digits-d-requires
put_digits-d-requires c =
    omega (arith, c.put_bytes-a.ensures.end_is, c.put_digits-b.ensures.end_is, digits-few 10 c.args.root, c.put_bytes-c.ensures.end_is)

pub put_byte-requires : goal.put_byte-requires
put_byte-requires c =
    omega (arith, c.put_bytes-a.ensures.end_is, c.put_digits-b.ensures.end_is, digits-few 10 c.args.root, c.put_bytes-c.ensures.end_is, c.put_digits-d.ensures.end_is, digits-few 10 c.args.cells)

pub returns : goal.returns
returns c =
    penalty-put _ _ _ _ _ _ _ _ _ _ _ _ _ c.put_bytes-a.ensures c.put_digits-b.ensures c.put_bytes-c.ensures c.put_digits-d.ensures c.put_byte.ensures
