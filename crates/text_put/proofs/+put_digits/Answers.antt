use Rattle.std.proofs.Common.{arith}
use Rattle.text_put.proofs.Digits.{digits-few, put-none, put_one, put_last}
use Rattle.text_put.proofs.+put_digits.Goals.{then-n-lt10, else-n-lt10}
use Rattle.text_put.proofs.+put_digits.Goals as goal

pub returns-then-k-eq0 : goal.returns-then-k-eq0
returns-then-k-eq0 t c =
    put-none _ _ _ _ c.if-k-eq0.true

pub put_byte-requires : goal.put_byte-requires
put_byte-requires t c =
    elim c.if-n-lt10.branch [
      | then-n-lt10 w ↦ omega arith
      | else-n-lt10 w ↦ omega (arith, w.put_digits-next.ensures.end_is, digits-few)
    ]

pub returns : goal.returns
returns t c =
    elim c.if-n-lt10.branch [
      | then-n-lt10 w ↦ put_one _ _ _ _ _ _ c.if-k-eq0.false w.if-n-lt10.true (rw (w.next-is, w.out-is) at c.put_byte.ensures)
      | else-n-lt10 w ↦ put_last _ _ _ _ _ _ _ _ c.if-k-eq0.false w.if-n-lt10.false w.put_digits-next.ensures (rw (w.next-is, w.out-is) at c.put_byte.ensures)
    ]
