use Rattle.std.proofs.Common.{ℕ, arith}
use Rattle.std.proofs.lemmas.List.{length-take-le, take_all}
use Rattle.text_put.proofs.Putting.{puts_none, puts-next, puts-whole, puts-rest}
use Rattle.text_put.proofs.put_bytes.Goals.{else-loop-b-test, then-loop-b-test+then-out-next}
use Rattle.text_put.proofs.put_bytes.Goals as goal

pub loop-b-init : goal.loop-b-init
loop-b-init c =
    puts_none _ _

pub put_byte-next-requires : goal.put_byte-next-requires
put_byte-next-requires c =
    omega (arith, c.loop-b.invariant.end_is, length-take-le {A = ℕ})

pub loop-b-preserved : goal.loop-b-preserved
loop-b-preserved c =
    puts-next _ _ _ _ _ _ _ _ c.loop-b-test.true c.loop-b.invariant c.put_byte-next.ensures

pub returns : goal.returns
returns c =
    elim c.loop-b-test.branch [
      | else-loop-b-test w ↦ puts-whole _ _ _ _ _ _ (take_all _ _ w.loop-b-test.false) c.loop-b.invariant
      | then-loop-b-test+then-out-next w ↦ puts-rest _ _ _ _ _ _ (omega (arith, w.if-out-next.true)) c.loop-b.invariant
    ]
