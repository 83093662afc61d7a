use Prim.Native.Nat.{◌+◌}
use Rattle.text_put.specs.inner.Puts.{Puts}
use Rattle.text_write.proofs.Texts.{letters}
use Rattle.text_write.proofs.put_letters.Given as goal

abbrev pub invariant-loop-s : goal.invariant-loop-s
invariant-loop-s l = Puts l.at (letters l.s) l.initial.out (l.at + l.s) l.out
