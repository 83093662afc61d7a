use Rattle.std.proofs.Common.{take}
use Rattle.text_put.specs.inner.Puts.{Puts}
use Rattle.text_put.proofs.put_bytes.Given as goal

abbrev pub invariant-loop-b : goal.invariant-loop-b
invariant-loop-b l = Puts l.at (take l.b-index l.bytes) l.initial.out l.next l.out
