use lib.ListN.{take}
use Rattle.planroot_input.specs.inner.Words.{IsWord}
use Rattle.plantable_bytes.proofs.word_of.Given as goal

abbrev pub invariant-loop-b : goal.invariant-loop-b
invariant-loop-b l = IsWord (take l.b-index l.line) l.w
