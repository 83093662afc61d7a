use lib.ListN.{take}
use Rattle.planroot_input.specs.inner.Scans.{PassesPiece}
use Rattle.planroot_input.proofs.Scan.step.Given as goal

abbrev pub invariant-loop-b : goal.invariant-loop-b
invariant-loop-b l = PassesPiece l.initial.s (take l.b-index l.bytes) l.initial.masks l.initial.text l.s l.masks l.text
