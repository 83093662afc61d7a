use lib.ListN.{get_or}
use Rattle.logic.proofs.Written.{Written}
use Rattle.move_masks.proofs.copy_masks.Given as goal

abbrev pub invariant-loop-s : goal.invariant-loop-s
invariant-loop-s l = Written (λ i. get_or l.masks i 0) 0 l.count l.initial.out l.out l.s
