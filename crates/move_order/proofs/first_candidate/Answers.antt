use mathlib.Core.Path.{subst}
use native.Mathlib.Omega.{arith}
use Rattle.logic.specs.declared.Move.{Move}
use Rattle.logic.specs.Moves.{no_move}
use Rattle.contracts.specs.MoveOrder.{fields_are}
use Rattle.move_order.specs.inner.Stepping.{outset, GivesNext}
use Rattle.move_order.proofs.Stepping.{zeros-begin}
use Rattle.move_order.proofs.first_candidate.Goals as goal

pub next_candidate-requires : goal.next_candidate-requires
next_candidate-requires c =
    rw c.at_fields.ensures (zeros-begin _ c.args.ports c.args.sets c.args.masks.now (omega arith) c.requires)

pub returns : goal.returns
unfolding outset no_move fields_are
returns c =
    subst (λ (x : Move). GivesNext c.args.ports c.args.sets c.args.kinds c.args.masks.now x c.next_candidate.result) c.at_fields.ensures c.next_candidate.ensures
