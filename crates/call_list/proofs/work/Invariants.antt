use Prim.Native.Nat.{◌-◌, ◌*◌}
use lib.ListN.{length}
use Rattle.contracts.specs.Journal.{journaled}
use Rattle.call_one.specs.Lending.{lends}
use Rattle.call_list.proofs.Extending.{Going}
use Rattle.call_list.proofs.work.Given as goal

abbrev pub invariant-loop-from : goal.invariant-loop-from
invariant-loop-from l = Going l.table l.calls (lends (journaled l.initial.masks l.initial.cells l.initial.journal l.initial.count) l.initial.scratch l.initial.list l.initial.answers) l.worked (lends (journaled l.masks l.cells l.journal l.count) l.scratch l.list l.answers)

abbrev pub decreases-loop-from : goal.decreases-loop-from
decreases-loop-from l = length l.calls - 7 * l.worked
