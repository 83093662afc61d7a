use mathlib.Core.Path.{refl}
use native.Mathlib.Omega.{arith}
use Rattle.logic.specs.Refusal.{answer_number}
use Rattle.logic.proofs.Refusals.{number-some}
use Rattle.table_format.proofs.Ready.{ready}
use Rattle.contracts.proofs.NodeAnswers.{part-past, part-found}
use Rattle.call_node.proofs.Bounds.{bounds_of, part-shut}
use Rattle.call_node.proofs.node_bounds.Goals as goal

pub returns-in_default : goal.returns-in_default
unfolding answer_number
returns-in_default c =
    part-shut _ _ _ _ (number-some c.in_default.field-0) c.in_default.ensures.number_is

pub returns-then-nodes-node : goal.returns-then-nodes-node
returns-then-nodes-node c =
    let o = c.in-Ok.ensures.opens _ refl in part-past _ _ _ o.plan o.decodes o.own-cells (omega (arith, o.nodes-are, c.if-nodes-node.true))

pub bound_of-from-requires : goal.bound_of-from-requires
bound_of-from-requires c =
    let o = c.in-Ok.ensures.opens _ refl in let R = ready c.args.table.now o.plan c.in-Ok.o.nodes o.decodes o.nodes-are in omega (arith, R.facts.nodes512, R.count)

pub bound_of-to-requires : goal.bound_of-to-requires
bound_of-to-requires c =
    let o = c.in-Ok.ensures.opens _ refl in let R = ready c.args.table.now o.plan c.in-Ok.o.nodes o.decodes o.nodes-are in omega (arith, R.facts.nodes512, R.count)

pub overflow_sub-result : goal.overflow_sub-result
overflow_sub-result c =
    let o = c.in-Ok.ensures.opens _ refl in omega (arith, (bounds_of o.plan _ _ _ _ _ _ _ o.indexed.firsts-are o.nodes-are o.cells_are c.if-nodes-node.false c.bound_of-from.ensures c.bound_of-to.ensures).rises)

pub returns : goal.returns
returns c =
    let o = c.in-Ok.ensures.opens _ refl in part-found _ _ _ o.plan o.decodes _ _ _ o.own-cells (omega (arith, o.nodes-are, c.if-nodes-node.false)) o.cells_are (bounds_of o.plan _ _ _ _ _ _ _ o.indexed.firsts-are o.nodes-are o.cells_are c.if-nodes-node.false c.bound_of-from.ensures c.bound_of-to.ensures)
