use mathlib.Core.Path.{sym, ◌∙◌}
use mathlib.Core.Bool.{false≢true}
use native.Mathlib.Omega.{arith}
use Rattle.table_format.proofs.Rooted.{front-is, header-fits}
use Rattle.table_check.proofs.Whole.{refuse-plan, placed_below, bad-below, bad-count, bad-total, accept-plan}
use Rattle.table_check.proofs.check.Goals.{then-c-ne1-via-then-c-ne1, then-c-ne1-via-else-c-ne1+then-c-ge-MOST_CELLS}
use Rattle.table_check.proofs.check.Goals as goal

pub returns-then-not-front_ok : goal.returns-then-not-front_ok
returns-then-not-front_ok c =
    refuse-plan (λ o. false≢true (sym c.if-not-front_ok.true ∙ c.front_ok.ensures ∙ o.front))

pub ports_of-ports-requires : goal.ports_of-ports-requires
ports_of-ports-requires c =
    let f = front-is c.args.table.now (sym c.front_ok.ensures ∙ c.if-not-front_ok.false) in
    header-fits c.args.table.now f

pub sets_of-sets-requires : goal.sets_of-sets-requires
sets_of-sets-requires c =
    let f = front-is c.args.table.now (sym c.front_ok.ensures ∙ c.if-not-front_ok.false) in
    header-fits c.args.table.now f

pub nodes_of-nodes-requires : goal.nodes_of-nodes-requires
nodes_of-nodes-requires c =
    let f = front-is c.args.table.now (sym c.front_ok.ensures ∙ c.if-not-front_ok.false) in
    header-fits c.args.table.now f

pub below_root-requires : goal.below_root-requires
below_root-requires c =
    let f = front-is c.args.table.now (sym c.front_ok.ensures ∙ c.if-not-front_ok.false) in
    (omega (arith, f.nodes2, c.nodes_of-nodes.ensures.is), omega (arith, f.nodes512, c.nodes_of-nodes.ensures.is), rw c.nodes_of-nodes.ensures.is f.whole)

pub check_forest-requires : goal.check_forest-requires
check_forest-requires c =
    let f = front-is c.args.table.now (sym c.front_ok.ensures ∙ c.if-not-front_ok.false) in
    rw (c.ports_of-ports.ensures, c.sets_of-sets.ensures, c.below_root.ensures, c.nodes_of-nodes.ensures.is) (placed_below f c.room.ensures)

pub returns-in_err-c : goal.returns-in_err-c
returns-in_err-c c =
    let f = front-is c.args.table.now (sym c.front_ok.ensures ∙ c.if-not-front_ok.false) in
    rw c.from_residual.ensures (refuse-plan (bad-below f c.sets_of-sets.ensures c.nodes_of-nodes.ensures.is c.below_root.ensures c.in_err-c.ensures))

pub returns-then-c-ne1 : goal.returns-then-c-ne1
returns-then-c-ne1 c =
    let f = front-is c.args.table.now (sym c.front_ok.ensures ∙ c.if-not-front_ok.false) in
    elim c.then-c-ne1.branch [
      | then-c-ne1-via-then-c-ne1 w ↦ refuse-plan (bad-count f c.sets_of-sets.ensures c.nodes_of-nodes.ensures.is c.below_root.ensures c.ports_of-ports.ensures c.in_ok-c.ensures w.if-c-ne1.true)
      | then-c-ne1-via-else-c-ne1+then-c-ge-MOST_CELLS w ↦ refuse-plan (bad-total f c.sets_of-sets.ensures c.nodes_of-nodes.ensures.is c.below_root.ensures c.ports_of-ports.ensures c.in_ok-c.ensures w.if-c-ge-MOST_CELLS.true)
    ]

pub returns : goal.returns
returns c =
    let f = front-is c.args.table.now (sym c.front_ok.ensures ∙ c.if-not-front_ok.false) in
    accept-plan f c.sets_of-sets.ensures c.nodes_of-nodes.ensures.is c.below_root.ensures c.ports_of-ports.ensures c.in_ok-c.ensures c.nodes_of-nodes.ensures.bytes c.if-c-ne1.false c.if-c-ge-MOST_CELLS.false c.room.ensures c.note.ensures
