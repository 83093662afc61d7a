use Rattle.std.proofs.Common.{sym, ◌∙◌, arith}
use borrow.Author.Tests.{eqb-false}
use Rattle.cells_join.specs.inner.Joined.{HeldPlaced}
use Rattle.cells_join.proofs.Held.{settled-none, settled-some}
use Rattle.cells_join.proofs.join_held.Goals as goal

pub merge_row-requires : goal.merge_row-requires
unfolding HeldPlaced
merge_row-requires c =
    let w = c.requires.0 (omega arith) in
    (w.0, w.1, c.requires.1.row (omega arith), λ z. let ne = eqb-false c.args.held c.args.over z in c.requires.1.own (omega (arith, w.0, ne)))

pub returns-then-held-ne0 : goal.returns-then-held-ne0
returns-then-held-ne0 c =
    c.merge_row.ensures ∙ sym (settled-some _ c.args.over c.args.held c.args.cells.now (omega arith))

pub returns-else-held-ne0 : goal.returns-else-held-ne0
returns-else-held-ne0 c =
    sym (settled-none _ c.args.over c.args.held c.args.cells.now (omega arith))
