use mathlib.Core.Path.{◌≡◌, refl}
use borrow.Author.Rules.{rules}
use Rattle.std.specs.Prelude.{Err}
use Rattle.logic.specs.Refusal.{answer_number}
use native.Mathlib.Omega.{arith}
use Rattle.cells_fill.specs.inner.Fill.{FillsPlan}
use Rattle.contracts.proofs.LoadAnswers.{accepted, load-accepts}
use Rattle.call_open.proofs.Opening.{open-enough, root-cell, few-cells}
use Rattle.call_load.proofs.Opening.{load-shut, fill-ready, own_back}
use Rattle.logic.proofs.Lent.{back-to-length}
use Rattle.call_load.proofs.load.Goals as goal

pub returns-in_err-o : goal.returns-in_err-o
unfolding answer_number
returns-in_err-o c =
    let e : c.from_residual.result ≡ Err c.in_err-o.field-0.0 = search rules in rw e (load-shut _ _ _ _ c.in_err-o.ensures.number_is)

pub slice_bounds-fill-end : goal.slice_bounds-fill-end
slice_bounds-fill-end c =
    let o = c.in_ok-o.ensures.opens _ refl in omega (arith, o.own-cells, c.in_ok-o.ensures.cells_are _ refl o.plan o.decodes)

pub fill-requires : goal.fill-requires
fill-requires c =
    let o = c.in_ok-o.ensures.opens _ refl in fill-ready _ _ _ _ _ _ _ _ _ _ o (c.in_ok-o.ensures.nodes-are _ refl o.plan o.decodes) (c.in_ok-o.ensures.cells_are _ refl o.plan o.decodes)

pub bounds-cells-0 : goal.bounds-cells-0
bounds-cells-0 c =
    let o = c.in_ok-o.ensures.opens _ refl in omega (arith, back-to-length 0 c.in_ok-o.o.cells c.args.cells.now c.fill.new.cells (omega arith) (omega (arith, o.own-cells, c.in_ok-o.ensures.cells_are _ refl o.plan o.decodes)) c.fill.auto.cells, root-cell _ o.plan o.decodes, o.own-cells)

pub overflow_cast-result : goal.overflow_cast-result
overflow_cast-result c =
    let o = c.in_ok-o.ensures.opens _ refl in omega (arith, few-cells _ o.plan o.decodes, c.in_ok-o.ensures.cells_are _ refl o.plan o.decodes)

pub returns : goal.returns
unfolding FillsPlan
returns c =
    let o = c.in_ok-o.ensures.opens _ refl in let total = c.in_ok-o.ensures.cells_are _ refl o.plan o.decodes in load-accepts _ _ c.args.cells.now _ o.plan _ _ o.decodes (accepted o.plan _ (open-enough _ _ _ _ c.args.cells.now _ _ _ _ o (omega arith))) (own_back _ _ c.args.cells.now c.fill.new.cells _ total (c.fill.ensures o.plan o.decodes)) (root-cell _ o.plan o.decodes) refl total
