use mathlib.Core.Path.{◌≡◌, refl, sym, ◌∙◌}
use borrow.Author.Rules.{rules}
use Rattle.std.specs.Prelude.{Err}
use Rattle.logic.specs.Refusal.{answer_number}
use native.Mathlib.Omega.{arith}
use lib.ListN.{length}
use borrow.Author.Tests.{not-true, not-false}
use Rattle.logic.specs.Change.{modulus}
use Rattle.cells_walk.specs.inner.Visit.{CellsFit}
use Rattle.contracts.specs.State.{tables, own_tables}
use Rattle.contracts.proofs.Scratch.{scratch-kept}
use Rattle.contracts.specs.Journal.{most_records}
use Rattle.contracts.proofs.Journals.{not_full}
use Rattle.journal_rules.proofs.Counting.{lent-most}
use Rattle.call_open.proofs.Opening.{open-longer, root-cell}
use Rattle.move_make.specs.inner.Carrying.{Carries}
use Rattle.move_best.specs.inner.Choosing.{Chooses}
use Rattle.move_best.proofs.Answering.{chosen-candidate}
use Rattle.call_improve.proofs.Improving.{improve-shut, improve-unknown, improve-none, improve-full, improve-made, root-now}
use Rattle.call_improve.proofs.improve.Goals as goal

pub best_move-c-requires : goal.best_move-c-requires
unfolding CellsFit modulus
best_move-c-requires c =
    let l = lent-most _ _ _ _ c.cells_lent.ensures in record { tables-open = record { opened = open-longer _ _ _ _ _ _ _ _ _ (c.in_ok-o.ensures.opens _ refl) (omega (arith, l, c.min-shortest.ensures)); cells_fit = (λ j. omega (arith, c.slice_known-2-1.given j)) }; cells-own = c.in_ok-o.ensures.cells_are _ refl }

pub bounds-cells-0 : goal.bounds-cells-0
bounds-cells-0 c =
    let l = lent-most _ _ _ _ c.cells_lent.ensures in let o = c.in_ok-o.ensures.opens _ refl in omega (arith, l, c.min-shortest.ensures, o.own-cells, root-cell _ o.plan o.decodes)

pub overflow_add-count : goal.overflow_add-count
unfolding most_records
overflow_add-count c =
    let h = (not_full _ _ (sym c.is_full.ensures ∙ c.if-is_full.false)).1 in omega (arith, h)

pub carry-requires : goal.carry-requires
unfolding CellsFit modulus Chooses own_tables
carry-requires c =
    let l = lent-most _ _ _ _ c.cells_lent.ensures in let o = open-longer _ _ _ _ _ (length c.args.cells.now) _ _ _ (c.in_ok-o.ensures.opens _ refl) (omega (arith, l, c.min-shortest.ensures)) in record { tables-open = record { opened = o; cells_fit = (λ j. omega (arith, c.slice_known-2-1.given j)) }; is-legal = (chosen-candidate o.plan (own_tables o.plan (tables c.args.masks.now c.args.cells.now)) _ _ (root-now _ o.plan o.decodes c.args.masks.now _) _ (c.best_move-c.ensures o.plan o.decodes) (sym c.lowers.ensures ∙ not-false _ c.if-not-lowers.false-raw)).is-legal }

pub returns-in_err-o : goal.returns-in_err-o
unfolding answer_number
returns-in_err-o c =
    let e : c.from_residual.result ≡ Err c.in_err-o.field-0.0 = search rules in rw e record { answer = improve-shut _ _ _ _ _ _ _ _ (rw c.min-shortest.ensures at (rw c.cells_lent.ensures at c.in_err-o.ensures.number_is)); lent = scratch-kept _ _ _ }

pub returns-then-not-kinds_known : goal.returns-then-not-kinds_known
unfolding answer_number
returns-then-not-kinds_known c =
    let o = c.in_ok-o.ensures.opens _ refl in record { answer = improve-unknown _ _ _ _ _ _ _ o.plan o.decodes (sym (rw c.min-shortest.ensures at (rw c.cells_lent.ensures at c.in_ok-o.ensures.number_is))) (sym c.kinds_known.ensures ∙ not-true _ c.if-not-kinds_known.true-raw); lent = scratch-kept _ _ _ }

pub returns-then-not-lowers : goal.returns-then-not-lowers
unfolding Chooses answer_number
returns-then-not-lowers c =
    let o = c.in_ok-o.ensures.opens _ refl in record { answer = improve-none _ _ _ _ _ _ _ o.plan o.decodes (sym (rw c.min-shortest.ensures at (rw c.cells_lent.ensures at c.in_ok-o.ensures.number_is))) (sym c.kinds_known.ensures ∙ not-false _ c.if-not-kinds_known.false-raw) _ (c.best_move-c.ensures o.plan o.decodes) _ (root-now _ o.plan o.decodes _ _) (sym c.lowers.ensures ∙ not-true _ c.if-not-lowers.true-raw); lent = scratch-kept _ _ _ }

pub returns-then-is_full : goal.returns-then-is_full
unfolding Chooses answer_number
returns-then-is_full c =
    let o = c.in_ok-o.ensures.opens _ refl in record { answer = improve-full _ _ _ _ _ _ _ o.plan o.decodes (sym (rw c.min-shortest.ensures at (rw c.cells_lent.ensures at c.in_ok-o.ensures.number_is))) (sym c.kinds_known.ensures ∙ not-false _ c.if-not-kinds_known.false-raw) _ (c.best_move-c.ensures o.plan o.decodes) _ (root-now _ o.plan o.decodes _ _) (sym c.lowers.ensures ∙ not-false _ c.if-not-lowers.false-raw) (sym c.is_full.ensures ∙ c.if-is_full.true); lent = scratch-kept _ _ _ }

pub returns : goal.returns
unfolding Chooses Carries answer_number
returns c =
    let o = c.in_ok-o.ensures.opens _ refl in rw c.made.ensures record { answer = improve-made _ _ _ _ _ _ _ o.plan o.decodes (sym (rw c.min-shortest.ensures at (rw c.cells_lent.ensures at c.in_ok-o.ensures.number_is))) (sym c.kinds_known.ensures ∙ not-false _ c.if-not-kinds_known.false-raw) _ (c.best_move-c.ensures o.plan o.decodes) _ (root-now _ o.plan o.decodes _ _) (sym c.lowers.ensures ∙ not-false _ c.if-not-lowers.false-raw) (sym c.is_full.ensures ∙ c.if-is_full.false) _ _ _ _ (c.carry.ensures o.plan o.decodes) (omega arith); lent = scratch-kept _ _ _ }
