use Prim.Native.Nat.{ℕ}
use mathlib.Core.Path.{◌≡◌, refl, sym, ◌∙◌}
use borrow.Author.Rules.{rules}
use Rattle.std.specs.Prelude.{Err}
use Rattle.logic.specs.Refusal.{answer_number}
use native.Mathlib.Omega.{arith}
use borrow.Author.Tests.{not-true, not-false}
use Rattle.logic.specs.Change.{modulus}
use Rattle.cells_walk.specs.inner.Visit.{CellsFit}
use Rattle.contracts.proofs.Scratch.{scratch-kept}
use lib.ListN.{length-replicate}
use Rattle.call_open.proofs.OpenPlan.{sets-fit, masks-long}
use Rattle.move_best.proofs.Owning.{zeros-empty, fill-ready, chooses-whole, lists-whole}
use Rattle.move_best.specs.inner.Choosing.{Chooses, Lists}
use Rattle.call_best.proofs.Answering.{list-shut, list-unknown, list-short, list-made}
use Rattle.call_best.proofs.best_moves.Goals as goal

pub own_masks-own-requires : goal.own_masks-own-requires
own_masks-own-requires c =
    sets-fit (c.in_ok-o.ensures.opens _ refl)

pub slice_bounds-fill_tables-end : goal.slice_bounds-fill_tables-end
slice_bounds-fill_tables-end c =
    omega (arith, c.own_masks-own.ensures, masks-long (c.in_ok-o.ensures.opens _ refl))

pub slice_bounds-fill_tables-end-2 : goal.slice_bounds-fill_tables-end-2
slice_bounds-fill_tables-end-2 c =
    let o = c.in_ok-o.ensures.opens _ refl in omega (arith, c.min-shortest.ensures, o.own-cells, c.in_ok-o.ensures.cells_are _ refl o.plan o.decodes)

pub fill_tables-left-requires : goal.fill_tables-left-requires
unfolding CellsFit modulus
fill_tables-left-requires c =
    fill-ready (c.in_ok-o.ensures.opens _ refl) _ (omega (arith, c.min-shortest.ensures)) (λ j. omega (arith, c.shared_slice_known-3-1.given j)) _ _ c.own_masks-own.ensures (c.in_ok-o.ensures.cells_are _ refl) _ _ _ _ (length-replicate {A = ℕ} 4096 0) (length-replicate {A = ℕ} 64 0) (length-replicate {A = ℕ} 16384 0) (length-replicate {A = ℕ} 1024 0) (zeros-empty 4096) (zeros-empty 64) (zeros-empty 16384)

pub slice_bounds-choose-end : goal.slice_bounds-choose-end
slice_bounds-choose-end c =
    omega (arith, c.own_masks-own.ensures, masks-long (c.in_ok-o.ensures.opens _ refl))

pub slice_bounds-choose-end-2 : goal.slice_bounds-choose-end-2
slice_bounds-choose-end-2 c =
    let o = c.in_ok-o.ensures.opens _ refl in omega (arith, c.min-shortest.ensures, o.own-cells, c.in_ok-o.ensures.cells_are _ refl o.plan o.decodes)

pub choose-c-requires : goal.choose-c-requires
choose-c-requires c =
    c.fill_tables-left.ensures

pub slice_bounds-list_best-end : goal.slice_bounds-list_best-end
slice_bounds-list_best-end c =
    omega (arith, c.own_masks-own.ensures, masks-long (c.in_ok-o.ensures.opens _ refl))

pub slice_bounds-list_best-end-2 : goal.slice_bounds-list_best-end-2
slice_bounds-list_best-end-2 c =
    let o = c.in_ok-o.ensures.opens _ refl in omega (arith, c.min-shortest.ensures, o.own-cells, c.in_ok-o.ensures.cells_are _ refl o.plan o.decodes)

pub list_best-requires : goal.list_best-requires
list_best-requires c =
    record { told = c.fill_tables-left.ensures; chooses = c.choose-c.ensures; list-long = omega (arith, c.if-list-count.false, c.wide-count.ensures.0) }

pub returns-in_err-o : goal.returns-in_err-o
unfolding answer_number
returns-in_err-o c =
    let e : c.from_residual.result ≡ Err c.in_err-o.field-0.0 = search rules in rw e record { answer = list-shut _ _ _ _ _ _ _ (rw c.min-shortest.ensures at c.in_err-o.ensures.number_is); lent = scratch-kept _ _ _ }

pub returns-then-not-kinds_known : goal.returns-then-not-kinds_known
unfolding answer_number
returns-then-not-kinds_known c =
    let o = c.in_ok-o.ensures.opens _ refl in record { answer = list-unknown _ _ _ _ _ _ o.plan o.decodes (sym (rw c.min-shortest.ensures at c.in_ok-o.ensures.number_is)) (sym c.kinds_known.ensures ∙ not-true _ c.if-not-kinds_known.true-raw); lent = scratch-kept _ _ _ }

pub returns-then-list-count : goal.returns-then-list-count
unfolding Chooses CellsFit modulus answer_number
returns-then-list-count c =
    let o = c.in_ok-o.ensures.opens _ refl in record { answer = list-short _ _ _ _ _ _ o.plan o.decodes (sym (rw c.min-shortest.ensures at c.in_ok-o.ensures.number_is)) (sym c.kinds_known.ensures ∙ not-false _ c.if-not-kinds_known.false-raw) _ (chooses-whole (c.in_ok-o.ensures.opens _ refl) _ (omega (arith, c.min-shortest.ensures)) (λ j. omega (arith, c.shared_slice_known-3-1.given j)) _ _ c.own_masks-own.ensures (c.in_ok-o.ensures.cells_are _ refl) _ _ c.choose-c.ensures o.plan o.decodes) _ c.wide-count.ensures.0 c.if-list-count.true; lent = scratch-kept _ _ _ }

pub returns : goal.returns
unfolding Chooses Lists CellsFit modulus answer_number
returns c =
    let o = c.in_ok-o.ensures.opens _ refl in record { answer = list-made _ _ _ _ _ _ o.plan o.decodes (sym (rw c.min-shortest.ensures at c.in_ok-o.ensures.number_is)) (sym c.kinds_known.ensures ∙ not-false _ c.if-not-kinds_known.false-raw) _ (chooses-whole (c.in_ok-o.ensures.opens _ refl) _ (omega (arith, c.min-shortest.ensures)) (λ j. omega (arith, c.shared_slice_known-3-1.given j)) _ _ c.own_masks-own.ensures (c.in_ok-o.ensures.cells_are _ refl) _ _ c.choose-c.ensures o.plan o.decodes) _ c.wide-count.ensures.0 c.if-list-count.false _ (lists-whole (c.in_ok-o.ensures.opens _ refl) _ (omega (arith, c.min-shortest.ensures)) (λ j. omega (arith, c.shared_slice_known-3-1.given j)) _ _ c.own_masks-own.ensures (c.in_ok-o.ensures.cells_are _ refl) _ _ _ c.list_best.ensures o.plan o.decodes); lent = scratch-kept _ _ _ }
