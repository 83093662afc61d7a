use mathlib.Core.Path.{◌≡◌, refl, sym, ◌∙◌}
use native.Mathlib.Omega.{arith}
use borrow.Author.Rules.{rules}
use Rattle.std.specs.Prelude.{Err}
use Rattle.logic.specs.Refusal.{answer_number}
use Rattle.logic.specs.Change.{modulus}
use Rattle.cells_walk.specs.inner.Visit.{CellsFit}
use Rattle.contracts.proofs.Scratch.{scratch-kept}
use Rattle.call_open.proofs.Opening.{shut}
use Rattle.call_open.proofs.OpenPlan.{sets-fit}
use Rattle.move_try.proofs.OpenMove.{move-ready, number_is, legal-move}
use Rattle.call_trial.proofs.Answering.{tries-trial, trial-refused, trial-made}
use Rattle.call_trial.proofs.trial.Goals as goal

pub legal-requires : goal.legal-requires
legal-requires c =
    move-ready (c.in_ok-o.ensures.opens _ refl)

pub own_masks-own-requires : goal.own_masks-own-requires
own_masks-own-requires c =
    sets-fit (c.in_ok-o.ensures.opens _ refl)

pub slice_bounds-work-end : goal.slice_bounds-work-end
slice_bounds-work-end c =
    let h = sets-fit (c.in_ok-o.ensures.opens _ refl) in omega (arith, h, c.own_masks-own.ensures)

pub try_move-requires : goal.try_move-requires
unfolding answer_number CellsFit modulus
try_move-requires c =
    record { legal-move = legal-move (c.in_ok-o.ensures.opens _ refl) (omega (arith, c.min-shortest.ensures)) (λ j. omega (arith, c.shared_slice_known-3-1.given j)) c.in_ok-legal.ensures refl; work-long = search rules }

pub returns-in_err-o : goal.returns-in_err-o
unfolding answer_number
returns-in_err-o c =
    let e : c.from_residual.result ≡ Err c.in_err-o.field-0.0 = search rules in rw e record { answer = trial-refused _ _ _ _ _ (shut (tries-trial _ _ _ _) _ (rw c.min-shortest.ensures at c.in_err-o.ensures.number_is)); lent = scratch-kept _ _ _ }

pub returns-in_err-legal : goal.returns-in_err-legal
unfolding answer_number
returns-in_err-legal c =
    let o = c.in_ok-o.ensures.opens _ refl in let e : c.from_residual-in_err-legal.result ≡ Err c.in_err-legal.field-0.0 = search rules in rw e record { answer = trial-refused _ _ _ _ _ ((tries-trial _ _ _ _).passed o.plan o.decodes (sym (rw c.min-shortest.ensures at c.in_ok-o.ensures.number_is)) ∙ sym (number_is o _ _ c.in_err-legal.ensures)); lent = scratch-kept _ _ _ }

pub returns : goal.returns
unfolding answer_number
returns c =
    let o = c.in_ok-o.ensures.opens _ refl in record { answer = rw c.accepted.ensures (trial-made _ _ _ _ o.plan o.decodes _ _ ((tries-trial _ _ _ _).passed o.plan o.decodes (sym (rw c.min-shortest.ensures at c.in_ok-o.ensures.number_is)) ∙ sym (number_is o _ _ c.in_ok-legal.ensures)) c.try_move.ensures); lent = scratch-kept _ _ _ }
