use mathlib.Core.Path.{◌≡◌, refl, sym, ap, ◌∙◌}
use mathlib.Core.Bool.{Bool, cond}
use borrow.Author.Rules.{rules}
use Rattle.std.specs.Prelude.{Err}
use Rattle.journal_rules.proofs.Counting.{lent-most}
use native.Mathlib.Omega.{arith}
use Rattle.logic.specs.declared.refusal.Refusal.TheVariants.{JournalFull, JournalEmpty}
use Rattle.logic.specs.Refusal.{refusal_number, answer_number}
use Rattle.logic.specs.Change.{modulus}
use Rattle.logic.proofs.Refusals.{number-some}
use Rattle.cells_walk.specs.inner.Visit.{CellsFit}
use Rattle.call_open.proofs.Opening.{shut}
use Rattle.move_try.proofs.OpenMove.{move-ready, number_is, legal-move}
use Rattle.call_move.proofs.Answering.{tries-move, none-is-left, not-legal, by-room, move-refused, move-made}
use Rattle.call_move.proofs.move_with.Goals as goal

pub returns-in_err-o : goal.returns-in_err-o
unfolding answer_number
returns-in_err-o c =
    let e : c.from_residual.result ≡ Err c.in_err-o.field-0.0 = search rules in rw e (move-refused _ _ _ _ _ _ _ _ (shut (tries-move _ _ _ _ _ _ _) _ (rw c.cells_lent.ensures at c.in_err-o.ensures.number_is)))

pub returns-then-empty : goal.returns-then-empty
unfolding answer_number refusal_number
returns-then-empty c =
    let o = c.in_ok-o.ensures.opens _ refl in move-refused _ _ _ _ _ _ _ JournalEmpty ((tries-move _ _ _ _ _ _ _).passed o.plan o.decodes (sym (rw c.cells_lent.ensures at c.in_ok-o.ensures.number_is)) ∙ none-is-left _ _ _ _ _ c.if-empty.true)

pub legal-requires : goal.legal-requires
legal-requires c =
    move-ready (c.in_ok-o.ensures.opens _ refl)

pub returns-in_err-legal : goal.returns-in_err-legal
unfolding answer_number
returns-in_err-legal c =
    let o = c.in_ok-o.ensures.opens _ refl in let e : c.from_residual-in_err-legal.result ≡ Err c.in_err-legal.field-0.0 = search rules in rw e (move-refused _ _ _ _ _ _ _ _ ((tries-move _ _ _ _ _ _ _).passed o.plan o.decodes (sym (rw c.cells_lent.ensures at c.in_ok-o.ensures.number_is)) ∙ not-legal _ _ _ _ _ _ c.if-empty.false (number-some _) (number_is o _ _ c.in_err-legal.ensures)))

pub returns-then-full : goal.returns-then-full
unfolding answer_number refusal_number
returns-then-full c =
    let o = c.in_ok-o.ensures.opens _ refl in move-refused _ _ _ _ _ _ _ JournalFull ((tries-move _ _ _ _ _ _ _).passed o.plan o.decodes (sym (rw c.cells_lent.ensures at c.in_ok-o.ensures.number_is)) ∙ by-room _ _ _ _ _ c.if-empty.false (sym (number_is o _ _ c.in_ok-legal.ensures)) ∙ ap (λ (b : Bool). cond b 18 0) c.if-full.true)

pub carry-requires : goal.carry-requires
unfolding answer_number CellsFit modulus
carry-requires c =
    legal-move (c.in_ok-o.ensures.opens _ refl) (lent-most _ _ _ _ c.cells_lent.ensures) (λ j. omega (arith, c.slice_known-2-1.given j)) c.in_ok-legal.ensures refl

pub returns : goal.returns
unfolding answer_number
returns c =
    let o = c.in_ok-o.ensures.opens _ refl in rw c.accepted.ensures (move-made _ _ _ o.plan o.decodes _ _ _ _ _ _ _ _ ((tries-move _ _ _ _ _ _ _).passed o.plan o.decodes (sym (rw c.cells_lent.ensures at c.in_ok-o.ensures.number_is)) ∙ by-room _ _ _ _ _ c.if-empty.false (sym (number_is o _ _ c.in_ok-legal.ensures)) ∙ ap (λ (b : Bool). cond b 18 0) c.if-full.false) c.carry.ensures)
