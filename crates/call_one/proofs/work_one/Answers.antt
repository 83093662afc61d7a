use mathlib.Core.Path.{ap, ◌∙◌, sym, refl}
use Prim.Native.Nat.{◌-◌}
use native.Mathlib.Omega.{arith}
use Rattle.logic.specs.declared.Move.{Move}
use Rattle.call_numbers.specs.Encoding.{tag, move_of, kinds_of, cells_lent, records_lent}
use Rattle.call_one.proofs.Lending.{part-lent}
use Rattle.call_one.proofs.OneCall.{one-move, one-trial, one-improve, one-best, one-undo, one-test, none_over}
use Rattle.call_numbers.proofs.Tags.{test-tag, no-test-tag}
use Rattle.call_one.proofs.work_one.Goals as goal

pub returns-then-tag-eq1 : goal.returns-then-tag-eq1
unfolding tag
returns-then-tag-eq1 c =
    one-move _ _ _ _ _ _ _ _ _ _ _ _ _ _ _ refl c.if-tag-eq1.true c.move_of-m.ensures c.make_move.ensures c.tell_moved.ensures

pub returns-then-tag-eq5 : goal.returns-then-tag-eq5
unfolding tag
returns-then-tag-eq5 c =
    one-undo _ _ _ _ _ _ _ _ _ _ _ _ _ _ _ refl c.if-tag-eq5.true c.undo.ensures c.tell_moved-then-tag-eq5.ensures

pub returns-then-is_test : goal.returns-then-is_test
unfolding tag move_of
returns-then-is_test c =
    one-test _ _ _ _ _ _ _ _ _ _ _ _ _ _ _ _ refl (test-tag _ (sym c.is_test.ensures ∙ c.if-is_test.true)) (ap (λ (m : Move). m.p) c.move_of-m.ensures) c.port_test.ensures c.tell_moved-then-is_test.ensures

pub returns : goal.returns
unfolding tag
returns c =
    none_over _ _ _ _ _ _ _ _ _ record { no_move = c.if-tag-eq1.false; no-trial = c.if-tag-eq2.false; no-improve = c.if-tag-eq3.false; no-best = c.if-tag-eq4.false; no-undo = c.if-tag-eq5.false; no_test = no-test-tag _ (sym c.is_test.ensures ∙ c.if-is_test.false) }

pub returns-then-tag-eq2 : goal.returns-then-tag-eq2
unfolding tag cells_lent
returns-then-tag-eq2 c =
    one-trial _ _ _ _ _ _ _ _ _ _ _ (c.min-lent.result - 0) (part-lent c.args.scratch.now _ c.wide.result c.min-lent.result c.wide.ensures.0 c.min-lent.ensures) _ _ _ _ refl c.if-tag-eq2.true c.move_of-m.ensures c.trial.ensures.answer c.trial.ensures.lent c.tell_moved-then-tag-eq2.ensures

pub returns-then-tag-eq3 : goal.returns-then-tag-eq3
unfolding tag cells_lent kinds_of move_of
returns-then-tag-eq3 c =
    one-improve _ _ _ _ _ _ _ _ _ _ _ (c.min-lent.result - 0) (part-lent c.args.scratch.now _ c.wide.result c.min-lent.result c.wide.ensures.0 c.min-lent.ensures) _ _ (ap (λ (m : Move). m.kind) c.move_of-m.ensures) _ _ _ _ c.chosen_of-chosen.ensures refl c.if-tag-eq3.true c.improve-a.ensures.answer c.improve-a.ensures.lent c.tell_improved.ensures

pub returns-then-tag-eq4 : goal.returns-then-tag-eq4
unfolding tag cells_lent records_lent kinds_of move_of
returns-then-tag-eq4 c =
    one-best _ _ _ _ _ _ _ _ _ _ _ (c.min-lent.result - 0) (part-lent c.args.scratch.now _ c.wide.result c.min-lent.result c.wide.ensures.0 c.min-lent.ensures) _ _ (ap (λ (m : Move). m.kind) c.move_of-m.ensures) _ (c.min-listed.result - 0) (part-lent c.args.list.now _ c.wide-then-tag-eq4.result c.min-listed.result (c.wide-then-tag-eq4.ensures.0 ∙ ap (λ (m : Move). m.s) c.move_of-m.ensures) c.min-listed.ensures) (omega (arith, c.min-listed.ensures)) _ c.best_moves.auto.list _ refl c.if-tag-eq4.true c.best_moves.ensures.answer c.best_moves.ensures.lent c.tell_counted.ensures
