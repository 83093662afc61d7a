use mathlib.Core.Path.{◌≡◌, refl, sym, ◌∙◌}
use native.Mathlib.Omega.{arith}
use borrow.Author.Rules.{rules}
use Rattle.std.specs.Prelude.{Err}
use Rattle.logic.specs.Refusal.{answer_number}
use Rattle.logic.specs.Change.{modulus}
use Rattle.cells_walk.specs.inner.Visit.{CellsFit}
use Rattle.call_open.proofs.Opening.{shut}
use Rattle.call_test.proofs.Answering.{tries-test, port-asks, number_is, port-ready, test-refused, test-made}
use Rattle.call_test.proofs.port_test.Goals as goal

pub returns-in_err-o : goal.returns-in_err-o
unfolding answer_number
returns-in_err-o c =
    let e : c.from_residual.result ≡ Err c.in_err-o.field-0.0 = search rules in rw e (test-refused _ _ _ _ _ (shut (tries-test _ _ _ _) _ c.in_err-o.ensures.number_is))

pub port_change-requires : goal.port_change-requires
port_change-requires c =
    port-asks (c.in_ok-o.ensures.opens _ refl)

pub returns-in_err-port_change : goal.returns-in_err-port_change
unfolding answer_number
returns-in_err-port_change c =
    let o = c.in_ok-o.ensures.opens _ refl in let e : c.from_residual-in_err-port_change.result ≡ Err c.in_err-port_change.field-0.0 = search rules in rw e (test-refused _ _ _ _ _ ((tries-test _ _ _ _).passed o.plan o.decodes (sym c.in_ok-o.ensures.number_is) ∙ sym (number_is o _ _ _ c.in_err-port_change.ensures)))

pub put_port-requires : goal.put_port-requires
unfolding answer_number CellsFit modulus
put_port-requires c =
    port-ready (c.in_ok-o.ensures.opens _ refl) (λ j. omega (arith, c.slice_known-2-1.given j)) _ _ _ c.in_ok-port_change.ensures refl

pub returns : goal.returns
unfolding answer_number
returns c =
    let o = c.in_ok-o.ensures.opens _ refl in let f = sym (number_is o _ _ _ c.in_ok-port_change.ensures) in rw c.accepted.ensures (test-made _ _ _ o.plan o.decodes _ _ _ _ _ ((tries-test _ _ _ _).passed o.plan o.decodes (sym c.in_ok-o.ensures.number_is) ∙ f) f c.put_port.ensures)
