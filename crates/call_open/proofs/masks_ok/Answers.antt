use mathlib.Core.Path.{◌≡◌, refl, sym, ap, ◌∙◌}
use Prim.Native.Nat.{ℕ, ◌-◌}
use native.Mathlib.Omega.{arith}
use lib.ListN.{get_or, take}
use borrow.Author.Tests.{not-true, not-false}
use Rattle.logic.specs.Configuration.{within_ports, all_within}
use Rattle.logic.proofs.Within.{within-next, within-fails}
use Rattle.call_open.proofs.masks_ok.Goals as goal

pub overflow_cast-u : goal.overflow_cast-u
overflow_cast-u c =
    omega (arith, c.requires.1)

pub loop-s-init : goal.loop-s-init
unfolding all_within
loop-s-init c =
    (omega arith, c.requires.0, refl, refl)

pub bounds-masks-s : goal.bounds-masks-s
bounds-masks-s c =
    omega arith

pub returns-then-not-within_ports : goal.returns-then-not-within_ports
returns-then-not-within_ports c =
    within-fails c.args.ports c.loop-s.s c.args.count c.args.masks.now (omega arith) c.loop-s.invariant.1 (ap (λ (x : ℕ). within_ports x (get_or c.args.masks.now c.loop-s.s 0)) (sym c.loop-s.invariant.2) ∙ sym c.within_ports.ensures ∙ not-true _ c.if-not-within_ports.true-raw)

pub loop-s-preserved : goal.loop-s-preserved
loop-s-preserved c =
    (omega arith, c.loop-s.invariant.1, c.loop-s.invariant.2, within-next c.args.ports c.loop-s.s c.args.masks.now (omega arith) c.loop-s.invariant.3 (ap (λ (x : ℕ). within_ports x (get_or c.args.masks.now c.loop-s.s 0)) (sym c.loop-s.invariant.2) ∙ sym c.within_ports.ensures ∙ not-false _ c.if-not-within_ports.false-raw))

pub returns : goal.returns
returns c =
    let e : c.loop-s.s ≡ c.args.count = omega arith in sym c.loop-s.invariant.3 ∙ ap (λ (m : ℕ). all_within c.args.ports (take m c.args.masks.now)) e
