use mathlib.Core.Path.{ap, ap₂, ◌∙◌}
use mathlib.Core.Bool.{Bool, false}
use native.Mathlib.Omega.{arith}
use Prim.Native.Nat.{ℕ}
use Rattle.logic.specs.Configuration.{in_mask}
use Rattle.logic.specs.Penalty.{literal_penalty}
use Rattle.cells_rule.specs.inner.Rule.{rule_penalty}
use Rattle.cells_walk.specs.inner.Visit.{Afresh}
use Rattle.cells_walk.proofs.Steps.{afresh-port, afresh-size, afresh-member, comparison-ready, size-ready, member-ready}
use Rattle.cells_walk.proofs.literal_after.Goals as goal

pub port_at-x-requires : goal.port_at-x-requires
port_at-x-requires c =
    (comparison-ready c.requires c.if-kind-eq7.true).0

pub port_at-y-requires : goal.port_at-y-requires
port_at-y-requires c =
    (comparison-ready c.requires c.if-kind-eq7.true).1

pub returns-then-kind-eq7 : goal.returns-then-kind-eq7
unfolding Afresh literal_penalty
returns-then-kind-eq7 c =
    λ l. afresh-port _ _ _ _ _ _ _ _ _ c.requires.settled _ c.if-kind-eq7.true
    (rw (← c.port_at-x.ensures.0, ← c.port_at-y.ensures.0) c.literal_penalty.ensures)
    l.test

pub set_size-size-requires : goal.set_size-size-requires
set_size-size-requires c =
    size-ready c.requires c.if-kind-eq8.true

pub returns-then-kind-eq8 : goal.returns-then-kind-eq8
unfolding Afresh literal_penalty
returns-then-kind-eq8 c =
    λ l. afresh-size _ _ _ _ _ _ _ _ _ c.requires.settled _ c.if-kind-eq8.true
    (c.literal_penalty-then-kind-eq8.ensures ∙ ap (λ (x : ℕ). rule_penalty c.args.kind c.args.relation false x c.args.b) c.set_size-size.ensures.0)
    l.test

pub mask_at-requires : goal.mask_at-requires
mask_at-requires c =
    let h = member-ready c.requires c.if-kind-eq7.false c.if-kind-eq8.false in omega (arith, h.1, c.requires.settled.masks-long)

pub port_at-requires : goal.port_at-requires
port_at-requires c =
    (member-ready c.requires c.if-kind-eq7.false c.if-kind-eq8.false).0

pub has_port-inside-requires : goal.has_port-inside-requires
has_port-inside-requires c =
    rw c.port_at.ensures.0 (member-ready c.requires c.if-kind-eq7.false c.if-kind-eq8.false).2

pub returns : goal.returns
unfolding Afresh literal_penalty
returns c =
    λ l. afresh-member _ _ _ _ _ _ _ _ _ c.requires.settled _ c.if-kind-eq7.false c.if-kind-eq8.false
    (c.literal_penalty-2.ensures ∙ ap (λ (x : Bool). rule_penalty c.args.kind c.args.relation x 0 0) (c.has_port-inside.ensures ∙ ap₂ in_mask c.mask_at.ensures c.port_at.ensures.0))
    l.test
