use Prim.Native.Nat.{◌-◌}
use Rattle.logic.specs.Configuration.{in_mask}
use Rattle.cells_rule.specs.inner.Rule.{rule_penalty}
use Rattle.cells_row.specs.inner.Row.{row_of}
use Rattle.cells_flip.proofs.Literals.{own_row, other_row}
use Rattle.cells_flip.proofs.member_row.Goals as goal

pub returns-then-v-own : goal.returns-then-v-own
unfolding row_of
returns-then-v-own c =
    own_row c.args.count _ _ _ _ (λ p. rule_penalty (11 - c.args.kind) 0 (in_mask c.args.mask p) 0 0) _ c.if-v-own.true c.put_members.ensures

pub has_port-inside-requires : goal.has_port-inside-requires
has_port-inside-requires c =
    rw c.port_at.ensures.0 (c.requires.4 c.if-v-own.false)

pub returns : goal.returns
returns c =
    other_row _ _ _ _ _ (λ p. rule_penalty (11 - c.args.kind) 0 (in_mask c.args.mask p) 0 0) _ c.if-v-own.false (rw (c.literal_penalty.ensures, c.has_port-inside.ensures, c.port_at.ensures.0) at c.fill_row.ensures)
