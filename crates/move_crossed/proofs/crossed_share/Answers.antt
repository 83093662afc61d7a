use Rattle.std.proofs.Common.{sym, ap, ◌∙◌, arith}
use borrow.Author.Tests.{not-true}
use Rattle.cells_touch.specs.inner.Hits.{variable_bits, size_bit}
use Rattle.move_crossed.proofs.Atoms.{asked_low, both-ready, both-given, one-given}
use Rattle.move_crossed.proofs.crossed_share.Goals as goal

pub uses_at-requires : goal.uses_at-requires
uses_at-requires c =
    (asked_low _ _ _ _ _ _ _ _ _ _ _ c.requires).0

pub overflow_mul-m : goal.overflow_mul-m
overflow_mul-m c =
    omega (arith, (asked_low _ _ _ _ _ _ _ _ _ _ _ c.requires).1)

pub has_port-requires : goal.has_port-requires
has_port-requires c =
    omega (arith, (asked_low _ _ _ _ _ _ _ _ _ _ _ c.requires).1)

pub returns-then-not-has_port : goal.returns-then-not-has_port
returns-then-not-has_port c =
    one-given _ _ _ _ _ _ _ _ _ _ _ _ _ c.uses_at.ensures c.crossings.ensures (sym c.has_port.ensures ∙ not-true _ c.if-not-has_port.true-raw)

pub variable_bits-requires : goal.variable_bits-requires
variable_bits-requires c =
    omega (arith, (asked_low _ _ _ _ _ _ _ _ _ _ _ c.requires).1, c.wide-s.ensures.0)

pub size_bit-requires : goal.size_bit-requires
size_bit-requires c =
    omega (arith, (asked_low _ _ _ _ _ _ _ _ _ _ _ c.requires).1, c.wide-s.ensures.0)

pub both_ports-requires : goal.both_ports-requires
both_ports-requires c =
    both-ready _ _ _ _ _ _ _ _ _ _ _ c.requires _ _ _ _ (c.variable_bits.ensures ∙ ap variable_bits c.wide-s.ensures.0) (c.size_bit.ensures ∙ ap size_bit c.wide-s.ensures.0) c.wide.ensures.0 c.wide-2.ensures.0

pub returns : goal.returns
returns c =
    both-given _ _ _ _ _ _ _ _ _ _ _ _ _ _ _ _ (c.variable_bits.ensures ∙ ap variable_bits c.wide-s.ensures.0) (c.size_bit.ensures ∙ ap size_bit c.wide-s.ensures.0) c.wide.ensures.0 c.wide-2.ensures.0 c.both_ports.ensures
