use Rattle.std.proofs.Common.{refl, arith}
use Rattle.text_names.proofs.Naming.{names-size, names-unbound, names-member, names-port}
use Rattle.text_names.proofs.names_literal.Goals as goal

pub returns-then-not-is_bound : goal.returns-then-not-is_bound
returns-then-not-is_bound c =
    rw c.if-not-is_bound.true (names-unbound _ _ _ _ _ c.is_bound.ensures (omega arith) c.if-not-is_bound.true)

pub returns-else-not-is_bound : goal.returns-else-not-is_bound
returns-else-not-is_bound c =
    names-member _ _ _ _ _ c.is_bound.ensures (omega arith) _ c.if-not-is_bound.false c.in-0.is c.undeclared.ensures

pub returns-then-not-is_bound-2 : goal.returns-then-not-is_bound-2
returns-then-not-is_bound-2 c =
    rw c.if-not-is_bound-2.true (names-unbound _ _ _ _ _ c.is_bound-in_default.ensures (omega arith) c.if-not-is_bound-2.true)

pub returns-else-not-is_bound-2 : goal.returns-else-not-is_bound-2
returns-else-not-is_bound-2 c =
    names-port _ _ _ _ _ c.is_bound-in_default.ensures (omega arith) _ _ c.if-not-is_bound-2.false (omega arith) c.is_bound-else-not-is_bound-2.ensures refl

pub returns-in-24-to-65535 : goal.returns-in-24-to-65535
returns-in-24-to-65535 c =
    names-size _ _ _ _ _ (omega arith) c.undeclared-in-24-to-65535.ensures
