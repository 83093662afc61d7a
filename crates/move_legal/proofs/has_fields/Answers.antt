use native.Mathlib.Omega.{arith}
use Rattle.move_legal.specs.inner.Legal.{Decides}
use Rattle.move_legal.proofs.Known.{says-fields}
use Rattle.move_legal.proofs.has_fields.Goals as goal

pub returns-then-m-eq0 : goal.returns-then-m-eq0
unfolding Decides
returns-then-m-eq0 c =
    λ F. let x = F.kind-low in omega (arith, x, c.if-m-eq0.true)

pub returns-then-m-gt4 : goal.returns-then-m-gt4
unfolding Decides
returns-then-m-gt4 c =
    λ F. let x = F.kind-high in omega (arith, x, c.if-m-gt4.true)

pub returns-then-sets-m : goal.returns-then-sets-m
unfolding Decides
returns-then-sets-m c =
    λ F. let x = F.s-below in omega (arith, x, c.if-sets-m.true)

pub returns-then-t_end-m : goal.returns-then-t_end-m
unfolding Decides
returns-then-t_end-m c =
    λ F. let x = F.t-below in omega (arith, x, c.t_end.ensures, c.if-t_end-m.true)

pub returns-then-ports-m : goal.returns-then-ports-m
unfolding Decides
returns-then-ports-m c =
    λ F. let x = F.p-below in omega (arith, x, c.if-ports-m.true)

pub returns : goal.returns
returns c =
    rw c.q_end.ensures (says-fields c.args.ports c.args.sets c.args.m c.if-m-eq0.false c.if-m-gt4.false c.if-sets-m.false (omega (arith, c.t_end.ensures, c.if-t_end-m.false)) c.if-ports-m.false)
