use native.Mathlib.Omega.{arith}
use Rattle.logic.proofs.MoveFields.{t-used, q-used, last-kind}
use Rattle.move_legal.proofs.Fitting.{says-add, says-drop, says_same, says-transfer, says-swap}
use Rattle.move_legal.proofs.fits_move.Goals as goal

pub returns-then-m-eq1 : goal.returns-then-m-eq1
returns-then-m-eq1 c =
    says-add c.args.ports c.args.sets c.args.m c.args.masks.now c.requires _ c.if-m-eq1.true c.is_in-inside.ensures

pub returns-then-m-eq2 : goal.returns-then-m-eq2
returns-then-m-eq2 c =
    says-drop c.args.ports c.args.sets c.args.m c.args.masks.now c.requires _ c.if-m-eq2.true c.is_in-inside.ensures

pub returns-then-m : goal.returns-then-m
returns-then-m c =
    says_same c.args.ports c.args.sets c.args.m c.args.masks.now c.requires c.if-m-eq3.true c.if-m.true

pub is_in-requires : goal.is_in-requires
is_in-requires c =
    omega (arith, c.requires, t-used c.args.ports c.args.sets c.args.m c.requires.fields c.if-m-eq3.true)

pub returns-then-m-eq3 : goal.returns-then-m-eq3
returns-then-m-eq3 c =
    says-transfer c.args.ports c.args.sets c.args.m c.args.masks.now c.requires _ _ _ c.if-m-eq3.true c.if-m.false c.is_in-inside.ensures c.is_in.ensures c.in_and_out.ensures

pub is_in-requires-2 : goal.is_in-requires-2
is_in-requires-2 c =
    omega (arith, c.requires, q-used c.args.ports c.args.sets c.args.m c.requires.fields (last-kind c.args.ports c.args.sets c.args.m c.requires.fields c.if-m-eq1.false c.if-m-eq2.false c.if-m-eq3.false))

pub returns : goal.returns
returns c =
    says-swap c.args.ports c.args.sets c.args.m c.args.masks.now c.requires _ _ _ c.if-m-eq1.false c.if-m-eq2.false c.if-m-eq3.false c.is_in-inside.ensures c.is_in-2.ensures c.in_and_out-2.ensures
