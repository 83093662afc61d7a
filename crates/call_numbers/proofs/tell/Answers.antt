use mathlib.Core.Path.{refl}
use native.Mathlib.Omega.{arith}
use lib.ListN.{length-set}
use Rattle.call_numbers.specs.Encoding.{ten_numbers}
use Rattle.call_numbers.proofs.Telling.{ten-set}
use Rattle.call_numbers.proofs.tell.Goals as goal

pub bounds-answer-1 : goal.bounds-answer-1
bounds-answer-1 c =
    simp length-set (omega (arith, c.requires))

pub bounds-answer-2 : goal.bounds-answer-2
bounds-answer-2 c =
    simp length-set (omega (arith, c.requires))

pub bounds-answer-3 : goal.bounds-answer-3
bounds-answer-3 c =
    simp length-set (omega (arith, c.requires))

pub bounds-answer-4 : goal.bounds-answer-4
bounds-answer-4 c =
    simp length-set (omega (arith, c.requires))

pub bounds-answer-5 : goal.bounds-answer-5
bounds-answer-5 c =
    simp length-set (omega (arith, c.requires))

pub bounds-answer-6 : goal.bounds-answer-6
bounds-answer-6 c =
    simp length-set (omega (arith, c.requires))

pub bounds-answer-7 : goal.bounds-answer-7
bounds-answer-7 c =
    simp length-set (omega (arith, c.requires))

pub bounds-answer-8 : goal.bounds-answer-8
bounds-answer-8 c =
    simp length-set (omega (arith, c.requires))

pub bounds-answer-9 : goal.bounds-answer-9
bounds-answer-9 c =
    simp length-set (omega (arith, c.requires))

pub shape_of-answer : goal.shape_of-answer
shape_of-answer c =
    simp length-set refl

pub returns : goal.returns
unfolding ten_numbers
returns c =
    ten-set c.args.answer.now c.args.number c.args.found c.args.m.kind c.args.m.s c.args.m.t c.args.m.p c.args.m.q c.args.before c.args.after c.args.changed c.requires
