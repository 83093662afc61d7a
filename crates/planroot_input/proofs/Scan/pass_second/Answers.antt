use Rattle.planroot_input.proofs.Passing.{second_more, second-space, second-end}
use native.Mathlib.Omega.{arith}
use Rattle.planroot_input.proofs.Scan.pass_second.Goals as goal

pub returns-in-32 : goal.returns-in-32
returns-in-32 c =
    second-space _ _ _ _ _ c.in-32.is c.end_word.ensures

pub returns-in-10 : goal.returns-in-10
returns-in-10 c =
    second-end _ _ _ _ _ _ c.in-10.is c.end_word-in-10.ensures

pub returns-in_default : goal.returns-in_default
returns-in_default c =
    second_more _ _ _ _ (λ e. omega arith) (λ e. omega arith) c.add_byte.ensures
