use mathlib.Core.Path.{refl}
use native.Mathlib.Omega.{arith}
use Rattle.cells_runs.proofs.Digits.{digit-stays, digit-goes}
use Rattle.cells_runs.proofs.next_digit.Goals as goal

pub returns-then-d-gt1 : goal.returns-then-d-gt1
returns-then-d-gt1 c =
    λ t h. digit-stays _ _ t _ _ c.if-d-gt1.true refl (omega arith) h

pub returns-else-d-gt1 : goal.returns-else-d-gt1
returns-else-d-gt1 c =
    λ t h. digit-goes _ _ t _ _ (omega arith) c.next_port.ensures refl h
