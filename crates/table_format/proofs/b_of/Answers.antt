use mathlib.Core.Path.{refl}
use native.Mathlib.Omega.{arith}
use Rattle.table_format.specs.Bytes.{record_length, b_field}
use Rattle.table_format.proofs.b_of.Goals as goal

pub bounds-part-3 : goal.bounds-part-3
unfolding record_length
bounds-part-3 c =
    omega arith

pub returns : goal.returns
unfolding b_field
returns c =
    refl
