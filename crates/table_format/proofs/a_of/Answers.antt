use mathlib.Core.Path.{refl}
use native.Mathlib.Omega.{arith}
use Rattle.table_format.specs.Bytes.{record_length, a_field}
use Rattle.table_format.proofs.a_of.Goals as goal

pub bounds-part-2 : goal.bounds-part-2
unfolding record_length
bounds-part-2 c =
    omega arith

pub returns : goal.returns
unfolding a_field
returns c =
    refl
