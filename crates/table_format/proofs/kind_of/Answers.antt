use mathlib.Core.Path.{refl}
use native.Mathlib.Omega.{arith}
use Rattle.table_format.specs.Bytes.{record_length, kind_field}
use Rattle.table_format.proofs.kind_of.Goals as goal

pub bounds-part-0 : goal.bounds-part-0
unfolding record_length
bounds-part-0 c =
    omega arith

pub returns : goal.returns
unfolding kind_field
returns c =
    refl
