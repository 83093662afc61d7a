use mathlib.Core.Path.{refl}
use native.Mathlib.Omega.{arith}
use Rattle.table_format.specs.Bytes.{record_length, relation_field}
use Rattle.table_format.proofs.relation_of.Goals as goal

pub bounds-part-1 : goal.bounds-part-1
unfolding record_length
bounds-part-1 c =
    omega arith

pub returns : goal.returns
unfolding relation_field
returns c =
    refl
