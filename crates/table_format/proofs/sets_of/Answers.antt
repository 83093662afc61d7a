use native.Mathlib.Omega.{arith}
use Rattle.table_format.specs.Bytes.{header_length, sets_field}
use Rattle.table_format.proofs.sets_of.Goals as goal

pub bounds-table-6 : goal.bounds-table-6
unfolding header_length
bounds-table-6 c =
    omega arith

pub returns : goal.returns
unfolding sets_field
returns c =
    c.wide.ensures.0
