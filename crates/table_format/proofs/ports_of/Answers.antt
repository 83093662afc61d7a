use native.Mathlib.Omega.{arith}
use Rattle.table_format.specs.Bytes.{header_length, ports_field}
use Rattle.table_format.proofs.ports_of.Goals as goal

pub bounds-table-5 : goal.bounds-table-5
unfolding header_length
bounds-table-5 c =
    omega arith

pub returns : goal.returns
unfolding ports_field
returns c =
    c.wide.ensures.0
