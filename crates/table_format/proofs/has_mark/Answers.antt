use native.Mathlib.Omega.{arith}
use Rattle.table_format.specs.Bytes.{header_length, marked}
use Rattle.table_format.proofs.has_mark.Goals as goal

pub bounds-table-0 : goal.bounds-table-0
unfolding header_length
bounds-table-0 c =
    omega arith

pub bounds-table-1 : goal.bounds-table-1
unfolding header_length
bounds-table-1 c =
    omega arith

pub bounds-table-2 : goal.bounds-table-2
unfolding header_length
bounds-table-2 c =
    omega arith

pub returns : goal.returns
unfolding marked
returns c =
    cc
