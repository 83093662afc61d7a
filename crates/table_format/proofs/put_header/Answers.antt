use mathlib.Core.Path.{◌∙◌}
use native.Mathlib.Omega.{arith}
use lib.ListN.{length-set}
use Rattle.table_format.specs.Bytes.{header_length}
use Rattle.table_format.proofs.Bytes.{header-written}
use Rattle.table_format.proofs.put_header.Goals as goal

pub bounds-table-0 : goal.bounds-table-0
unfolding header_length
bounds-table-0 c =
    omega (arith, c.requires)

pub bounds-table-1 : goal.bounds-table-1
unfolding header_length
bounds-table-1 c =
    simp length-set (omega (arith, c.requires))

pub bounds-table-2 : goal.bounds-table-2
unfolding header_length
bounds-table-2 c =
    simp length-set (omega (arith, c.requires))

pub put_word-requires : goal.put_word-requires
unfolding header_length
put_word-requires c =
    simp length-set (omega (arith, c.requires))

pub bounds-table-5 : goal.bounds-table-5
unfolding header_length
bounds-table-5 c =
    rw c.put_word.auto.out (simp length-set (omega (arith, c.requires)))

pub bounds-table-6 : goal.bounds-table-6
unfolding header_length
bounds-table-6 c =
    rw (length-set, c.put_word.auto.out) (simp length-set (omega (arith, c.requires)))

pub put_word-requires-2 : goal.put_word-requires-2
unfolding header_length
put_word-requires-2 c =
    rw (length-set, length-set, c.put_word.auto.out) (simp length-set (omega (arith, c.requires)))

pub shape_of-table : goal.shape_of-table
shape_of-table c =
    c.put_word-2.auto.out ∙ rw (length-set, length-set) (c.put_word.auto.out ∙ simp length-set)

pub returns : goal.returns
returns c =
    header-written _ _ _ _ _ _ c.put_word.ensures c.put_word-2.ensures
