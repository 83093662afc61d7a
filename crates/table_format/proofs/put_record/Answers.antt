use mathlib.Core.Path.{◌∙◌}
use native.Mathlib.Omega.{arith}
use lib.ListN.{length-set}
use Rattle.table_format.specs.Bytes.{record_length}
use Rattle.table_format.specs.inner.Written.{field_bytes}
use Rattle.table_format.proofs.Bytes.{record-written}
use Rattle.table_format.proofs.put_record.Goals as goal

pub overflow_mul-at : goal.overflow_mul-at
unfolding record_length
overflow_mul-at c =
    omega (arith, c.requires.0)

pub overflow_add-out : goal.overflow_add-out
unfolding record_length
overflow_add-out c =
    omega (arith, c.requires.0)

pub bounds-out-at : goal.bounds-out-at
unfolding record_length
bounds-out-at c =
    omega (arith, c.requires.0)

pub overflow_add-out-2 : goal.overflow_add-out-2
unfolding record_length
overflow_add-out-2 c =
    omega (arith, c.requires.0)

pub bounds-out-at-2 : goal.bounds-out-at-2
unfolding record_length
bounds-out-at-2 c =
    simp length-set (omega (arith, c.requires.0))

pub overflow_add-out-3 : goal.overflow_add-out-3
unfolding record_length
overflow_add-out-3 c =
    omega (arith, c.requires.0)

pub bounds-out-at-3 : goal.bounds-out-at-3
unfolding record_length
bounds-out-at-3 c =
    simp length-set (omega (arith, c.requires.0))

pub overflow_add-out-4 : goal.overflow_add-out-4
unfolding record_length
overflow_add-out-4 c =
    omega (arith, c.requires.0)

pub bounds-out-at-4 : goal.bounds-out-at-4
unfolding record_length
bounds-out-at-4 c =
    simp length-set (omega (arith, c.requires.0))

pub overflow_add-at : goal.overflow_add-at
unfolding record_length
overflow_add-at c =
    omega (arith, c.requires.0)

pub put_word-requires : goal.put_word-requires
unfolding record_length
put_word-requires c =
    simp length-set (omega (arith, c.requires.0))

pub overflow_add-at-2 : goal.overflow_add-at-2
unfolding record_length
overflow_add-at-2 c =
    omega (arith, c.requires.0)

pub put_word-requires-2 : goal.put_word-requires-2
unfolding record_length
put_word-requires-2 c =
    rw c.put_word.auto.out (simp length-set (omega (arith, c.requires.0)))

pub shape_of-out : goal.shape_of-out
shape_of-out c =
    c.put_word-2.auto.out ∙ (c.put_word.auto.out ∙ simp length-set)

pub returns : goal.returns
unfolding record_length field_bytes
returns c =
    record-written _ _ _ _ _ _ _ _ _ _ c.put_word.ensures c.put_word-2.ensures
