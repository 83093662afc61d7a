use native.Mathlib.Omega.{arith}
use Rattle.table_format.specs.Bytes.{record_length, parent_field}
use Rattle.table_format.proofs.parent_of.Goals as goal

pub word_at-requires : goal.word_at-requires
unfolding record_length
word_at-requires c =
    omega arith

pub returns : goal.returns
unfolding parent_field
returns c =
    record { is = c.word_at.ensures.is; fits = c.word_at.ensures.fits; bytes = c.word_at.ensures.bytes }
