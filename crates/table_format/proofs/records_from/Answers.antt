use mathlib.Core.Path.{refl}
use Rattle.table_format.specs.Bytes.{header_length, records_from}
use Rattle.table_format.proofs.records_from.Goals as goal

pub returns : goal.returns
unfolding records_from header_length
returns c =
    refl
