use mathlib.Core.Path.{ap}
use native.Mathlib.Omega.{arith}
use Prim.Native.Nat.{ℕ, ◌+◌, ◌*◌}
use Rattle.table_format.specs.Bytes.{header_length, record_length, records_from}
use Rattle.table_format.proofs.table_bytes.Goals as goal

pub overflow_add-result : goal.overflow_add-result
unfolding records_from header_length
overflow_add-result c =
    omega arith

pub returns : goal.returns
unfolding record_length
returns c =
    ap (λ (x : ℕ). x + record_length * c.args.nodes) c.records_from.ensures
