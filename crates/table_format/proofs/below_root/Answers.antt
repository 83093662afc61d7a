use mathlib.Core.Path.{ap}
use mathlib.Core.List.{List}
use Prim.Native.Nat.{ℕ, ◌-◌, ◌*◌}
use native.Mathlib.Omega.{arith}
use lib.ListN.{length, take, drop}
use Rattle.table_format.specs.Bytes.{record_length}
use Rattle.table_format.proofs.Bytes.{length-records-of}
use Rattle.table_format.proofs.below_root.Goals as goal

pub slice_bounds-result-end : goal.slice_bounds-result-end
unfolding record_length
slice_bounds-result-end c =
    omega (arith, ap length c.records_of-records.ensures, length-records-of c.args.table.now, c.requires.2)

pub returns : goal.returns
unfolding record_length
returns c =
    ap (λ (l : List ℕ). take (record_length * c.args.nodes - record_length) (drop record_length l)) c.records_of-records.ensures
