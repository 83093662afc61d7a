use mathlib.Core.Path.{ap, ◌∙◌}
use Prim.Native.Nat.{◌*◌}
use native.Mathlib.Omega.{arith}
use lib.ListN.{length, drop}
use Rattle.table_format.specs.Bytes.{record_length, record_at}
use Rattle.table_format.proofs.Bytes.{length-records-of, record-fits}
use Rattle.table_format.proofs.Parts.{rest_all}
use Rattle.table_format.proofs.record_at.Goals as goal

pub records_of-records-requires : goal.records_of-records-requires
unfolding record_length
records_of-records-requires c =
    omega (arith, length-records-of c.args.table.now)

pub overflow_mul-at : goal.overflow_mul-at
unfolding record_length
overflow_mul-at c =
    omega (arith, ap length c.records_of-records.ensures, length-records-of c.args.table.now, c.requires, c.well_formed)

pub slice_bounds-result-count : goal.slice_bounds-result-count
unfolding record_length
slice_bounds-result-count c =
    omega (arith, ap length c.records_of-records.ensures, length-records-of c.args.table.now, c.requires)

pub slice_bounds-result-start : goal.slice_bounds-result-start
unfolding record_length
slice_bounds-result-start c =
    omega (arith, ap length c.records_of-records.ensures, length-records-of c.args.table.now, c.requires)

pub returns : goal.returns
unfolding record_length record_at
returns c =
    let part = rest_all (record_length * c.args.i) c.records_of-records.result.now ∙ ap (drop (record_length * c.args.i)) c.records_of-records.ensures in
    (part, rw part (record-fits c.args.table.now c.args.i c.requires))
