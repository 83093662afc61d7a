use mathlib.Core.Path.{ap, ◌∙◌}
use Prim.Native.Nat.{ℕ}
use native.Mathlib.Omega.{arith}
use lib.ListN.{drop}
use Rattle.table_format.specs.Bytes.{records_from, records_of, sets_field}
use Rattle.table_format.proofs.Bytes.{header-within}
use Rattle.table_format.proofs.Parts.{rest_all}
use Rattle.table_format.proofs.records_of.Goals as goal

pub sets_of-requires : goal.sets_of-requires
sets_of-requires c =
    omega (arith, header-within (sets_field c.args.table.now))

pub slice_bounds-result-count : goal.slice_bounds-result-count
slice_bounds-result-count c =
    omega (arith, c.records_from-from.ensures ∙ ap records_from c.sets_of.ensures)

pub slice_bounds-result-start : goal.slice_bounds-result-start
slice_bounds-result-start c =
    omega (arith, c.records_from-from.ensures ∙ ap records_from c.sets_of.ensures)

pub returns : goal.returns
unfolding records_of
returns c =
    rest_all c.records_from-from.result c.args.table.now
    ∙ ap (λ (x : ℕ). drop x c.args.table.now) (c.records_from-from.ensures ∙ ap records_from c.sets_of.ensures)
