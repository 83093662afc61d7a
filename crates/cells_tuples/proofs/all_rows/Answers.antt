use Rattle.std.proofs.Common.{◌-◌, refl, arith}
use Rattle.cells_tuples.proofs.Rows.{rows_none, outer-two, row_low, row-ready, rows_next, rows_all}
use Rattle.cells_tuples.proofs.all_rows.Goals as goal

pub outer_count-count-requires : goal.outer_count-count-requires
outer_count-count-requires c =
    (outer-two _ _ _ _ _ _ _ _ _ _ _ _ _ c.requires, c.requires.settled.masks-settled.ports64)

pub loop-number-init : goal.loop-number-init
loop-number-init c =
    (omega arith, refl, rows_none _ _ _ _ _ _ _ _ _ _ _ _ _ (λ x. omega (arith, c.slice_known-1.given x)))

pub outer_digits-digits-requires : goal.outer_digits-digits-requires
outer_digits-digits-requires c =
    (outer-two _ _ _ _ _ _ _ _ _ _ _ _ _ c.requires, c.requires.settled.masks-settled.ports1, c.requires.settled.masks-settled.ports64, omega (arith, c.outer_count-count.ensures))

pub overflow_mul-number : goal.overflow_mul-number
overflow_mul-number c =
    let h = row_low _ _ _ _ _ _ _ _ _ _ _ _ _ c.requires c.loop-number.number (omega (arith, c.outer_count-count.ensures)) in omega (arith, h)

pub row_ports-more-requires : goal.row_ports-more-requires
row_ports-more-requires c =
    row-ready _ _ _ _ _ _ _ _ _ _ _ _ _ _ (omega (arith, c.outer_count-count.ensures)) c.outer_digits-digits.ensures _ _ c.requires (omega (arith, c.loop-number.invariant.1, c.requires.room))

pub loop-number-preserved : goal.loop-number-preserved
loop-number-preserved c =
    (omega arith, omega (arith, c.loop-number.invariant.1, c.row_ports-more.auto.out), rows_next _ _ _ _ _ _ _ _ _ _ _ _ _ _ (omega (arith, c.outer_count-count.ensures)) c.outer_digits-digits.ensures _ _ _ _ _ _ c.loop-number.invariant.2 c.row_ports-more.ensures refl)

pub shape_of-out : goal.shape_of-out
shape_of-out c =
    omega (arith, c.loop-number.invariant.1)

pub returns : goal.returns
returns c =
    rows_all _ _ _ _ _ _ _ _ _ _ _ _ _ _ _ _ (omega (arith, c.outer_count-count.ensures)) c.loop-number.invariant.2
