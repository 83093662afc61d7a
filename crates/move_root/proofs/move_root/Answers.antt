use Rattle.std.proofs.Common.{refl}
use Rattle.std.proofs.Common.{sym, ◌∙◌, ap₂, arith}
use borrow.Author.Tests.{not-true, not-false}
use Rattle.cells_touch.specs.inner.Hits.{meets}
use Rattle.move_root.proofs.Roots.{left-tried, readable, test_below, two_cells, left-untouched, hard-ready, crossed-place, both-asked, left-touched}
use Rattle.move_root.proofs.move_root.Goals as goal

pub returns-then-tables : goal.returns-then-tables
returns-then-tables c =
    left-tried _ _ _ _ _ c.try_move-tried.ensures

pub change_of-requires : goal.change_of-requires
change_of-requires c =
    ((readable c.requires).s-low, (readable c.requires).t-low)

pub bounds-cells-0 : goal.bounds-cells-0
bounds-cells-0 c =
    omega (arith, two_cells c.requires)

pub returns-then-not-meet : goal.returns-then-not-meet
returns-then-not-meet c =
    left-untouched c.requires _ c.change_of.ensures (sym (c.meet.ensures ∙ ap₂ meets c.uses_at.ensures c.first_word.ensures) ∙ not-true _ c.if-not-meet.true-raw)

pub bounds-cells-1 : goal.bounds-cells-1
bounds-cells-1 c =
    omega (arith, two_cells c.requires)

pub mask_at-requires : goal.mask_at-requires
mask_at-requires c =
    test_below c.requires

pub move_read-requires : goal.move_read-requires
move_read-requires c =
    (readable c.requires, record { one-long = c.requires.tables-told.one-long; still-long = c.requires.tables-told.still-long }, c.requires.tables-told.joint-long)

pub hard_shares-by_list-requires : goal.hard_shares-by_list-requires
hard_shares-by_list-requires c =
    hard-ready c.requires

pub slice_bounds-both_read-count : goal.slice_bounds-both_read-count
slice_bounds-both_read-count c =
    omega (arith, crossed-place c.requires)

pub slice_bounds-both_read-start : goal.slice_bounds-both_read-start
slice_bounds-both_read-start c =
    omega (arith, crossed-place c.requires)

pub both_read-by_both-requires : goal.both_read-by_both-requires
both_read-by_both-requires c =
    both-asked c.requires c.if-tables.false

pub returns : goal.returns
returns c =
    left-touched c.requires _ c.change_of.ensures (sym (c.meet.ensures ∙ ap₂ meets c.uses_at.ensures c.first_word.ensures) ∙ not-false _ c.if-not-meet.false-raw) c.if-tables.false _ _ _ _ _ _ _ c.mask_at.ensures c.move_read.ensures refl c.hard_shares-by_list.ensures c.both_read-by_both.ensures refl refl
