use Rattle.std.proofs.Common.{◌-◌, sym, refl, ◌∙◌, subst, arith}
use borrow.Author.Tests.{not-true, not-false}
use Rattle.cells_visit.proofs.Walking.{node-low, cell_room, record-room, place-low, times-fits, literal-ready, touched-ready, quantifier-ready, child-low, ports-ready, trees-ready, gives-untouched, gives-literal, quantifier-gives, gives-trees, some_left, onward-first, onward-next, onward-last}
use Rattle.cells_visit.proofs.Rowing.{port-ready, first-ready, row_low, row-fits-64, digits-ready, row_within, part_room, part-old, copy-old, port-gives, gives-literal-row, gives-joint-row, row-trees-ready, row-cells-ready, row-start, row_step, row-finished, joins-kept, joins-row, any-row, pair_of, first-low, second-low, child-row, some-child-row, row-quantifier-gives, pair-first, pair-next, pair-only, pair-second, pair-last, row-left, again, by_rows, rows-onward-first, rows-onward-next, rows-onward-last}
use Rattle.cells_sum.specs.declared.Sum.{Sum}
use Rattle.cells_sum.specs.inner.Walk.{Joined}
use Rattle.cells_try.proofs.+walk.Goals as goal
use Rattle.cells_try.proofs.+walk.Goals.{trees_after-then-touched_at, trees_after-else-touched_at}

pub all_ports_after-cell_at-old-requires : goal.all_ports_after-cell_at-old-requires
all_ports_after-cell_at-old-requires t c =
    (node-low _ _ _ _ _ _ _ _ _ _ _ _ _ _ c.requires.cell.begins, cell_room _ _ _ _ _ _ _ _ _ _ _ _ _ _ c.requires.cell.begins)

pub all_ports_after-adds_at-add-requires : goal.all_ports_after-adds_at-add-requires
all_ports_after-adds_at-add-requires t c =
    record-room _ _ _ _ _ _ _ _ _ _ _ _ _ _ c.requires.cell.begins

pub all_ports_after-overflow_mul-row : goal.all_ports_after-overflow_mul-row
all_ports_after-overflow_mul-row t c =
    record { fits = times-fits _ _ (place-low _ _ _ _ _ _ _ _ _ _ _ _ _ _ c.requires.cell.begins) }

pub all_ports_after-overflow_add-i : goal.all_ports_after-overflow_add-i
all_ports_after-overflow_add-i t c =
    omega (arith, child-low _ _ _ _ _ _ _ _ _ _ _ _ _ _ c.requires)

pub all_ports_after-row_at-requires : goal.all_ports_after-row_at-requires
all_ports_after-row_at-requires t c =
    (child-low _ _ _ _ _ _ _ _ _ _ _ _ _ _ c.requires, row_low _ _ _ _ _ _ _ _ _ _ _ _ _ _ _ (some-child-row _ _ _ _ _ _ _ _ _ _ _ _ _ _ c.requires), omega (arith, row_within _ _ _ _ _ _ _ _ _ _ _ _ _ _ _ (some-child-row _ _ _ _ _ _ _ _ _ _ _ _ _ _ c.requires) _ refl))

pub all_ports_after-copy_row-requires : goal.all_ports_after-copy_row-requires
all_ports_after-copy_row-requires t c =
    (part_room _ _ _ _ _ _ _ _ _ _ _ _ _ _ _ (some-child-row _ _ _ _ _ _ _ _ _ _ _ _ _ _ c.requires) _ _ refl c.row_at.ensures, c.requires.cell.begins.ready.masks-settled.ports64)

pub all_ports_after-overflow_add-i-2 : goal.all_ports_after-overflow_add-i-2
all_ports_after-overflow_add-i-2 t c =
    omega (arith, child-low _ _ _ _ _ _ _ _ _ _ _ _ _ _ c.requires)

pub all_ports_after-row_after-changed-requires : goal.all_ports_after-row_after-changed-requires
all_ports_after-row_after-changed-requires t c =
    (omega (arith, c.decreases, child-low _ _ _ _ _ _ _ _ _ _ _ _ _ _ c.requires), child-row _ _ _ _ _ _ _ _ _ _ _ _ _ _ c.requires _ c.requires.cell.begins.ready.masks-settled.ports64)

pub all_ports_after-row_outcome-requires : goal.all_ports_after-row_outcome-requires
all_ports_after-row_outcome-requires t c =
    (omega (arith, c.row_after-changed.auto.out, c.requires.cell.begins.ready.masks-settled.ports64), omega (arith, c.copy_row.auto.out, c.requires.cell.begins.ready.masks-settled.ports64))

pub all_ports_after-returns : goal.all_ports_after-returns
all_ports_after-returns t c =
    row-quantifier-gives _ _ _ _ _ _ _ _ _ _ _ _ _ _ c.requires _ _ _ _ _ _ c.cell_at-old.ensures c.adds_at-add.ensures (copy-old _ _ _ _ _ _ _ _ (part-old _ _ _ _ _ _ _ refl c.row_at.ensures) c.copy_row.ensures) c.row_after-changed.ensures c.row_outcome.ensures

pub cell_after-cell_at-old-requires : goal.cell_after-cell_at-old-requires
cell_after-cell_at-old-requires t c =
    (node-low _ _ _ _ _ _ _ _ _ _ _ _ _ _ c.requires, cell_room _ _ _ _ _ _ _ _ _ _ _ _ _ _ c.requires)

pub cell_after-touched_at-requires : goal.cell_after-touched_at-requires
cell_after-touched_at-requires t c =
    node-low _ _ _ _ _ _ _ _ _ _ _ _ _ _ c.requires

pub cell_after-kept-requires : goal.cell_after-kept-requires
cell_after-kept-requires t c =
    (node-low _ _ _ _ _ _ _ _ _ _ _ _ _ _ c.requires, cell_room _ _ _ _ _ _ _ _ _ _ _ _ _ _ c.requires)

pub cell_after-returns-then-not-touched_at : goal.cell_after-returns-then-not-touched_at
cell_after-returns-then-not-touched_at t c =
    gives-untouched _ _ _ _ _ _ _ _ _ _ _ _ _ _ _ _ c.kept.ensures.0 refl _ (sym c.touched_at.ensures ∙ not-true _ c.if-not-touched_at.true-raw) refl c.kept.ensures.1 c.kept.ensures.2

pub cell_after-kind_at-kind-requires : goal.cell_after-kind_at-kind-requires
cell_after-kind_at-kind-requires t c =
    record-room _ _ _ _ _ _ _ _ _ _ _ _ _ _ c.requires

pub cell_after-literal_outcome-requires : goal.cell_after-literal_outcome-requires
cell_after-literal_outcome-requires t c =
    literal-ready _ _ _ _ _ _ _ _ _ _ _ _ _ _ c.requires _ c.kind_at-kind.ensures c.if-kind-ge5.true

pub cell_after-returns-then-kind-ge5 : goal.cell_after-returns-then-kind-ge5
cell_after-returns-then-kind-ge5 t c =
    gives-literal _ _ _ _ _ _ _ _ _ _ _ _ _ _ _ _ c.cell_at-old.ensures refl _ (sym c.touched_at.ensures ∙ not-false _ c.if-not-touched_at.false-raw) c.kind_at-kind.ensures _ _ c.if-kind-ge5.true c.literal_outcome.ensures.0 (c.literal_outcome.ensures.1, refl, c.literal_outcome.ensures.2)

pub cell_after-ports_after-requires : goal.cell_after-ports_after-requires
cell_after-ports_after-requires t c =
    (omega (arith, c.decreases), quantifier-ready _ _ _ _ _ _ _ _ _ _ _ _ _ _ c.requires _ _ _ refl c.touched_at.ensures (not-false _ c.if-not-touched_at.false-raw) c.kind_at-kind.ensures (sym c.is_quantifier.ensures ∙ c.if-is_quantifier.true))

pub cell_after-returns-then-is_quantifier : goal.cell_after-returns-then-is_quantifier
cell_after-returns-then-is_quantifier t c =
    c.ports_after.ensures

pub cell_after-overflow_add-i : goal.cell_after-overflow_add-i
cell_after-overflow_add-i t c =
    omega (arith, node-low _ _ _ _ _ _ _ _ _ _ _ _ _ _ c.requires)

pub cell_after-end_at-requires : goal.cell_after-end_at-requires
cell_after-end_at-requires t c =
    node-low _ _ _ _ _ _ _ _ _ _ _ _ _ _ c.requires

pub cell_after-trees_after-r-requires : goal.cell_after-trees_after-r-requires
cell_after-trees_after-r-requires t c =
    (omega (arith, c.decreases, node-low _ _ _ _ _ _ _ _ _ _ _ _ _ _ c.requires), trees-ready _ _ _ _ _ _ _ _ _ _ _ _ _ _ c.requires _ _ _ _ c.kind_at-kind.ensures c.begin.ensures _ c.end_at.ensures c.if-kind-ge5.false (sym c.is_quantifier.ensures ∙ c.if-is_quantifier.false))

pub cell_after-returns : goal.cell_after-returns
cell_after-returns t c =
    gives-trees _ _ _ _ _ _ _ _ _ _ _ _ _ _ _ _ c.cell_at-old.ensures refl _ (sym c.touched_at.ensures ∙ not-false _ c.if-not-touched_at.false-raw) c.kind_at-kind.ensures _ _ _ _ c.adds_of-add.ensures c.begin.ensures c.outcome.ensures _ c.end_at.ensures c.if-kind-ge5.false (sym c.is_quantifier.ensures ∙ c.if-is_quantifier.false) c.trees_after-r.ensures

pub pair_after-overflow_add-depth : goal.pair_after-overflow_add-depth
pair_after-overflow_add-depth t c =
    omega (arith, c.requires.ports.visit.depth)

pub pair_after-overflow_add-row : goal.pair_after-overflow_add-row
pair_after-overflow_add-row t c =
    record { fits = row-fits-64 _ _ _ _ _ _ _ _ _ _ _ _ _ _ _ (any-row _ _ _ _ _ _ _ _ _ _ _ _ _ _ _ c.requires.ports) _ (first-low _ _ _ _ _ _ _ _ _ _ _ _ _ _ _ c.requires _ _ refl refl) }

pub pair_after-with_port-requires : goal.pair_after-with_port-requires
pair_after-with_port-requires t c =
    digits-ready _ _ _ _ _ _ _ _ _ _ _ _ _ _ _ (any-row _ _ _ _ _ _ _ _ _ _ _ _ _ _ _ c.requires.ports) _ (first-low _ _ _ _ _ _ _ _ _ _ _ _ _ _ _ c.requires _ _ refl refl)

pub pair_after-cell_after-first-requires : goal.pair_after-cell_after-first-requires
pair_after-cell_after-first-requires t c =
    (omega (arith, c.decreases), port-ready _ _ _ _ _ _ _ _ _ _ _ _ _ _ _ (any-row _ _ _ _ _ _ _ _ _ _ _ _ _ _ _ c.requires.ports) _ _ _ (first-low _ _ _ _ _ _ _ _ _ _ _ _ _ _ _ c.requires _ _ refl refl) c.with_port.ensures c.port_word.ensures)

pub pair_after-returns-then-q-p : goal.pair_after-returns-then-q-p
pair_after-returns-then-q-p t c =
    pair-only _ _ _ _ _ _ _ _ _ _ _ _ _ _ _ c.requires _ _ refl refl _ c.if-q-p.true (pair-next _ _ _ _ _ _ _ _ _ _ _ _ _ _ _ _ _ _ _ (pair-first _ _ _ _ _ _ _ _ _ _ _ _ _ _ _ c.requires _ _ refl refl) (port-gives _ _ _ _ _ _ _ _ _ _ _ _ _ _ _ _ _ _ (first-low _ _ _ _ _ _ _ _ _ _ _ _ _ _ _ c.requires _ _ refl refl) c.with_port.ensures c.port_word.ensures c.cell_after-first.ensures) c.join-sum.ensures)

pub pair_after-overflow_add-depth-2 : goal.pair_after-overflow_add-depth-2
pair_after-overflow_add-depth-2 t c =
    omega (arith, c.requires.ports.visit.depth)

pub pair_after-overflow_add-row-2 : goal.pair_after-overflow_add-row-2
pair_after-overflow_add-row-2 t c =
    record { fits = row-fits-64 _ _ _ _ _ _ _ _ _ _ _ _ _ _ _ (any-row _ _ _ _ _ _ _ _ _ _ _ _ _ _ _ c.requires.ports) _ (second-low _ _ _ _ _ _ _ _ _ _ _ _ _ _ _ c.requires _ _ refl refl) }

pub pair_after-with_port-requires-2 : goal.pair_after-with_port-requires-2
pair_after-with_port-requires-2 t c =
    digits-ready _ _ _ _ _ _ _ _ _ _ _ _ _ _ _ (any-row _ _ _ _ _ _ _ _ _ _ _ _ _ _ _ c.requires.ports) _ (second-low _ _ _ _ _ _ _ _ _ _ _ _ _ _ _ c.requires _ _ refl refl)

pub pair_after-cell_after-second-requires : goal.pair_after-cell_after-second-requires
pair_after-cell_after-second-requires t c =
    (omega (arith, c.decreases), port-ready _ _ _ _ _ _ _ _ _ _ _ _ _ _ _ (any-row _ _ _ _ _ _ _ _ _ _ _ _ _ _ _ c.requires.ports) _ _ _ (second-low _ _ _ _ _ _ _ _ _ _ _ _ _ _ _ c.requires _ _ refl refl) c.with_port-2.ensures c.port_word-2.ensures)

pub pair_after-returns : goal.pair_after-returns
pair_after-returns t c =
    pair-last _ _ _ _ _ _ _ _ _ _ _ _ _ _ _ c.requires _ _ refl refl _ c.if-q-p.false (pair-next _ _ _ _ _ _ _ _ _ _ _ _ _ _ _ _ _ _ _ (pair-second _ _ _ _ _ _ _ _ _ _ _ _ _ _ _ c.requires _ _ refl refl _ c.if-q-p.false (pair-next _ _ _ _ _ _ _ _ _ _ _ _ _ _ _ _ _ _ _ (pair-first _ _ _ _ _ _ _ _ _ _ _ _ _ _ _ c.requires _ _ refl refl) (port-gives _ _ _ _ _ _ _ _ _ _ _ _ _ _ _ _ _ _ (first-low _ _ _ _ _ _ _ _ _ _ _ _ _ _ _ c.requires _ _ refl refl) c.with_port.ensures c.port_word.ensures c.cell_after-first.ensures) c.join-sum.ensures)) (port-gives _ _ _ _ _ _ _ _ _ _ _ _ _ _ _ _ _ _ (second-low _ _ _ _ _ _ _ _ _ _ _ _ _ _ _ c.requires _ _ refl refl) c.with_port-2.ensures c.port_word-2.ensures c.cell_after-second.ensures) c.join.ensures)

pub ports_after-adds_at-requires : goal.ports_after-adds_at-requires
ports_after-adds_at-requires t c =
    record-room _ _ _ _ _ _ _ _ _ _ _ _ _ _ c.requires.cell.begins

pub ports_after-all_ports_after-requires : goal.ports_after-all_ports_after-requires
ports_after-all_ports_after-requires t c =
    (omega (arith, c.decreases), c.requires)

pub ports_after-returns-then-not-adds_at : goal.ports_after-returns-then-not-adds_at
ports_after-returns-then-not-adds_at t c =
    c.all_ports_after.ensures

pub ports_after-overflow_add-i : goal.ports_after-overflow_add-i
ports_after-overflow_add-i t c =
    omega (arith, child-low _ _ _ _ _ _ _ _ _ _ _ _ _ _ c.requires)

pub ports_after-every_at-requires : goal.ports_after-every_at-requires
ports_after-every_at-requires t c =
    child-low _ _ _ _ _ _ _ _ _ _ _ _ _ _ c.requires

pub ports_after-all_ports_after-requires-then-every_at : goal.ports_after-all_ports_after-requires-then-every_at
ports_after-all_ports_after-requires-then-every_at t c =
    (omega (arith, c.decreases), c.requires)

pub ports_after-returns-then-every_at : goal.ports_after-returns-then-every_at
ports_after-returns-then-every_at t c =
    c.all_ports_after-then-every_at.ensures

pub ports_after-cell_at-old-requires : goal.ports_after-cell_at-old-requires
ports_after-cell_at-old-requires t c =
    (node-low _ _ _ _ _ _ _ _ _ _ _ _ _ _ c.requires.cell.begins, cell_room _ _ _ _ _ _ _ _ _ _ _ _ _ _ c.requires.cell.begins)

pub ports_after-overflow_add-i-2 : goal.ports_after-overflow_add-i-2
ports_after-overflow_add-i-2 t c =
    omega (arith, child-low _ _ _ _ _ _ _ _ _ _ _ _ _ _ c.requires)

pub ports_after-overflow_mul-place : goal.ports_after-overflow_mul-place
ports_after-overflow_mul-place t c =
    record { fits = times-fits _ _ (place-low _ _ _ _ _ _ _ _ _ _ _ _ _ _ c.requires.cell.begins) }

pub ports_after-pair_after-r-requires : goal.ports_after-pair_after-r-requires
ports_after-pair_after-r-requires t c =
    (omega (arith, c.decreases, child-low _ _ _ _ _ _ _ _ _ _ _ _ _ _ c.requires), pair_of _ _ _ _ _ _ _ _ _ _ _ _ _ _ _ _ _ _ (ports-ready _ _ _ _ _ _ _ _ _ _ _ _ _ _ c.requires _ _ _ c.cell_at-old.ensures c.begin.ensures) refl refl c.every_at.ensures c.if-every_at.false)

pub ports_after-returns : goal.ports_after-returns
ports_after-returns t c =
    quantifier-gives _ _ _ _ _ _ _ _ _ _ _ _ _ _ c.requires _ _ _ _ _ _ c.cell_at-old.ensures refl (sym (not-false _ c.if-not-adds_at.false-raw) ∙ c.adds_at.ensures) c.begin.ensures c.outcome.ensures c.pair_after-r.ensures

pub row_after-row_at-old-requires : goal.row_after-row_at-old-requires
row_after-row_at-old-requires t c =
    (node-low _ _ _ _ _ _ _ _ _ _ _ _ _ _ (first-ready _ _ _ _ _ _ _ _ _ _ _ _ _ _ _ c.requires), row_low _ _ _ _ _ _ _ _ _ _ _ _ _ _ _ c.requires, omega (arith, row_within _ _ _ _ _ _ _ _ _ _ _ _ _ _ _ c.requires _ refl))

pub row_after-kind_at-kind-requires : goal.row_after-kind_at-kind-requires
row_after-kind_at-kind-requires t c =
    record-room _ _ _ _ _ _ _ _ _ _ _ _ _ _ (first-ready _ _ _ _ _ _ _ _ _ _ _ _ _ _ _ c.requires)

pub row_after-every_at-every-requires : goal.row_after-every_at-every-requires
row_after-every_at-every-requires t c =
    node-low _ _ _ _ _ _ _ _ _ _ _ _ _ _ (first-ready _ _ _ _ _ _ _ _ _ _ _ _ _ _ _ c.requires)

pub row_after-copy_row-requires : goal.row_after-copy_row-requires
row_after-copy_row-requires t c =
    (part_room _ _ _ _ _ _ _ _ _ _ _ _ _ _ _ c.requires _ _ refl c.row_at-old.ensures, c.requires.room)

pub row_after-row_cells_after-requires : goal.row_after-row_cells_after-requires
row_after-row_cells_after-requires t c =
    (omega (arith, c.decreases), row-cells-ready _ _ _ _ _ _ _ _ _ _ _ _ _ _ _ _ c.requires _ (part-old _ _ _ _ _ _ _ refl c.row_at-old.ensures) _ _ _ refl refl c.every_at-every.ensures omega (arith, c.copy_row.auto.out, c.requires.room) c.copy_row.ensures)

pub row_after-returns-then-by_cells : goal.row_after-returns-then-by_cells
row_after-returns-then-by_cells t c =
    c.row_cells_after.ensures

pub row_after-overflow_add-depth : goal.row_after-overflow_add-depth
row_after-overflow_add-depth t c =
    omega (arith, c.requires.visit.depth)

pub row_after-literal_at-value-requires : goal.row_after-literal_at-value-requires
row_after-literal_at-value-requires t c =
    literal-ready _ _ _ _ _ _ _ _ _ _ _ _ _ _ (first-ready _ _ _ _ _ _ _ _ _ _ _ _ _ _ _ c.requires) _ c.kind_at-kind.ensures c.if-kind-ge5.true

pub row_after-fill_row-requires : goal.row_after-fill_row-requires
row_after-fill_row-requires t c =
    c.requires.room

pub row_after-count_row-requires : goal.row_after-count_row-requires
row_after-count_row-requires t c =
    (omega (arith, c.fill_row.auto.out, c.requires.room), part_room _ _ _ _ _ _ _ _ _ _ _ _ _ _ _ c.requires _ _ refl c.row_at-old.ensures)

pub row_after-returns-then-kind-ge5 : goal.row_after-returns-then-kind-ge5
row_after-returns-then-kind-ge5 t c =
    gives-literal-row _ _ _ _ _ _ _ _ _ _ _ _ _ _ _ _ _ _ _ _ (part-old _ _ _ _ _ _ _ refl c.row_at-old.ensures) c.kind_at-kind.ensures refl refl c.every_at-every.ensures (by_rows c.every_at-every.result c.kind_at-kind.result _ c.by_cells.ensures c.if-by_cells.false).0 _ _ _ c.if-kind-ge5.true c.literal_at-value.ensures c.fill_row.ensures c.count_row.ensures

pub row_after-begin_row-requires : goal.row_after-begin_row-requires
row_after-begin_row-requires t c =
    (part_room _ _ _ _ _ _ _ _ _ _ _ _ _ _ _ c.requires _ _ refl c.row_at-old.ensures, c.requires.room)

pub row_after-overflow_add-i : goal.row_after-overflow_add-i
row_after-overflow_add-i t c =
    omega (arith, node-low _ _ _ _ _ _ _ _ _ _ _ _ _ _ (first-ready _ _ _ _ _ _ _ _ _ _ _ _ _ _ _ c.requires))

pub row_after-end_at-requires : goal.row_after-end_at-requires
row_after-end_at-requires t c =
    node-low _ _ _ _ _ _ _ _ _ _ _ _ _ _ (first-ready _ _ _ _ _ _ _ _ _ _ _ _ _ _ _ c.requires)

pub row_after-row_trees_after-changed-requires : goal.row_after-row_trees_after-changed-requires
row_after-row_trees_after-changed-requires t c =
    (omega (arith, c.decreases, node-low _ _ _ _ _ _ _ _ _ _ _ _ _ _ (first-ready _ _ _ _ _ _ _ _ _ _ _ _ _ _ _ c.requires)), row-trees-ready _ _ _ _ _ _ _ _ _ _ _ _ _ _ _ _ c.requires _ _ _ _ (part-old _ _ _ _ _ _ _ refl c.row_at-old.ensures) c.kind_at-kind.ensures c.if-kind-ge5.false (by_rows c.every_at-every.result c.kind_at-kind.result _ c.by_cells.ensures c.if-by_cells.false).1 c.end_at.ensures omega (arith, c.begin_row.auto.out, c.requires.room) c.begin_row.ensures)

pub row_after-count_row-requires-2 : goal.row_after-count_row-requires-2
row_after-count_row-requires-2 t c =
    (omega (arith, c.row_trees_after-changed.auto.out, c.begin_row.auto.out, c.requires.room), part_room _ _ _ _ _ _ _ _ _ _ _ _ _ _ _ c.requires _ _ refl c.row_at-old.ensures)

pub row_after-returns : goal.row_after-returns
row_after-returns t c =
    gives-joint-row _ _ _ _ _ _ _ _ _ _ _ _ _ _ _ _ _ _ _ _ (part-old _ _ _ _ _ _ _ refl c.row_at-old.ensures) c.kind_at-kind.ensures refl refl c.every_at-every.ensures (by_rows c.every_at-every.result c.kind_at-kind.result _ c.by_cells.ensures c.if-by_cells.false).0 _ _ _ _ _ _ _ c.if-kind-ge5.false (by_rows c.every_at-every.result c.kind_at-kind.result _ c.by_cells.ensures c.if-by_cells.false).1 c.end_at.ensures c.adds_of-add.ensures c.begin_row.ensures c.row_trees_after-changed.ensures c.count_row-2.ensures c.wrapping_add_u32.ensures.value

pub row_cells_after-loop-x-init : goal.row_cells_after-loop-x-init
row_cells_after-loop-x-init t c =
    row-start _ _ _ _ _ _ _ _ _ _ _ _ _ _ _ _ c.requires _ c.first_port-x.ensures

pub row_cells_after-overflow_add-depth : goal.row_cells_after-overflow_add-depth
row_cells_after-overflow_add-depth t c =
    omega (arith, c.requires.begins.visit.depth)

pub row_cells_after-overflow_add-row : goal.row_cells_after-overflow_add-row
row_cells_after-overflow_add-row t c =
    record { fits = row-fits-64 _ _ _ _ _ _ _ _ _ _ _ _ _ _ _ c.requires.begins _ c.loop-x-test.true }

pub row_cells_after-with_port-requires : goal.row_cells_after-with_port-requires
row_cells_after-with_port-requires t c =
    digits-ready _ _ _ _ _ _ _ _ _ _ _ _ _ _ _ c.requires.begins _ c.loop-x-test.true

pub row_cells_after-cell_after-r-requires : goal.row_cells_after-cell_after-r-requires
row_cells_after-cell_after-r-requires t c =
    (omega (arith, c.decreases), port-ready _ _ _ _ _ _ _ _ _ _ _ _ _ _ _ c.requires.begins _ _ _ c.loop-x-test.true c.with_port.ensures c.port_word.ensures)

pub row_cells_after-put_port-requires : goal.row_cells_after-put_port-requires
row_cells_after-put_port-requires t c =
    omega (arith, c.loop-x-test.true, c.loop-x.invariant.same_length, c.requires.begins.room)

pub row_cells_after-next_port-x-requires : goal.row_cells_after-next_port-x-requires
row_cells_after-next_port-x-requires t c =
    c.loop-x-test.true

pub row_cells_after-loop-x-smaller : goal.row_cells_after-loop-x-smaller
row_cells_after-loop-x-smaller t c =
    let n = row_step _ _ _ _ _ _ _ _ _ _ _ _ _ _ _ _ c.requires _ _ _ _ _ _ _ c.loop-x.invariant c.loop-x-test.true (port-gives _ _ _ _ _ _ _ _ _ _ _ _ _ _ _ _ _ _ c.loop-x-test.true c.with_port.ensures c.port_word.ensures c.cell_after-r.ensures) c.wrapping_add_u32-changed.ensures.value c.next_port-x.ensures c.put_port.ensures in omega (arith, n.0, c.loop-x-test.true)

pub row_cells_after-loop-x-preserved : goal.row_cells_after-loop-x-preserved
row_cells_after-loop-x-preserved t c =
    (row_step _ _ _ _ _ _ _ _ _ _ _ _ _ _ _ _ c.requires _ _ _ _ _ _ _ c.loop-x.invariant c.loop-x-test.true (port-gives _ _ _ _ _ _ _ _ _ _ _ _ _ _ _ _ _ _ c.loop-x-test.true c.with_port.ensures c.port_word.ensures c.cell_after-r.ensures) c.wrapping_add_u32-changed.ensures.value c.next_port-x.ensures c.put_port.ensures).1

pub row_cells_after-shape_of-out : goal.row_cells_after-shape_of-out
row_cells_after-shape_of-out t c =
    c.loop-x.invariant.same_length

pub row_cells_after-returns : goal.row_cells_after-returns
row_cells_after-returns t c =
    row-finished _ _ _ _ _ _ _ _ _ _ _ _ _ _ _ _ c.requires _ _ _ c.loop-x.invariant c.loop-x-test.false

pub row_tree_after-row_at-old-requires : goal.row_tree_after-row_at-old-requires
row_tree_after-row_at-old-requires t c =
    (node-low _ _ _ _ _ _ _ _ _ _ _ _ _ _ (first-ready _ _ _ _ _ _ _ _ _ _ _ _ _ _ _ c.requires.begins), row_low _ _ _ _ _ _ _ _ _ _ _ _ _ _ _ c.requires.begins, omega (arith, row_within _ _ _ _ _ _ _ _ _ _ _ _ _ _ _ c.requires.begins _ refl))

pub row_tree_after-touched_at-requires : goal.row_tree_after-touched_at-requires
row_tree_after-touched_at-requires t c =
    node-low _ _ _ _ _ _ _ _ _ _ _ _ _ _ (first-ready _ _ _ _ _ _ _ _ _ _ _ _ _ _ _ c.requires.begins)

pub row_tree_after-keep_row-requires : goal.row_tree_after-keep_row-requires
row_tree_after-keep_row-requires t c =
    (part_room _ _ _ _ _ _ _ _ _ _ _ _ _ _ _ c.requires.begins _ _ refl c.row_at-old.ensures, c.requires.begins.room)

pub row_tree_after-returns-then-not-touched_at : goal.row_tree_after-returns-then-not-touched_at
row_tree_after-returns-then-not-touched_at t c =
    joins-kept _ _ _ _ _ _ _ _ _ _ _ _ _ _ _ _ _ (part-old _ _ _ _ _ _ _ refl c.row_at-old.ensures) _ _ c.requires refl (sym c.touched_at.ensures ∙ not-true _ c.if-not-touched_at.true-raw) c.keep_row.ensures

pub row_tree_after-row_after-changed-requires : goal.row_tree_after-row_after-changed-requires
row_tree_after-row_after-changed-requires t c =
    (omega (arith, c.decreases), again _ _ _ _ _ _ _ _ _ _ _ _ _ _ _ _ c.requires.begins c.requires.begins.ready.masks-settled.ports64)

pub row_tree_after-join_row-requires : goal.row_tree_after-join_row-requires
row_tree_after-join_row-requires t c =
    (omega (arith, c.row_after-changed.auto.out, c.requires.begins.ready.masks-settled.ports64), part_room _ _ _ _ _ _ _ _ _ _ _ _ _ _ _ c.requires.begins _ _ refl c.row_at-old.ensures, c.requires.begins.room)

pub row_tree_after-returns : goal.row_tree_after-returns
row_tree_after-returns t c =
    joins-row _ _ _ _ _ _ _ _ _ _ _ _ _ _ _ _ _ (part-old _ _ _ _ _ _ _ refl c.row_at-old.ensures) _ _ _ c.row_after-changed.ensures c.join_row.ensures

pub row_trees_after-loop-j-init : goal.row_trees_after-loop-j-init
row_trees_after-loop-j-init t c =
    rows-onward-first _ _ _ _ _ _ _ _ _ _ _ _ _ _ _ _ _ c.requires

pub row_trees_after-row_tree_after-more-requires : goal.row_trees_after-row_tree_after-more-requires
row_trees_after-row_tree_after-more-requires t c =
    (omega (arith, c.decreases, c.loop-j.invariant.late), row-left _ _ _ _ _ _ _ _ _ _ _ _ _ _ _ _ _ c.loop-j.invariant.ready.0 c.loop-j-test.true)

pub row_trees_after-end_at-j-requires : goal.row_trees_after-end_at-j-requires
row_trees_after-end_at-j-requires t c =
    node-low _ _ _ _ _ _ _ _ _ _ _ _ _ _ (first-ready _ _ _ _ _ _ _ _ _ _ _ _ _ _ _ (row-left _ _ _ _ _ _ _ _ _ _ _ _ _ _ _ _ _ c.loop-j.invariant.ready.0 c.loop-j-test.true).begins)

pub row_trees_after-loop-j-smaller : goal.row_trees_after-loop-j-smaller
row_trees_after-loop-j-smaller t c =
    let n = rows-onward-next _ _ _ _ _ _ _ _ _ _ _ _ _ _ _ _ _ _ _ _ _ _ _ _ c.loop-j.invariant c.loop-j-test.true c.end_at-j.ensures c.row_tree_after-more.ensures c.wrapping_add_u32-changed.ensures.value c.row_tree_after-more.auto.out in omega (arith, n.0, c.loop-j-test.true)

pub row_trees_after-loop-j-preserved : goal.row_trees_after-loop-j-preserved
row_trees_after-loop-j-preserved t c =
    (rows-onward-next _ _ _ _ _ _ _ _ _ _ _ _ _ _ _ _ _ _ _ _ _ _ _ _ c.loop-j.invariant c.loop-j-test.true c.end_at-j.ensures c.row_tree_after-more.ensures c.wrapping_add_u32-changed.ensures.value c.row_tree_after-more.auto.out).1

pub row_trees_after-shape_of-out : goal.row_trees_after-shape_of-out
row_trees_after-shape_of-out t c =
    c.loop-j.invariant.ready.1

pub row_trees_after-returns : goal.row_trees_after-returns
row_trees_after-returns t c =
    rows-onward-last _ _ _ _ _ _ _ _ _ _ _ _ _ _ _ _ _ _ _ _ c.loop-j.invariant c.loop-j-test.false

pub tree_after-kind_at-requires : goal.tree_after-kind_at-requires
tree_after-kind_at-requires t c =
    record-room _ _ _ _ _ _ _ _ _ _ _ _ _ _ c.requires.begins

pub tree_after-cell_at-old-requires : goal.tree_after-cell_at-old-requires
tree_after-cell_at-old-requires t c =
    (node-low _ _ _ _ _ _ _ _ _ _ _ _ _ _ c.requires.begins, cell_room _ _ _ _ _ _ _ _ _ _ _ _ _ _ c.requires.begins)

pub tree_after-literal_outcome-requires : goal.tree_after-literal_outcome-requires
tree_after-literal_outcome-requires t c =
    literal-ready _ _ _ _ _ _ _ _ _ _ _ _ _ _ c.requires.begins _ c.kind_at.ensures c.if-kind_at-ge5.true

pub tree_after-returns-then-kind_at-ge5 : goal.tree_after-returns-then-kind_at-ge5
tree_after-returns-then-kind_at-ge5 t c =
    gives-literal _ _ _ _ _ _ _ _ _ _ _ _ _ _ _ _ c.cell_at-old.ensures refl _ c.requires.touched c.kind_at.ensures _ _ c.if-kind_at-ge5.true c.literal_outcome.ensures.0 (c.literal_outcome.ensures.1, refl, c.literal_outcome.ensures.2)

pub tree_after-cell_after-requires : goal.tree_after-cell_after-requires
tree_after-cell_after-requires t c =
    (omega (arith, c.decreases), c.requires.begins)

pub tree_after-returns : goal.tree_after-returns
tree_after-returns t c =
    c.cell_after.ensures

pub trees_after-loop-j-init : goal.trees_after-loop-j-init
trees_after-loop-j-init t c =
    onward-first _ _ _ _ _ _ _ _ _ _ _ _ _ _ _ _ _ c.requires

pub trees_after-touched_at-requires : goal.trees_after-touched_at-requires
trees_after-touched_at-requires t c =
    node-low _ _ _ _ _ _ _ _ _ _ _ _ _ _ (some_left _ _ _ _ _ _ _ _ _ _ _ _ _ _ _ _ c.loop-j.invariant.ready c.loop-j-test.true)

pub trees_after-tree_after-r-requires : goal.trees_after-tree_after-r-requires
trees_after-tree_after-r-requires t c =
    (omega (arith, c.decreases, c.loop-j.invariant.late), touched-ready _ _ _ _ _ _ _ _ _ _ _ _ _ _ (some_left _ _ _ _ _ _ _ _ _ _ _ _ _ _ _ _ c.loop-j.invariant.ready c.loop-j-test.true) _ _ refl c.touched_at.ensures c.if-touched_at.true)

pub trees_after-kept-requires : goal.trees_after-kept-requires
trees_after-kept-requires t c =
    let r = some_left _ _ _ _ _ _ _ _ _ _ _ _ _ _ _ _ c.loop-j.invariant.ready c.loop-j-test.true in (node-low _ _ _ _ _ _ _ _ _ _ _ _ _ _ r, cell_room _ _ _ _ _ _ _ _ _ _ _ _ _ _ r)

pub trees_after-end_at-j-requires : goal.trees_after-end_at-j-requires
trees_after-end_at-j-requires t c =
    node-low _ _ _ _ _ _ _ _ _ _ _ _ _ _ (some_left _ _ _ _ _ _ _ _ _ _ _ _ _ _ _ _ c.loop-j.invariant.ready c.loop-j-test.true)

pub trees_after-returns : goal.trees_after-returns
trees_after-returns t c =
    onward-last _ _ _ _ _ _ _ _ _ _ _ _ _ _ _ _ _ _ _ c.loop-j.invariant c.loop-j-test.false

pub trees_after-loop-j-smaller : goal.trees_after-loop-j-smaller
trees_after-loop-j-smaller t c =
    let n = onward-next _ _ _ _ _ _ _ _ _ _ _ _ _ _ _ _ _ _ _ _ _ c.loop-j.invariant c.loop-j-test.true c.end_at-j.ensures (elim c.if-touched_at.branch [
      | trees_after-then-touched_at w ↦ record { found = w.tree_after-r.result; gives = w.tree_after-r.ensures; joined = subst (λ (x : Sum). Joined _ _ w.tree_after-r.result x) (sym w.sum-is) w.join-sum.ensures }
      | trees_after-else-touched_at w ↦ record { found = w.kept.result; gives = gives-untouched _ _ _ _ _ _ _ _ _ _ _ _ _ _ _ _ w.kept.ensures.0 refl _ (sym c.touched_at.ensures ∙ w.if-touched_at.false) refl w.kept.ensures.1 w.kept.ensures.2; joined = subst (λ (x : Sum). Joined _ _ w.kept.result x) (sym w.sum-is) w.join-sum-else-touched_at.ensures }
    ]) in omega (arith, n.0, c.loop-j-test.true)

pub trees_after-loop-j-preserved : goal.trees_after-loop-j-preserved
trees_after-loop-j-preserved t c =
    (onward-next _ _ _ _ _ _ _ _ _ _ _ _ _ _ _ _ _ _ _ _ _ c.loop-j.invariant c.loop-j-test.true c.end_at-j.ensures (elim c.if-touched_at.branch [
      | trees_after-then-touched_at w ↦ record { found = w.tree_after-r.result; gives = w.tree_after-r.ensures; joined = subst (λ (x : Sum). Joined _ _ w.tree_after-r.result x) (sym w.sum-is) w.join-sum.ensures }
      | trees_after-else-touched_at w ↦ record { found = w.kept.result; gives = gives-untouched _ _ _ _ _ _ _ _ _ _ _ _ _ _ _ _ w.kept.ensures.0 refl _ (sym c.touched_at.ensures ∙ w.if-touched_at.false) refl w.kept.ensures.1 w.kept.ensures.2; joined = subst (λ (x : Sum). Joined _ _ w.kept.result x) (sym w.sum-is) w.join-sum-else-touched_at.ensures }
    ])).1
