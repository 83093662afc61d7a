use Rattle.std.proofs.Common.{◌-◌, sym, refl, ◌∙◌, arith}
use borrow.Author.Tests.{not-true, not-false}
use Rattle.cells_visit.proofs.Walking.{node-low, cell_room, record-room, place-low, times-fits, literal-ready, touched-ready, quantifier-ready, child-low, ports-ready, trees-ready, gives-untouched, gives-literal, quantifier-gives, gives-trees, some_left}
use Rattle.cells_visit.proofs.Rowing.{port-ready, first-ready, row_low, row-fits-64, digits-ready, row_within, part_room, part-old, copy-old, port-gives, gives-literal-row, gives-joint-row, row-trees-ready, row-cells-ready, row-start, row_step, row-finished, joins-kept, joins-row, any-row, pair_of, first-low, second-low, child-row, some-child-row, row-quantifier-gives, pair-first, pair-next, pair-only, pair-second, pair-last, row-left, again, by_rows}
use Rattle.cells_visit.proofs.Writes.{room-kept, all_fit, cell-kept, moved_as, untouched-moved, literal-moved, ports-moved, trees-moved, port-gives-later, row_below, pair-wrote-one, second-next, pair-wrote-two, row-carried-start, row-carried-step, row-carried-all, literal-row-moved, joint-row-moved, row-unmoved, ahead-first, ahead-next, ahead-last, rows-ahead-first, rows-ahead-next, rows-ahead-last}
use Rattle.cells_write.proofs.+walk.Goals as goal
use Rattle.cells_write.proofs.+walk.Goals.{trees_written-then-touched_at, trees_written-else-touched_at}

pub all_ports_written-cell_at-old-requires : goal.all_ports_written-cell_at-old-requires
all_ports_written-cell_at-old-requires t c =
    (node-low _ _ _ _ _ _ _ _ _ _ _ _ _ _ c.requires.cell.begins, cell_room _ _ _ _ _ _ _ _ _ _ _ _ _ _ c.requires.cell.begins)

pub all_ports_written-adds_at-add-requires : goal.all_ports_written-adds_at-add-requires
all_ports_written-adds_at-add-requires t c =
    record-room _ _ _ _ _ _ _ _ _ _ _ _ _ _ c.requires.cell.begins

pub all_ports_written-overflow_mul-row : goal.all_ports_written-overflow_mul-row
all_ports_written-overflow_mul-row t c =
    record { fits = times-fits _ _ (place-low _ _ _ _ _ _ _ _ _ _ _ _ _ _ c.requires.cell.begins) }

pub all_ports_written-overflow_add-i : goal.all_ports_written-overflow_add-i
all_ports_written-overflow_add-i t c =
    omega (arith, child-low _ _ _ _ _ _ _ _ _ _ _ _ _ _ c.requires)

pub all_ports_written-row_at-requires : goal.all_ports_written-row_at-requires
all_ports_written-row_at-requires t c =
    (child-low _ _ _ _ _ _ _ _ _ _ _ _ _ _ c.requires, row_low _ _ _ _ _ _ _ _ _ _ _ _ _ _ _ (some-child-row _ _ _ _ _ _ _ _ _ _ _ _ _ _ c.requires), omega (arith, row_within _ _ _ _ _ _ _ _ _ _ _ _ _ _ _ (some-child-row _ _ _ _ _ _ _ _ _ _ _ _ _ _ c.requires) _ refl))

pub all_ports_written-copy_row-requires : goal.all_ports_written-copy_row-requires
all_ports_written-copy_row-requires t c =
    (part_room _ _ _ _ _ _ _ _ _ _ _ _ _ _ _ (some-child-row _ _ _ _ _ _ _ _ _ _ _ _ _ _ c.requires) _ _ refl c.row_at.ensures, c.requires.cell.begins.ready.masks-settled.ports64)

pub all_ports_written-overflow_add-i-2 : goal.all_ports_written-overflow_add-i-2
all_ports_written-overflow_add-i-2 t c =
    omega (arith, child-low _ _ _ _ _ _ _ _ _ _ _ _ _ _ c.requires)

pub all_ports_written-row_written-changed-requires : goal.all_ports_written-row_written-changed-requires
all_ports_written-row_written-changed-requires t c =
    (omega (arith, c.decreases, child-low _ _ _ _ _ _ _ _ _ _ _ _ _ _ c.requires), record { begins = child-row _ _ _ _ _ _ _ _ _ _ _ _ _ _ c.requires _ c.requires.cell.begins.ready.masks-settled.ports64; old_row = (copy-old _ _ _ _ _ _ _ _ (part-old _ _ _ _ _ _ _ refl c.row_at.ensures) c.copy_row.ensures); old-room = omega (arith, c.copy_row.auto.out, c.requires.cell.begins.ready.masks-settled.ports64) })

pub all_ports_written-row_outcome-r-requires : goal.all_ports_written-row_outcome-r-requires
all_ports_written-row_outcome-r-requires t c =
    (omega (arith, c.row_written-changed.auto.out, c.requires.cell.begins.ready.masks-settled.ports64), omega (arith, c.copy_row.auto.out, c.requires.cell.begins.ready.masks-settled.ports64))

pub all_ports_written-put_cell-requires : goal.all_ports_written-put_cell-requires
all_ports_written-put_cell-requires t c =
    (node-low _ _ _ _ _ _ _ _ _ _ _ _ _ _ c.requires.cell.begins, room-kept _ c.args.cells.now c.row_written-changed.new.cells c.row_written-changed.auto.cells (cell_room _ _ _ _ _ _ _ _ _ _ _ _ _ _ c.requires.cell.begins))

pub all_ports_written-shape_of-cells : goal.all_ports_written-shape_of-cells
all_ports_written-shape_of-cells t c =
    c.put_cell.auto.cells ∙ c.row_written-changed.auto.cells

pub all_ports_written-returns : goal.all_ports_written-returns
all_ports_written-returns t c =
    ports-moved _ _ _ _ _ _ _ _ _ _ _ _ _ _ _ refl _ refl _ (row-quantifier-gives _ _ _ _ _ _ _ _ _ _ _ _ _ _ c.requires _ _ _ _ _ _ c.cell_at-old.ensures c.adds_at-add.ensures (copy-old _ _ _ _ _ _ _ _ (part-old _ _ _ _ _ _ _ refl c.row_at.ensures) c.copy_row.ensures) c.row_written-changed.ensures.0 c.row_outcome-r.ensures) _ refl _ _ c.put_cell.ensures c.requires.quantifier (row_below _ _ _ _ _ _ _ _ _ _ _ _ _ _ _ c.row_written-changed.ensures.1)

pub cell_written-cell_at-old-requires : goal.cell_written-cell_at-old-requires
cell_written-cell_at-old-requires t c =
    (node-low _ _ _ _ _ _ _ _ _ _ _ _ _ _ c.requires, cell_room _ _ _ _ _ _ _ _ _ _ _ _ _ _ c.requires)

pub cell_written-touched_at-requires : goal.cell_written-touched_at-requires
cell_written-touched_at-requires t c =
    node-low _ _ _ _ _ _ _ _ _ _ _ _ _ _ c.requires

pub cell_written-kept-requires : goal.cell_written-kept-requires
cell_written-kept-requires t c =
    (node-low _ _ _ _ _ _ _ _ _ _ _ _ _ _ c.requires, cell_room _ _ _ _ _ _ _ _ _ _ _ _ _ _ c.requires)

pub cell_written-returns-then-not-touched_at : goal.cell_written-returns-then-not-touched_at
cell_written-returns-then-not-touched_at t c =
    untouched-moved _ _ _ _ _ _ _ _ _ _ _ _ _ _ _ refl (sym c.touched_at.ensures ∙ not-true _ c.if-not-touched_at.true-raw) _ (gives-untouched _ _ _ _ _ _ _ _ _ _ _ _ _ _ _ _ c.kept.ensures.0 refl _ (sym c.touched_at.ensures ∙ not-true _ c.if-not-touched_at.true-raw) refl c.kept.ensures.1 c.kept.ensures.2)

pub cell_written-kind_at-kind-requires : goal.cell_written-kind_at-kind-requires
cell_written-kind_at-kind-requires t c =
    record-room _ _ _ _ _ _ _ _ _ _ _ _ _ _ c.requires

pub cell_written-literal_outcome-r-requires : goal.cell_written-literal_outcome-r-requires
cell_written-literal_outcome-r-requires t c =
    literal-ready _ _ _ _ _ _ _ _ _ _ _ _ _ _ c.requires _ c.kind_at-kind.ensures c.if-kind-ge5.true

pub cell_written-put_cell-requires : goal.cell_written-put_cell-requires
cell_written-put_cell-requires t c =
    (node-low _ _ _ _ _ _ _ _ _ _ _ _ _ _ c.requires, cell_room _ _ _ _ _ _ _ _ _ _ _ _ _ _ c.requires)

pub cell_written-returns-then-kind-ge5 : goal.cell_written-returns-then-kind-ge5
cell_written-returns-then-kind-ge5 t c =
    literal-moved _ _ _ _ _ _ _ _ _ _ _ _ _ _ _ refl _ c.kind_at-kind.ensures _ (gives-literal _ _ _ _ _ _ _ _ _ _ _ _ _ _ _ _ c.cell_at-old.ensures refl _ (sym c.touched_at.ensures ∙ not-false _ c.if-not-touched_at.false-raw) c.kind_at-kind.ensures _ _ c.if-kind-ge5.true c.literal_outcome-r.ensures.0 (c.literal_outcome-r.ensures.1, refl, c.literal_outcome-r.ensures.2)) _ refl _ _ c.put_cell.ensures c.if-kind-ge5.true refl

pub cell_written-ports_written-requires : goal.cell_written-ports_written-requires
cell_written-ports_written-requires t c =
    (omega (arith, c.decreases), quantifier-ready _ _ _ _ _ _ _ _ _ _ _ _ _ _ c.requires _ _ _ refl c.touched_at.ensures (not-false _ c.if-not-touched_at.false-raw) c.kind_at-kind.ensures (sym c.is_quantifier.ensures ∙ c.if-is_quantifier.true))

pub cell_written-shape_of-cells-then-is_quantifier : goal.cell_written-shape_of-cells-then-is_quantifier
cell_written-shape_of-cells-then-is_quantifier t c =
    c.ports_written.auto.cells

pub cell_written-returns-then-is_quantifier : goal.cell_written-returns-then-is_quantifier
cell_written-returns-then-is_quantifier t c =
    c.ports_written.ensures

pub cell_written-overflow_add-i : goal.cell_written-overflow_add-i
cell_written-overflow_add-i t c =
    omega (arith, node-low _ _ _ _ _ _ _ _ _ _ _ _ _ _ c.requires)

pub cell_written-end_at-requires : goal.cell_written-end_at-requires
cell_written-end_at-requires t c =
    node-low _ _ _ _ _ _ _ _ _ _ _ _ _ _ c.requires

pub cell_written-trees_written-r-requires : goal.cell_written-trees_written-r-requires
cell_written-trees_written-r-requires t c =
    (omega (arith, c.decreases, node-low _ _ _ _ _ _ _ _ _ _ _ _ _ _ c.requires), trees-ready _ _ _ _ _ _ _ _ _ _ _ _ _ _ c.requires _ _ _ _ c.kind_at-kind.ensures c.begin.ensures _ c.end_at.ensures c.if-kind-ge5.false (sym c.is_quantifier.ensures ∙ c.if-is_quantifier.false))

pub cell_written-put_cell-requires-2 : goal.cell_written-put_cell-requires-2
cell_written-put_cell-requires-2 t c =
    (node-low _ _ _ _ _ _ _ _ _ _ _ _ _ _ c.requires, room-kept _ c.args.cells.now c.trees_written-r.new.cells c.trees_written-r.auto.cells (cell_room _ _ _ _ _ _ _ _ _ _ _ _ _ _ c.requires))

pub cell_written-shape_of-cells : goal.cell_written-shape_of-cells
cell_written-shape_of-cells t c =
    c.put_cell-2.auto.cells ∙ c.trees_written-r.auto.cells

pub cell_written-returns : goal.cell_written-returns
cell_written-returns t c =
    trees-moved _ _ _ _ _ _ _ _ _ _ _ _ _ _ _ refl _ c.kind_at-kind.ensures _ (gives-trees _ _ _ _ _ _ _ _ _ _ _ _ _ _ _ _ c.cell_at-old.ensures refl _ (sym c.touched_at.ensures ∙ not-false _ c.if-not-touched_at.false-raw) c.kind_at-kind.ensures _ _ _ _ c.adds_of-add.ensures c.begin.ensures c.outcome.ensures _ c.end_at.ensures c.if-kind-ge5.false (sym c.is_quantifier.ensures ∙ c.if-is_quantifier.false) c.trees_written-r.ensures.0) _ c.outcome.ensures.1 _ _ c.put_cell-2.ensures _ c.end_at.ensures c.if-kind-ge5.false (sym c.is_quantifier.ensures ∙ c.if-is_quantifier.false) c.trees_written-r.ensures.1

pub pair_written-overflow_add-depth : goal.pair_written-overflow_add-depth
pair_written-overflow_add-depth t c =
    omega (arith, c.requires.ports.visit.depth)

pub pair_written-overflow_add-row : goal.pair_written-overflow_add-row
pair_written-overflow_add-row t c =
    record { fits = row-fits-64 _ _ _ _ _ _ _ _ _ _ _ _ _ _ _ (any-row _ _ _ _ _ _ _ _ _ _ _ _ _ _ _ c.requires.ports) _ (first-low _ _ _ _ _ _ _ _ _ _ _ _ _ _ _ c.requires _ _ refl refl) }

pub pair_written-with_port-requires : goal.pair_written-with_port-requires
pair_written-with_port-requires t c =
    digits-ready _ _ _ _ _ _ _ _ _ _ _ _ _ _ _ (any-row _ _ _ _ _ _ _ _ _ _ _ _ _ _ _ c.requires.ports) _ (first-low _ _ _ _ _ _ _ _ _ _ _ _ _ _ _ c.requires _ _ refl refl)

pub pair_written-cell_written-first-requires : goal.pair_written-cell_written-first-requires
pair_written-cell_written-first-requires t c =
    (omega (arith, c.decreases), port-ready _ _ _ _ _ _ _ _ _ _ _ _ _ _ _ (any-row _ _ _ _ _ _ _ _ _ _ _ _ _ _ _ c.requires.ports) _ _ _ (first-low _ _ _ _ _ _ _ _ _ _ _ _ _ _ _ c.requires _ _ refl refl) c.with_port.ensures c.port_word.ensures)

pub pair_written-shape_of-cells-then-q-p : goal.pair_written-shape_of-cells-then-q-p
pair_written-shape_of-cells-then-q-p t c =
    c.cell_written-first.auto.cells

pub pair_written-returns-then-q-p : goal.pair_written-returns-then-q-p
pair_written-returns-then-q-p t c =
    (pair-only _ _ _ _ _ _ _ _ _ _ _ _ _ _ _ c.requires _ _ refl refl _ c.if-q-p.true (pair-next _ _ _ _ _ _ _ _ _ _ _ _ _ _ _ _ _ _ _ (pair-first _ _ _ _ _ _ _ _ _ _ _ _ _ _ _ c.requires _ _ refl refl) (port-gives _ _ _ _ _ _ _ _ _ _ _ _ _ _ _ _ _ _ (first-low _ _ _ _ _ _ _ _ _ _ _ _ _ _ _ c.requires _ _ refl refl) c.with_port.ensures c.port_word.ensures c.cell_written-first.ensures.0) c.join-sum.ensures), pair-wrote-one _ _ _ _ _ _ _ _ _ _ _ _ _ _ _ c.requires _ _ refl refl _ _ c.with_port.ensures c.port_word.ensures _ c.cell_written-first.ensures.1 c.if-q-p.true)

pub pair_written-overflow_add-depth-2 : goal.pair_written-overflow_add-depth-2
pair_written-overflow_add-depth-2 t c =
    omega (arith, c.requires.ports.visit.depth)

pub pair_written-overflow_add-row-2 : goal.pair_written-overflow_add-row-2
pair_written-overflow_add-row-2 t c =
    record { fits = row-fits-64 _ _ _ _ _ _ _ _ _ _ _ _ _ _ _ (any-row _ _ _ _ _ _ _ _ _ _ _ _ _ _ _ c.requires.ports) _ (second-low _ _ _ _ _ _ _ _ _ _ _ _ _ _ _ c.requires _ _ refl refl) }

pub pair_written-with_port-requires-2 : goal.pair_written-with_port-requires-2
pair_written-with_port-requires-2 t c =
    digits-ready _ _ _ _ _ _ _ _ _ _ _ _ _ _ _ (any-row _ _ _ _ _ _ _ _ _ _ _ _ _ _ _ c.requires.ports) _ (second-low _ _ _ _ _ _ _ _ _ _ _ _ _ _ _ c.requires _ _ refl refl)

pub pair_written-cell_written-second-requires : goal.pair_written-cell_written-second-requires
pair_written-cell_written-second-requires t c =
    (omega (arith, c.decreases), cell-kept _ _ _ _ _ _ _ _ _ _ (all_fit _ (λ j. (c.slice_known-2-1.given j).fits)) c.cell_written-first.auto.cells _ _ _ _ _ (port-ready _ _ _ _ _ _ _ _ _ _ _ _ _ _ _ (any-row _ _ _ _ _ _ _ _ _ _ _ _ _ _ _ c.requires.ports) _ _ _ (second-low _ _ _ _ _ _ _ _ _ _ _ _ _ _ _ c.requires _ _ refl refl) c.with_port-2.ensures c.port_word-2.ensures))

pub pair_written-shape_of-cells : goal.pair_written-shape_of-cells
pair_written-shape_of-cells t c =
    c.cell_written-second.auto.cells ∙ c.cell_written-first.auto.cells

pub pair_written-returns : goal.pair_written-returns
pair_written-returns t c =
    (pair-last _ _ _ _ _ _ _ _ _ _ _ _ _ _ _ c.requires _ _ refl refl _ c.if-q-p.false (pair-next _ _ _ _ _ _ _ _ _ _ _ _ _ _ _ _ _ _ _ (pair-second _ _ _ _ _ _ _ _ _ _ _ _ _ _ _ c.requires _ _ refl refl _ c.if-q-p.false (pair-next _ _ _ _ _ _ _ _ _ _ _ _ _ _ _ _ _ _ _ (pair-first _ _ _ _ _ _ _ _ _ _ _ _ _ _ _ c.requires _ _ refl refl) (port-gives _ _ _ _ _ _ _ _ _ _ _ _ _ _ _ _ _ _ (first-low _ _ _ _ _ _ _ _ _ _ _ _ _ _ _ c.requires _ _ refl refl) c.with_port.ensures c.port_word.ensures c.cell_written-first.ensures.0) c.join-sum.ensures)) (port-gives-later _ _ _ _ _ _ _ _ _ _ _ _ _ _ _ _ _ (second-low _ _ _ _ _ _ _ _ _ _ _ _ _ _ _ c.requires _ _ refl refl) c.with_port-2.ensures c.port_word-2.ensures _ (all_fit _ (λ j. (c.slice_known-2-1.given j).fits)) c.cell_written-first.auto.cells (second-next _ _ _ _ _ _ _ _ _ _ _ _ _ _ _ c.requires _ _ refl refl _ _ c.with_port.ensures c.port_word.ensures _ c.cell_written-first.ensures.1 c.if-q-p.false) _ c.cell_written-second.ensures.0) c.join.ensures), pair-wrote-two _ _ _ _ _ _ _ _ _ _ _ _ _ _ _ c.requires _ _ refl refl _ _ c.with_port.ensures c.port_word.ensures _ c.cell_written-first.ensures.1 c.if-q-p.false _ _ c.with_port-2.ensures c.port_word-2.ensures (all_fit _ (λ j. (c.slice_known-2-1.given j).fits)) c.cell_written-first.auto.cells _ c.cell_written-second.ensures.1)

pub ports_written-adds_at-requires : goal.ports_written-adds_at-requires
ports_written-adds_at-requires t c =
    record-room _ _ _ _ _ _ _ _ _ _ _ _ _ _ c.requires.cell.begins

pub ports_written-all_ports_written-requires : goal.ports_written-all_ports_written-requires
ports_written-all_ports_written-requires t c =
    (omega (arith, c.decreases), c.requires)

pub ports_written-shape_of-cells-then-not-adds_at : goal.ports_written-shape_of-cells-then-not-adds_at
ports_written-shape_of-cells-then-not-adds_at t c =
    c.all_ports_written.auto.cells

pub ports_written-returns-then-not-adds_at : goal.ports_written-returns-then-not-adds_at
ports_written-returns-then-not-adds_at t c =
    c.all_ports_written.ensures

pub ports_written-overflow_add-i : goal.ports_written-overflow_add-i
ports_written-overflow_add-i t c =
    omega (arith, child-low _ _ _ _ _ _ _ _ _ _ _ _ _ _ c.requires)

pub ports_written-every_at-requires : goal.ports_written-every_at-requires
ports_written-every_at-requires t c =
    child-low _ _ _ _ _ _ _ _ _ _ _ _ _ _ c.requires

pub ports_written-all_ports_written-requires-then-every_at : goal.ports_written-all_ports_written-requires-then-every_at
ports_written-all_ports_written-requires-then-every_at t c =
    (omega (arith, c.decreases), c.requires)

pub ports_written-shape_of-cells-then-every_at : goal.ports_written-shape_of-cells-then-every_at
ports_written-shape_of-cells-then-every_at t c =
    c.all_ports_written-then-every_at.auto.cells

pub ports_written-returns-then-every_at : goal.ports_written-returns-then-every_at
ports_written-returns-then-every_at t c =
    c.all_ports_written-then-every_at.ensures

pub ports_written-cell_at-old-requires : goal.ports_written-cell_at-old-requires
ports_written-cell_at-old-requires t c =
    (node-low _ _ _ _ _ _ _ _ _ _ _ _ _ _ c.requires.cell.begins, cell_room _ _ _ _ _ _ _ _ _ _ _ _ _ _ c.requires.cell.begins)

pub ports_written-overflow_add-i-2 : goal.ports_written-overflow_add-i-2
ports_written-overflow_add-i-2 t c =
    omega (arith, child-low _ _ _ _ _ _ _ _ _ _ _ _ _ _ c.requires)

pub ports_written-overflow_mul-place : goal.ports_written-overflow_mul-place
ports_written-overflow_mul-place t c =
    record { fits = times-fits _ _ (place-low _ _ _ _ _ _ _ _ _ _ _ _ _ _ c.requires.cell.begins) }

pub ports_written-pair_written-r-requires : goal.ports_written-pair_written-r-requires
ports_written-pair_written-r-requires t c =
    (omega (arith, c.decreases, child-low _ _ _ _ _ _ _ _ _ _ _ _ _ _ c.requires), pair_of _ _ _ _ _ _ _ _ _ _ _ _ _ _ _ _ _ _ (ports-ready _ _ _ _ _ _ _ _ _ _ _ _ _ _ c.requires _ _ _ c.cell_at-old.ensures c.begin.ensures) refl refl c.every_at.ensures c.if-every_at.false)

pub ports_written-put_cell-requires : goal.ports_written-put_cell-requires
ports_written-put_cell-requires t c =
    (node-low _ _ _ _ _ _ _ _ _ _ _ _ _ _ c.requires.cell.begins, room-kept _ c.args.cells.now c.pair_written-r.new.cells c.pair_written-r.auto.cells (cell_room _ _ _ _ _ _ _ _ _ _ _ _ _ _ c.requires.cell.begins))

pub ports_written-shape_of-cells : goal.ports_written-shape_of-cells
ports_written-shape_of-cells t c =
    c.put_cell.auto.cells ∙ c.pair_written-r.auto.cells

pub ports_written-returns : goal.ports_written-returns
ports_written-returns t c =
    ports-moved _ _ _ _ _ _ _ _ _ _ _ _ _ _ _ refl _ refl _ (quantifier-gives _ _ _ _ _ _ _ _ _ _ _ _ _ _ c.requires _ _ _ _ _ _ c.cell_at-old.ensures refl (sym (not-false _ c.if-not-adds_at.false-raw) ∙ c.adds_at.ensures) c.begin.ensures c.outcome.ensures c.pair_written-r.ensures.0) _ c.outcome.ensures.1 _ _ c.put_cell.ensures c.requires.quantifier c.pair_written-r.ensures.1

pub row_cells_written-loop-x-init : goal.row_cells_written-loop-x-init
row_cells_written-loop-x-init t c =
    (row-start _ _ _ _ _ _ _ _ _ _ _ _ _ _ _ _ c.requires _ c.first_port-x.ensures, row-carried-start _ _ _ _ _ _ _ _ _ _ _ _ _ _ _ _ c.requires _ c.first_port-x.ensures)

pub row_cells_written-overflow_add-depth : goal.row_cells_written-overflow_add-depth
row_cells_written-overflow_add-depth t c =
    omega (arith, c.requires.begins.visit.depth)

pub row_cells_written-overflow_add-row : goal.row_cells_written-overflow_add-row
row_cells_written-overflow_add-row t c =
    record { fits = row-fits-64 _ _ _ _ _ _ _ _ _ _ _ _ _ _ _ c.requires.begins _ c.loop-x-test.true }

pub row_cells_written-with_port-requires : goal.row_cells_written-with_port-requires
row_cells_written-with_port-requires t c =
    digits-ready _ _ _ _ _ _ _ _ _ _ _ _ _ _ _ c.requires.begins _ c.loop-x-test.true

pub row_cells_written-cell_written-r-requires : goal.row_cells_written-cell_written-r-requires
row_cells_written-cell_written-r-requires t c =
    (omega (arith, c.decreases), cell-kept _ _ _ _ _ _ _ _ _ _ c.loop-x.invariant.1.fit c.loop-x.invariant.1.long _ _ _ _ _ (port-ready _ _ _ _ _ _ _ _ _ _ _ _ _ _ _ c.requires.begins _ _ _ c.loop-x-test.true c.with_port.ensures c.port_word.ensures))

pub row_cells_written-put_port-requires : goal.row_cells_written-put_port-requires
row_cells_written-put_port-requires t c =
    omega (arith, c.loop-x-test.true, c.loop-x.invariant.0.same_length, c.requires.begins.room)

pub row_cells_written-next_port-x-requires : goal.row_cells_written-next_port-x-requires
row_cells_written-next_port-x-requires t c =
    c.loop-x-test.true

pub row_cells_written-loop-x-smaller : goal.row_cells_written-loop-x-smaller
row_cells_written-loop-x-smaller t c =
    let n = row_step _ _ _ _ _ _ _ _ _ _ _ _ _ _ _ _ c.requires _ _ _ _ _ _ _ c.loop-x.invariant.0 c.loop-x-test.true (port-gives-later _ _ _ _ _ _ _ _ _ _ _ _ _ _ _ _ _ c.loop-x-test.true c.with_port.ensures c.port_word.ensures _ c.loop-x.invariant.1.fit c.loop-x.invariant.1.long c.loop-x.invariant.1.reached.so _ c.cell_written-r.ensures.0) c.wrapping_add_u32-changed.ensures.value c.next_port-x.ensures c.put_port.ensures in omega (arith, n.0, c.loop-x-test.true)

pub row_cells_written-loop-x-preserved : goal.row_cells_written-loop-x-preserved
row_cells_written-loop-x-preserved t c =
    ((row_step _ _ _ _ _ _ _ _ _ _ _ _ _ _ _ _ c.requires _ _ _ _ _ _ _ c.loop-x.invariant.0 c.loop-x-test.true (port-gives-later _ _ _ _ _ _ _ _ _ _ _ _ _ _ _ _ _ c.loop-x-test.true c.with_port.ensures c.port_word.ensures _ c.loop-x.invariant.1.fit c.loop-x.invariant.1.long c.loop-x.invariant.1.reached.so _ c.cell_written-r.ensures.0) c.wrapping_add_u32-changed.ensures.value c.next_port-x.ensures c.put_port.ensures).1, row-carried-step _ _ _ _ _ _ _ _ _ _ _ _ _ _ _ _ c.requires _ _ _ _ _ _ c.loop-x.invariant.1 c.loop-x-test.true c.with_port.ensures c.port_word.ensures c.cell_written-r.ensures.1 (all_fit _ (λ j. (c.slice_known-in-loop-x-1.given j).fits)) c.cell_written-r.auto.cells c.next_port-x.ensures)

pub row_cells_written-shape_of-cells : goal.row_cells_written-shape_of-cells
row_cells_written-shape_of-cells t c =
    c.loop-x.invariant.1.long

pub row_cells_written-shape_of-out : goal.row_cells_written-shape_of-out
row_cells_written-shape_of-out t c =
    c.loop-x.invariant.0.same_length

pub row_cells_written-returns : goal.row_cells_written-returns
row_cells_written-returns t c =
    (row-finished _ _ _ _ _ _ _ _ _ _ _ _ _ _ _ _ c.requires _ _ _ c.loop-x.invariant.0 c.loop-x-test.false, row-carried-all _ _ _ _ _ _ _ _ _ _ _ _ _ _ _ _ _ c.loop-x.invariant.1 c.loop-x-test.false)

pub row_tree_written-touched_at-requires : goal.row_tree_written-touched_at-requires
row_tree_written-touched_at-requires t c =
    node-low _ _ _ _ _ _ _ _ _ _ _ _ _ _ (first-ready _ _ _ _ _ _ _ _ _ _ _ _ _ _ _ c.requires.begins)

pub row_tree_written-row_at-requires : goal.row_tree_written-row_at-requires
row_tree_written-row_at-requires t c =
    (node-low _ _ _ _ _ _ _ _ _ _ _ _ _ _ (first-ready _ _ _ _ _ _ _ _ _ _ _ _ _ _ _ c.requires.begins), row_low _ _ _ _ _ _ _ _ _ _ _ _ _ _ _ c.requires.begins, omega (arith, row_within _ _ _ _ _ _ _ _ _ _ _ _ _ _ _ c.requires.begins _ refl))

pub row_tree_written-keep_row-requires : goal.row_tree_written-keep_row-requires
row_tree_written-keep_row-requires t c =
    (part_room _ _ _ _ _ _ _ _ _ _ _ _ _ _ _ c.requires.begins _ _ refl c.row_at.ensures, c.requires.begins.room)

pub row_tree_written-shape_of-out-then-not-touched_at : goal.row_tree_written-shape_of-out-then-not-touched_at
row_tree_written-shape_of-out-then-not-touched_at t c =
    c.keep_row.auto.out

pub row_tree_written-returns-then-not-touched_at : goal.row_tree_written-returns-then-not-touched_at
row_tree_written-returns-then-not-touched_at t c =
    (joins-kept _ _ _ _ _ _ _ _ _ _ _ _ _ _ _ _ _ (part-old _ _ _ _ _ _ _ refl c.row_at.ensures) _ _ c.requires refl (sym c.touched_at.ensures ∙ not-true _ c.if-not-touched_at.true-raw) c.keep_row.ensures, row-unmoved _ _ _ _ _ _ _ _ _ _ _ _ _ _ _ refl (sym c.touched_at.ensures ∙ not-true _ c.if-not-touched_at.true-raw))

pub row_tree_written-row_at-requires-2 : goal.row_tree_written-row_at-requires-2
row_tree_written-row_at-requires-2 t c =
    (node-low _ _ _ _ _ _ _ _ _ _ _ _ _ _ (first-ready _ _ _ _ _ _ _ _ _ _ _ _ _ _ _ c.requires.begins), row_low _ _ _ _ _ _ _ _ _ _ _ _ _ _ _ c.requires.begins, omega (arith, row_within _ _ _ _ _ _ _ _ _ _ _ _ _ _ _ c.requires.begins _ refl))

pub row_tree_written-copy_row-requires : goal.row_tree_written-copy_row-requires
row_tree_written-copy_row-requires t c =
    (part_room _ _ _ _ _ _ _ _ _ _ _ _ _ _ _ c.requires.begins _ _ refl c.row_at-2.ensures, c.requires.begins.ready.masks-settled.ports64)

pub row_tree_written-row_written-changed-requires : goal.row_tree_written-row_written-changed-requires
row_tree_written-row_written-changed-requires t c =
    (omega (arith, c.decreases), record { begins = again _ _ _ _ _ _ _ _ _ _ _ _ _ _ _ _ c.requires.begins c.requires.begins.ready.masks-settled.ports64; old_row = (copy-old _ _ _ _ _ _ _ _ (part-old _ _ _ _ _ _ _ refl c.row_at-2.ensures) c.copy_row.ensures); old-room = omega (arith, c.copy_row.auto.out, c.requires.begins.ready.masks-settled.ports64) })

pub row_tree_written-join_row-requires : goal.row_tree_written-join_row-requires
row_tree_written-join_row-requires t c =
    (omega (arith, c.row_written-changed.auto.out, c.requires.begins.ready.masks-settled.ports64), omega (arith, c.copy_row.auto.out, c.requires.begins.ready.masks-settled.ports64), c.requires.begins.room)

pub row_tree_written-shape_of-cells : goal.row_tree_written-shape_of-cells
row_tree_written-shape_of-cells t c =
    c.row_written-changed.auto.cells

pub row_tree_written-shape_of-out : goal.row_tree_written-shape_of-out
row_tree_written-shape_of-out t c =
    c.join_row.auto.out

pub row_tree_written-returns : goal.row_tree_written-returns
row_tree_written-returns t c =
    (joins-row _ _ _ _ _ _ _ _ _ _ _ _ _ _ _ _ _ (copy-old _ _ _ _ _ _ _ _ (part-old _ _ _ _ _ _ _ refl c.row_at-2.ensures) c.copy_row.ensures) _ _ _ c.row_written-changed.ensures.0 c.join_row.ensures, c.row_written-changed.ensures.1)

pub row_trees_written-loop-j-init : goal.row_trees_written-loop-j-init
row_trees_written-loop-j-init t c =
    rows-ahead-first _ _ _ _ _ _ _ _ _ _ _ _ _ _ _ _ _ c.requires

pub row_trees_written-row_tree_written-more-requires : goal.row_trees_written-row_tree_written-more-requires
row_trees_written-row_tree_written-more-requires t c =
    (omega (arith, c.decreases, c.loop-j.invariant.late), row-left _ _ _ _ _ _ _ _ _ _ _ _ _ _ _ _ _ c.loop-j.invariant.ready.0 c.loop-j-test.true)

pub row_trees_written-end_at-j-requires : goal.row_trees_written-end_at-j-requires
row_trees_written-end_at-j-requires t c =
    node-low _ _ _ _ _ _ _ _ _ _ _ _ _ _ (first-ready _ _ _ _ _ _ _ _ _ _ _ _ _ _ _ (row-left _ _ _ _ _ _ _ _ _ _ _ _ _ _ _ _ _ c.loop-j.invariant.ready.0 c.loop-j-test.true).begins)

pub row_trees_written-loop-j-smaller : goal.row_trees_written-loop-j-smaller
row_trees_written-loop-j-smaller t c =
    let n = rows-ahead-next _ _ _ _ _ _ _ _ _ _ _ _ _ _ _ _ _ _ _ _ _ _ _ _ _ _ c.loop-j.invariant c.loop-j-test.true c.end_at-j.ensures c.row_tree_written-more.ensures c.wrapping_add_u32-changed.ensures.value c.row_tree_written-more.auto.out (all_fit _ (λ j. (c.slice_known-in-loop-j-1.given j).fits)) c.row_tree_written-more.auto.cells in omega (arith, n.0, c.loop-j-test.true)

pub row_trees_written-loop-j-preserved : goal.row_trees_written-loop-j-preserved
row_trees_written-loop-j-preserved t c =
    (rows-ahead-next _ _ _ _ _ _ _ _ _ _ _ _ _ _ _ _ _ _ _ _ _ _ _ _ _ _ c.loop-j.invariant c.loop-j-test.true c.end_at-j.ensures c.row_tree_written-more.ensures c.wrapping_add_u32-changed.ensures.value c.row_tree_written-more.auto.out (all_fit _ (λ j. (c.slice_known-in-loop-j-1.given j).fits)) c.row_tree_written-more.auto.cells).1

pub row_trees_written-shape_of-cells : goal.row_trees_written-shape_of-cells
row_trees_written-shape_of-cells t c =
    c.loop-j.invariant.ready.1

pub row_trees_written-shape_of-out : goal.row_trees_written-shape_of-out
row_trees_written-shape_of-out t c =
    c.loop-j.invariant.ready.2

pub row_trees_written-returns : goal.row_trees_written-returns
row_trees_written-returns t c =
    rows-ahead-last _ _ _ _ _ _ _ _ _ _ _ _ _ _ _ _ _ _ _ _ _ c.loop-j.invariant c.loop-j-test.false

pub row_written-kind_at-kind-requires : goal.row_written-kind_at-kind-requires
row_written-kind_at-kind-requires t c =
    record-room _ _ _ _ _ _ _ _ _ _ _ _ _ _ (first-ready _ _ _ _ _ _ _ _ _ _ _ _ _ _ _ c.requires.begins)

pub row_written-every_at-every-requires : goal.row_written-every_at-every-requires
row_written-every_at-every-requires t c =
    node-low _ _ _ _ _ _ _ _ _ _ _ _ _ _ (first-ready _ _ _ _ _ _ _ _ _ _ _ _ _ _ _ c.requires.begins)

pub row_written-copy_row-requires : goal.row_written-copy_row-requires
row_written-copy_row-requires t c =
    (c.requires.old-room, c.requires.begins.room)

pub row_written-row_cells_written-requires : goal.row_written-row_cells_written-requires
row_written-row_cells_written-requires t c =
    (omega (arith, c.decreases), row-cells-ready _ _ _ _ _ _ _ _ _ _ _ _ _ _ _ _ c.requires.begins _ c.requires.old_row _ _ _ refl refl c.every_at-every.ensures (omega (arith, c.copy_row.auto.out, c.requires.begins.room)) c.copy_row.ensures)

pub row_written-shape_of-cells-then-by_cells : goal.row_written-shape_of-cells-then-by_cells
row_written-shape_of-cells-then-by_cells t c =
    c.row_cells_written.auto.cells

pub row_written-shape_of-out-then-by_cells : goal.row_written-shape_of-out-then-by_cells
row_written-shape_of-out-then-by_cells t c =
    c.row_cells_written.auto.out ∙ c.copy_row.auto.out

pub row_written-returns-then-by_cells : goal.row_written-returns-then-by_cells
row_written-returns-then-by_cells t c =
    c.row_cells_written.ensures

pub row_written-overflow_add-depth : goal.row_written-overflow_add-depth
row_written-overflow_add-depth t c =
    omega (arith, c.requires.begins.visit.depth)

pub row_written-literal_at-value-requires : goal.row_written-literal_at-value-requires
row_written-literal_at-value-requires t c =
    literal-ready _ _ _ _ _ _ _ _ _ _ _ _ _ _ (first-ready _ _ _ _ _ _ _ _ _ _ _ _ _ _ _ c.requires.begins) _ c.kind_at-kind.ensures c.if-kind-ge5.true

pub row_written-fill_row-requires : goal.row_written-fill_row-requires
row_written-fill_row-requires t c =
    c.requires.begins.room

pub row_written-place_at-requires : goal.row_written-place_at-requires
row_written-place_at-requires t c =
    (node-low _ _ _ _ _ _ _ _ _ _ _ _ _ _ (first-ready _ _ _ _ _ _ _ _ _ _ _ _ _ _ _ c.requires.begins), row_low _ _ _ _ _ _ _ _ _ _ _ _ _ _ _ c.requires.begins)

pub row_written-put_row-requires : goal.row_written-put_row-requires
row_written-put_row-requires t c =
    (omega (arith, c.fill_row.auto.out, c.requires.begins.room), omega (arith, row_within _ _ _ _ _ _ _ _ _ _ _ _ _ _ _ c.requires.begins _ c.place_at.ensures))

pub row_written-count_row-requires : goal.row_written-count_row-requires
row_written-count_row-requires t c =
    (omega (arith, c.fill_row.auto.out, c.requires.begins.room), c.requires.old-room)

pub row_written-shape_of-cells-then-kind-ge5 : goal.row_written-shape_of-cells-then-kind-ge5
row_written-shape_of-cells-then-kind-ge5 t c =
    c.put_row.auto.cells

pub row_written-shape_of-out-then-kind-ge5 : goal.row_written-shape_of-out-then-kind-ge5
row_written-shape_of-out-then-kind-ge5 t c =
    c.fill_row.auto.out

pub row_written-returns-then-kind-ge5 : goal.row_written-returns-then-kind-ge5
row_written-returns-then-kind-ge5 t c =
    literal-row-moved _ _ _ _ _ _ _ _ _ _ _ _ _ _ _ _ _ _ _ _ c.kind_at-kind.ensures c.place_at.ensures (gives-literal-row _ _ _ _ _ _ _ _ _ _ _ _ _ _ _ _ _ _ _ _ c.requires.old_row c.kind_at-kind.ensures refl refl c.every_at-every.ensures (by_rows c.every_at-every.result c.kind_at-kind.result _ c.by_cells.ensures c.if-by_cells.false).0 _ _ _ c.if-kind-ge5.true c.literal_at-value.ensures c.fill_row.ensures c.count_row.ensures) c.put_row.ensures c.if-kind-ge5.true refl

pub row_written-begin_row-requires : goal.row_written-begin_row-requires
row_written-begin_row-requires t c =
    (c.requires.old-room, c.requires.begins.room)

pub row_written-overflow_add-i : goal.row_written-overflow_add-i
row_written-overflow_add-i t c =
    omega (arith, node-low _ _ _ _ _ _ _ _ _ _ _ _ _ _ (first-ready _ _ _ _ _ _ _ _ _ _ _ _ _ _ _ c.requires.begins))

pub row_written-end_at-requires : goal.row_written-end_at-requires
row_written-end_at-requires t c =
    node-low _ _ _ _ _ _ _ _ _ _ _ _ _ _ (first-ready _ _ _ _ _ _ _ _ _ _ _ _ _ _ _ c.requires.begins)

pub row_written-row_trees_written-changed-requires : goal.row_written-row_trees_written-changed-requires
row_written-row_trees_written-changed-requires t c =
    (omega (arith, c.decreases, node-low _ _ _ _ _ _ _ _ _ _ _ _ _ _ (first-ready _ _ _ _ _ _ _ _ _ _ _ _ _ _ _ c.requires.begins)), row-trees-ready _ _ _ _ _ _ _ _ _ _ _ _ _ _ _ _ c.requires.begins _ _ _ _ c.requires.old_row c.kind_at-kind.ensures c.if-kind-ge5.false (by_rows c.every_at-every.result c.kind_at-kind.result _ c.by_cells.ensures c.if-by_cells.false).1 c.end_at.ensures (omega (arith, c.begin_row.auto.out, c.requires.begins.room)) c.begin_row.ensures)

pub row_written-place_at-requires-2 : goal.row_written-place_at-requires-2
row_written-place_at-requires-2 t c =
    (node-low _ _ _ _ _ _ _ _ _ _ _ _ _ _ (first-ready _ _ _ _ _ _ _ _ _ _ _ _ _ _ _ c.requires.begins), row_low _ _ _ _ _ _ _ _ _ _ _ _ _ _ _ c.requires.begins)

pub row_written-put_row-requires-2 : goal.row_written-put_row-requires-2
row_written-put_row-requires-2 t c =
    (omega (arith, c.row_trees_written-changed.auto.out, c.begin_row.auto.out, c.requires.begins.room), omega (arith, row_within _ _ _ _ _ _ _ _ _ _ _ _ _ _ _ c.requires.begins _ c.place_at-2.ensures, c.row_trees_written-changed.auto.cells))

pub row_written-count_row-requires-2 : goal.row_written-count_row-requires-2
row_written-count_row-requires-2 t c =
    (omega (arith, c.row_trees_written-changed.auto.out, c.begin_row.auto.out, c.requires.begins.room), c.requires.old-room)

pub row_written-shape_of-cells : goal.row_written-shape_of-cells
row_written-shape_of-cells t c =
    c.put_row-2.auto.cells ∙ c.row_trees_written-changed.auto.cells

pub row_written-shape_of-out : goal.row_written-shape_of-out
row_written-shape_of-out t c =
    c.row_trees_written-changed.auto.out ∙ c.begin_row.auto.out

pub row_written-returns : goal.row_written-returns
row_written-returns t c =
    joint-row-moved _ _ _ _ _ _ _ _ _ _ _ _ _ _ _ _ _ _ _ _ c.kind_at-kind.ensures c.place_at-2.ensures (gives-joint-row _ _ _ _ _ _ _ _ _ _ _ _ _ _ _ _ _ _ _ _ c.requires.old_row c.kind_at-kind.ensures refl refl c.every_at-every.ensures (by_rows c.every_at-every.result c.kind_at-kind.result _ c.by_cells.ensures c.if-by_cells.false).0 _ _ _ _ _ _ _ c.if-kind-ge5.false (by_rows c.every_at-every.result c.kind_at-kind.result _ c.by_cells.ensures c.if-by_cells.false).1 c.end_at.ensures c.adds_of-add.ensures c.begin_row.ensures c.row_trees_written-changed.ensures.0 c.count_row-2.ensures c.wrapping_add_u32.ensures.value) c.put_row-2.ensures _ c.end_at.ensures c.if-kind-ge5.false (by_rows c.every_at-every.result c.kind_at-kind.result _ c.by_cells.ensures c.if-by_cells.false).1 c.row_trees_written-changed.ensures.1

pub tree_written-kind_at-requires : goal.tree_written-kind_at-requires
tree_written-kind_at-requires t c =
    record-room _ _ _ _ _ _ _ _ _ _ _ _ _ _ c.requires.begins

pub tree_written-cell_at-old-requires : goal.tree_written-cell_at-old-requires
tree_written-cell_at-old-requires t c =
    (node-low _ _ _ _ _ _ _ _ _ _ _ _ _ _ c.requires.begins, cell_room _ _ _ _ _ _ _ _ _ _ _ _ _ _ c.requires.begins)

pub tree_written-literal_outcome-r-requires : goal.tree_written-literal_outcome-r-requires
tree_written-literal_outcome-r-requires t c =
    literal-ready _ _ _ _ _ _ _ _ _ _ _ _ _ _ c.requires.begins _ c.kind_at.ensures c.if-kind_at-ge5.true

pub tree_written-put_cell-requires : goal.tree_written-put_cell-requires
tree_written-put_cell-requires t c =
    (node-low _ _ _ _ _ _ _ _ _ _ _ _ _ _ c.requires.begins, cell_room _ _ _ _ _ _ _ _ _ _ _ _ _ _ c.requires.begins)

pub tree_written-returns-then-kind_at-ge5 : goal.tree_written-returns-then-kind_at-ge5
tree_written-returns-then-kind_at-ge5 t c =
    literal-moved _ _ _ _ _ _ _ _ _ _ _ _ _ _ _ refl _ c.kind_at.ensures _ (gives-literal _ _ _ _ _ _ _ _ _ _ _ _ _ _ _ _ c.cell_at-old.ensures refl _ c.requires.touched c.kind_at.ensures _ _ c.if-kind_at-ge5.true c.literal_outcome-r.ensures.0 (c.literal_outcome-r.ensures.1, refl, c.literal_outcome-r.ensures.2)) _ refl _ _ c.put_cell.ensures c.if-kind_at-ge5.true refl

pub tree_written-cell_written-requires : goal.tree_written-cell_written-requires
tree_written-cell_written-requires t c =
    (omega (arith, c.decreases), c.requires.begins)

pub tree_written-shape_of-cells : goal.tree_written-shape_of-cells
tree_written-shape_of-cells t c =
    c.cell_written.auto.cells

pub tree_written-returns : goal.tree_written-returns
tree_written-returns t c =
    c.cell_written.ensures

pub trees_written-loop-j-init : goal.trees_written-loop-j-init
trees_written-loop-j-init t c =
    ahead-first _ _ _ _ _ _ _ _ _ _ _ _ _ _ _ _ _ c.requires

pub trees_written-touched_at-requires : goal.trees_written-touched_at-requires
trees_written-touched_at-requires t c =
    node-low _ _ _ _ _ _ _ _ _ _ _ _ _ _ (some_left _ _ _ _ _ _ _ _ _ _ _ _ _ _ _ _ c.loop-j.invariant.ready.0 c.loop-j-test.true)

pub trees_written-tree_written-r-requires : goal.trees_written-tree_written-r-requires
trees_written-tree_written-r-requires t c =
    (omega (arith, c.decreases, c.loop-j.invariant.late), touched-ready _ _ _ _ _ _ _ _ _ _ _ _ _ _ (some_left _ _ _ _ _ _ _ _ _ _ _ _ _ _ _ _ c.loop-j.invariant.ready.0 c.loop-j-test.true) _ _ refl c.touched_at.ensures c.if-touched_at.true)

pub trees_written-kept-requires : goal.trees_written-kept-requires
trees_written-kept-requires t c =
    let r = some_left _ _ _ _ _ _ _ _ _ _ _ _ _ _ _ _ c.loop-j.invariant.ready.0 c.loop-j-test.true in (node-low _ _ _ _ _ _ _ _ _ _ _ _ _ _ r, cell_room _ _ _ _ _ _ _ _ _ _ _ _ _ _ r)

pub trees_written-end_at-j-requires : goal.trees_written-end_at-j-requires
trees_written-end_at-j-requires t c =
    node-low _ _ _ _ _ _ _ _ _ _ _ _ _ _ (some_left _ _ _ _ _ _ _ _ _ _ _ _ _ _ _ _ c.loop-j.invariant.ready.0 c.loop-j-test.true)

pub trees_written-shape_of-cells : goal.trees_written-shape_of-cells
trees_written-shape_of-cells t c =
    c.loop-j.invariant.ready.1

pub trees_written-returns : goal.trees_written-returns
trees_written-returns t c =
    ahead-last _ _ _ _ _ _ _ _ _ _ _ _ _ _ _ _ _ _ _ _ c.loop-j.invariant c.loop-j-test.false

pub trees_written-loop-j-smaller : goal.trees_written-loop-j-smaller
trees_written-loop-j-smaller t c =
    let n = ahead-next _ _ _ _ _ _ _ _ _ _ _ _ _ _ _ _ _ _ _ _ _ _ _ c.loop-j.invariant c.loop-j-test.true c.end_at-j.ensures (elim c.if-touched_at.branch [
      | trees_written-then-touched_at w ↦ moved_as _ _ _ _ _ _ _ _ _ _ _ _ _ _ _ _ _ _ _ _ w.cells-is w.sum-is record { found = w.tree_written-r.result; gives = w.tree_written-r.ensures.0; joined = w.join-sum.ensures; writes = w.tree_written-r.ensures.1; fit = all_fit _ (λ j. (w.slice_known-then-touched_at-1.given j).fits); long = w.tree_written-r.auto.cells }
      | trees_written-else-touched_at w ↦ moved_as _ _ _ _ _ _ _ _ _ _ _ _ _ _ _ _ _ _ _ _ w.cells-is w.sum-is (let g = untouched-moved _ _ _ _ _ _ _ _ _ _ _ _ _ _ _ refl (sym c.touched_at.ensures ∙ w.if-touched_at.false) _ (gives-untouched _ _ _ _ _ _ _ _ _ _ _ _ _ _ _ _ w.kept.ensures.0 refl _ (sym c.touched_at.ensures ∙ w.if-touched_at.false) refl w.kept.ensures.1 w.kept.ensures.2) in record { found = w.kept.result; gives = g.0; joined = w.join-sum-else-touched_at.ensures; writes = g.1; fit = c.loop-j.invariant.ready.0.ready.cells_fit; long = refl })
    ]) in omega (arith, n.0, c.loop-j-test.true)

pub trees_written-loop-j-preserved : goal.trees_written-loop-j-preserved
trees_written-loop-j-preserved t c =
    (ahead-next _ _ _ _ _ _ _ _ _ _ _ _ _ _ _ _ _ _ _ _ _ _ _ c.loop-j.invariant c.loop-j-test.true c.end_at-j.ensures (elim c.if-touched_at.branch [
      | trees_written-then-touched_at w ↦ moved_as _ _ _ _ _ _ _ _ _ _ _ _ _ _ _ _ _ _ _ _ w.cells-is w.sum-is record { found = w.tree_written-r.result; gives = w.tree_written-r.ensures.0; joined = w.join-sum.ensures; writes = w.tree_written-r.ensures.1; fit = all_fit _ (λ j. (w.slice_known-then-touched_at-1.given j).fits); long = w.tree_written-r.auto.cells }
      | trees_written-else-touched_at w ↦ moved_as _ _ _ _ _ _ _ _ _ _ _ _ _ _ _ _ _ _ _ _ w.cells-is w.sum-is (let g = untouched-moved _ _ _ _ _ _ _ _ _ _ _ _ _ _ _ refl (sym c.touched_at.ensures ∙ w.if-touched_at.false) _ (gives-untouched _ _ _ _ _ _ _ _ _ _ _ _ _ _ _ _ w.kept.ensures.0 refl _ (sym c.touched_at.ensures ∙ w.if-touched_at.false) refl w.kept.ensures.1 w.kept.ensures.2) in record { found = w.kept.result; gives = g.0; joined = w.join-sum-else-touched_at.ensures; writes = g.1; fit = c.loop-j.invariant.ready.0.ready.cells_fit; long = refl })
    ])).1
