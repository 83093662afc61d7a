-- Sums over atoms, computed. Assumes nothing.
use mathlib.Core.Path.{◌≡◌, refl}
use mathlib.Core.List.{[], ◌∷◌}
use Rattle.logic.specs.Formula.{literal_of, child_depth}
use Rattle.logic.specs.Configuration.{indicator, ports_in, out_of_test, configuration, configured, in_mask, in_masks, spelled}
use Rattle.logic.specs.Truth.{port_of}
use Rattle.logic.specs.Penalty.{compare, size_penalty, test_penalty, literal_penalty, sum, least, copy, combine, each_port, below, penalties, penalty}
use Rattle.logic.specs.Cells.{cell_count, place_of, tuple_at, tabulate, sibling_first, layout, cells}
use Rattle.logic.specs.Change.{some_of, pairs_change, member_hit, hit, node_hit, forest_hit, touched, modulus, differences, new_numbers, renew, cell_of, renewals, new_cell}
use Rattle.logic.specs.Known.{literal, over, plan, plan_a, masks_a}
use Rattle.cells_atoms.specs.inner.Atoms.{is_atom, over_atoms, of_atoms, over_tuples, difference}

-- plan A has two "or" at each of three ports, and a size literal
atoms-A : over_atoms 3 (λ n c b d e. 1) plan_a.formula 0 0 [] ≡ 7
unfolding over_atoms is_atom plan_a plan over literal literal_of child_depth sibling_first cell_count below each_port sum
atoms-A = refl

-- the same atom by atom
atoms-A-each : of_atoms 3 (λ n c b d. over_tuples 3 d (λ e. 1) []) plan_a.formula 0 0 ≡ 7
unfolding of_atoms over_tuples is_atom plan_a plan over literal literal_of child_depth sibling_first cell_count each_port sum
atoms-A-each = refl

-- port 1 leaves T: one "or" at port 1 falls from 1 to 0, the other stays 0, and the root falls by 1
dropped-A : over_atoms 3 (difference 3 (spelled plan_a (3 ∷ 5 ∷ 1 ∷ 0 ∷ [])) (pairs_change ((1, 1) ∷ [])) (cell_of 3 (cells plan_a (spelled plan_a masks_a)))) plan_a.formula 0 0 [] ≡ 8589934591
unfolding over_atoms is_atom difference plan_a masks_a plan over literal literal_of child_depth sibling_first cell_count below each_port sum least copy combine penalties penalty spelled configuration configured in_masks in_mask ports_in out_of_test indicator port_of compare size_penalty test_penalty literal_penalty cells layout tabulate tuple_at place_of cell_of pairs_change some_of member_hit hit node_hit forest_hit touched modulus differences new_numbers renew renewals new_cell
dropped-A = refl
