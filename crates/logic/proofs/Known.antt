-- The known plans and the computed examples hold, all in one statement. Assumes nothing.
use mathlib.Core.Path.{◌≡◌, refl}
use mathlib.Core.Bool.{true}
use Rattle.logic.specs.Formula.{literal_of, node_count, child_depth}
use Rattle.logic.specs.Configuration.{indicator, ports_in, out_of_test, configuration, configured, in_mask, in_masks, spelled, enter, leave}
use Rattle.logic.specs.Truth.{port_of}
use Rattle.logic.specs.Penalty.{compare, size_penalty, test_penalty, literal_penalty, sum, least, copy, combine, each_port, below, penalties, penalty}
use Rattle.logic.specs.Cells.{cell_count, place_of, tuple_at, tabulate, sibling_first, layout, own_cells, cells, root_penalty}
use Rattle.logic.specs.Moves.{move_kind, fields_known, fields_fit, known, fits, legal, refusal, move_grounds, kind_masks, named_masks, move_masks, kind_pairs, named_pairs, move_pairs, kind_weight, kinds_known, of_kinds}
use Rattle.logic.specs.Change.{some_of, pairs_change, member_hit, hit, node_hit, forest_hit, touched, touched_count, modulus, differences, new_numbers, renew, cell_of, renewals, new_cell, new_cells, differing}
use Rattle.logic.specs.InTest.{test_grounds, test_masks, test_change}
use Rattle.logic.specs.Known.{literal, over, plan, plan_a, masks_a, plan_c, plan_d, size_plan, deep_plan, wide_plan, one_plan, empty_plan, move, same, became, holds, all_hold, starred, computed, grounds, tests, sums, examples}

pub examples-hold : all_hold examples ≡ true
unfolding literal_of node_count child_depth indicator ports_in out_of_test configuration configured in_mask in_masks spelled enter leave port_of compare size_penalty test_penalty literal_penalty sum least copy combine each_port below penalties penalty cell_count place_of tuple_at tabulate sibling_first layout own_cells cells root_penalty move_kind fields_known fields_fit known fits legal refusal move_grounds kind_masks named_masks move_masks kind_pairs named_pairs move_pairs kind_weight kinds_known of_kinds some_of pairs_change member_hit hit node_hit forest_hit touched touched_count modulus differences new_numbers renew cell_of renewals new_cell new_cells differing test_grounds test_masks test_change literal over plan plan_a masks_a plan_c plan_d size_plan deep_plan wide_plan one_plan empty_plan move same became holds all_hold starred computed grounds tests sums examples
examples-hold = refl
