-- Each string of the list breaks a rule, and the sound tables that they are made from spell their plans. Assumes nothing.
use mathlib.Core.Path.{◌≡◌, refl}
use mathlib.Core.List.{List, map}
use Prim.Native.Nat.{ℕ}
use Rattle.logic.specs.Formula.{Plan, relation_number, relation_of, literal_of, test_kind, kind_number, node_count, child_depth}
use Rattle.logic.specs.Cells.{cell_count, own_cells}
use Rattle.logic.specs.Known.{literal, over, plan}
use Rattle.table_format.specs.Bytes.{header_length, record_length, records_from, records_of, word, word_bytes, kind_field, relation_field, a_field, b_field, end_field, ports_field, sets_field, nodes_field, test_relation, test_a, test_b, relation_byte, a_byte, b_byte, test_of, node_of, record_bytes, record_of, records, header, encoding}
use Rattle.table_format.specs.Rules.{every_node, tree_count, arity_rule, may_nest, nesting_rule, depth_rule, test_rule, literal_rule, inner_rule, node_rule, formula_rule, most_cells, plan_rule}
use Rattle.table_format.specs.Decode.{forest_of, candidate, begins, broken, sound, decode}
use Rattle.table_format.specs.BrokenTables.{table, row, byte_of, sized, all_sized, all_same, any_or, and_or, three, four, two_wide, three_wide, sizes, many, size_literals, sound_tables, broken_headers, broken_fields, broken_places, broken_tables}

pub tables-judged : (map decode broken_tables ≡ map (λ (l : List ℕ). broken) broken_tables)
    × (map (λ (t : List ℕ × Plan). decode t.0) sound_tables ≡ map (λ (t : List ℕ × Plan). sound t.1) sound_tables)
unfolding relation_number relation_of literal_of test_kind kind_number node_count child_depth cell_count own_cells literal over plan header_length record_length records_from records_of word word_bytes kind_field relation_field a_field b_field end_field ports_field sets_field nodes_field test_relation test_a test_b relation_byte a_byte b_byte test_of node_of record_bytes record_of records header encoding every_node tree_count arity_rule may_nest nesting_rule depth_rule test_rule literal_rule inner_rule node_rule formula_rule most_cells plan_rule forest_of candidate begins decode table row byte_of sized all_sized all_same any_or and_or three four two_wide three_wide sizes many size_literals sound_tables broken_headers broken_fields broken_places broken_tables
tables-judged = (refl, refl)
