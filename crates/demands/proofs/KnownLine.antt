-- "Plan A prints `penalty 1 cells 34`": the line for plan A's input, by the definitions. Assumes nothing.
use mathlib.Core.Path.{◌≡◌, refl, ap}
use mathlib.Core.List.{List, [], ◌∷◌}
use Prim.Native.Nat.{ℕ}
use Rattle.logic.specs.Formula.{relation_number, relation_of, literal_of, test_kind, kind_number, node_count, child_depth}
use Rattle.logic.specs.Configuration.{indicator, ports_in, out_of_test, configuration, configured, in_mask, in_masks, own_masks, spelled, within_ports, all_within}
use Rattle.logic.specs.Truth.{port_of}
use Rattle.logic.specs.Penalty.{compare, size_penalty, test_penalty, literal_penalty, sum, least, copy, combine, each_port, below, penalties, penalty}
use Rattle.logic.specs.Cells.{cell_count, place_of, tuple_at, tabulate, sibling_first, layout, own_cells, cells, root_penalty}
use Rattle.logic.specs.Moves.{refusal}
use Rattle.logic.specs.Change.{some_of}
use Rattle.text_tree.specs.Tree.{letters_of, too_deep}
use Rattle.text_tokens.specs.Tokens.{blanks, after_blanks, single_kind, sign_of, digits, number_of, digits_of, run_at, run_token, here_at, token_at, blanks_and_signs, among, known_byte, known_bytes}
use Rattle.text_grammar.specs.Parser.{arrow_of, quantifier_of, parse_at, sets_at, after_sets, parsed}
use Rattle.text_core.specs.Names.{set_number, variable_number, declared_twice, misdeclared, misnamed_test, misnamed, ground5, high_constant, ground6, fourth, ground7}
use Rattle.text_core.specs.Core.{joint_node, joint, two, quantifier_node, opposite, relation_at, member_at, test_at, literal_at, join_with, place, core_of, plan_of}
use Rattle.text_core.specs.Grounds.{core_grounds}
use Rattle.table_format.specs.Bytes.{header_length, record_length, records_from, records_of, word, word_bytes, kind_field, relation_field, a_field, b_field, end_field, ports_field, sets_field, nodes_field, test_relation, test_a, test_b, relation_byte, a_byte, b_byte, test_of, node_of, record_bytes, record_of, records, header, encoding}
use Rattle.table_format.specs.Rules.{every_node, tree_count, arity_rule, may_nest, nesting_rule, depth_rule, test_rule, literal_rule, inner_rule, node_rule, formula_rule, most_cells, plan_rule}
use Rattle.table_format.specs.Decode.{forest_of, candidate, begins, decode}
use Rattle.contracts.specs.Read.{table_length, syntax_grounds, text_grounds, read_grounds, read_or, reads}
use Rattle.contracts.specs.State.{own_tables, with_rest}
use Rattle.contracts.specs.Load.{load_refused, load_grounds, loaded_masks, loaded_tables, loads_own, loads}
use Rattle.contracts.specs.Call.{plan_grounds, table_grounds, tables_then, call_grounds, call_or, call}
use Rattle.planroot_print.specs.declared.Line.TheVariants.{Penalty}
use Rattle.planroot_print.specs.Line.{is_penalty, line_root, line_total, decimal, penalty_bytes, line_bytes}
use Rattle.planroot_line.specs.Loading.{load_line}
use Rattle.planroot_line.specs.Line.{none_in_test, read_line, text_line, zeros, input_line}
use Rattle.text_core.specs.Names as Names
use Rattle.planroot_input.specs.Lines as Lines

-- plan A's input
abbrev input_a : List ℕ
input_a = 51 ∷ 10 ∷ 51 ∷ 32 ∷ 55 ∷ 32 ∷ 49 ∷ 10 ∷ 91 ∷ 83 ∷ 84 ∷ 73 ∷ 93 ∷ 32 ∷ 64 ∷ 120 ∷ 32 ∷ 40 ∷ 120 ∷ 58 ∷ 73 ∷ 32 ∷ 60 ∷ 45 ∷ 62 ∷ 32 ∷ 120 ∷ 58 ∷ 83 ∷ 32 ∷ 38 ∷ 32 ∷ 120 ∷ 58 ∷ 84 ∷ 41 ∷ 32 ∷ 38 ∷ 32 ∷ 35 ∷ 73 ∷ 32 ∷ 60 ∷ 61 ∷ 32 ∷ 49 ∷ 10 ∷ []

pub known-A : input_line input_a ≡ Penalty 1 34
unfolding relation_number relation_of literal_of test_kind kind_number node_count child_depth indicator ports_in out_of_test configuration configured in_mask in_masks own_masks spelled within_ports port_of compare size_penalty test_penalty literal_penalty sum least copy combine each_port below penalties penalty cell_count place_of tuple_at tabulate sibling_first layout own_cells cells root_penalty refusal some_of letters_of too_deep blanks after_blanks single_kind sign_of digits number_of run_at run_token here_at token_at blanks_and_signs among known_byte known_bytes arrow_of quantifier_of parse_at sets_at after_sets parsed Names.among set_number variable_number declared_twice misdeclared misnamed_test misnamed ground5 high_constant ground6 fourth ground7 joint_node joint two quantifier_node opposite relation_at member_at test_at literal_at join_with place core_of plan_of core_grounds header_length record_length word word_bytes kind_field relation_field a_field b_field end_field ports_field sets_field nodes_field test_relation test_a test_b relation_byte a_byte b_byte test_of node_of record_bytes record_of records header encoding every_node tree_count arity_rule may_nest nesting_rule depth_rule test_rule literal_rule inner_rule node_rule formula_rule most_cells plan_rule forest_of candidate begins decode table_length syntax_grounds text_grounds read_grounds read_or reads zeros all_within load_grounds loaded_masks loaded_tables load_refused loads_own loads plan_grounds table_grounds tables_then call_grounds call_or call own_tables with_rest Lines.line Lines.behind Lines.ends Lines.before Lines.words Lines.digits_only Lines.begins_well Lines.value Lines.is_run Lines.all_runs Lines.values Lines.sound Lines.ports Lines.masks Lines.text load_line none_in_test read_line text_line input_line records_from records_of
known-A = refl

-- its bytes: `penalty 1 cells 34` and a line end
pub known-A-bytes : line_bytes (input_line input_a)
    ≡ 112 ∷ 101 ∷ 110 ∷ 97 ∷ 108 ∷ 116 ∷ 121 ∷ 32 ∷ 49 ∷ 32 ∷ 99 ∷ 101 ∷ 108 ∷ 108 ∷ 115 ∷ 32 ∷ 51 ∷ 52 ∷ 10 ∷ []
unfolding is_penalty line_root line_total digits_of decimal penalty_bytes line_bytes
known-A-bytes = ap line_bytes known-A
