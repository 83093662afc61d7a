-- The known texts are read as the foundation's plans, and the refused ones are refused. Assumes nothing.
use mathlib.Core.Path.{◌≡◌, refl}
use mathlib.Core.Bool.{true}
use Rattle.logic.specs.Formula.{relation_number, relation_of, literal_of, test_kind, kind_number, node_count, child_depth}
use Rattle.logic.specs.Cells.{cell_count, own_cells}
use Rattle.logic.specs.Moves.{refusal}
use Rattle.logic.specs.Change.{some_of}
use Rattle.logic.specs.Known.{literal, over, plan, plan_a, plan_c, plan_d, size_plan}
use Rattle.text_tree.specs.Tree.{letters_of, too_deep}
use Rattle.text_tokens.specs.Tokens.{blanks, after_blanks, single_kind, sign_of, digits, number_of, run_at, run_token, here_at, token_at, blanks_and_signs, among, known_byte, known_bytes}
use Rattle.text_grammar.specs.Parser.{arrow_of, quantifier_of, parse_at, sets_at, after_sets, parsed}
use Rattle.text_core.specs.Names.{set_number, variable_number, declared_twice, misdeclared, misnamed_test, misnamed, ground5, high_constant, ground6, fourth, ground7}
use Rattle.text_core.specs.Core.{joint_node, joint, two, quantifier_node, opposite, relation_at, member_at, test_at, literal_at, join_with, place, core_of, plan_of}
use Rattle.text_core.specs.Grounds.{core_grounds}
use Rattle.table_format.specs.Bytes.{header_length, record_length, records_from, word_bytes, test_relation, test_a, test_b, relation_byte, a_byte, b_byte, record_of, record_bytes, records, header, encoding}
use Rattle.contracts.specs.Read.{read_refused, table_length, syntax_grounds, text_grounds, read_grounds, read_or, reads}
use Rattle.demands.specs.KnownTexts.{blank_table, AllRead, known_texts, all_answered, answers}
use Rattle.text_core.specs.Names as Names

pub texts-read : AllRead known_texts
unfolding relation_number relation_of literal_of test_kind kind_number node_count child_depth cell_count own_cells refusal some_of letters_of literal over plan plan_a plan_c plan_d size_plan too_deep blanks after_blanks single_kind sign_of digits number_of run_at run_token here_at token_at blanks_and_signs among known_byte known_bytes arrow_of quantifier_of parse_at sets_at after_sets parsed Names.among set_number variable_number declared_twice misdeclared misnamed_test misnamed ground5 high_constant ground6 fourth ground7 joint_node joint two quantifier_node opposite relation_at member_at test_at literal_at join_with place core_of plan_of core_grounds header_length record_length records_from word_bytes test_relation test_a test_b relation_byte a_byte b_byte record_of record_bytes records header encoding table_length syntax_grounds text_grounds read_grounds read_or reads blank_table AllRead known_texts
texts-read = (refl, (refl, (refl, (refl, (refl, (refl, (refl, tt)))))))

pub texts-answered : all_answered answers ≡ true
unfolding relation_number relation_of literal_of test_kind kind_number node_count child_depth cell_count own_cells refusal some_of letters_of too_deep blanks after_blanks single_kind sign_of digits number_of run_at run_token here_at token_at blanks_and_signs among known_byte known_bytes arrow_of quantifier_of parse_at sets_at after_sets parsed Names.among set_number variable_number declared_twice misdeclared misnamed_test misnamed ground5 high_constant ground6 fourth ground7 joint_node joint two quantifier_node opposite relation_at member_at test_at literal_at join_with place core_of plan_of core_grounds header_length record_length records_from table_length syntax_grounds text_grounds read_grounds read_refused read_or reads blank_table all_answered answers
texts-answered = refl
