-- Known plans as texts, computed. Assumes nothing.
use mathlib.Core.Path.{◌≡◌, refl}
use mathlib.Core.Bool.{false}
use mathlib.Core.List.{List, [], ◌∷◌}
use Prim.Native.Nat.{ℕ}
use Rattle.logic.specs.Formula.{literal_of, child_depth, gt}
use Rattle.logic.specs.Known.{literal, over, plan, plan_a, plan_c, deep_plan, size_plan}
use Rattle.text_tokens.specs.Tokens.{digits_of}
use Rattle.text_tree.specs.Tree.{letters_of, too_deep}
use Rattle.text_form.specs.Form.{set_byte, variable_byte, lettered_test, lettered_literal, own_level, child_level, needs_brackets, enclosed, node_tree, join_of, beside, children_tree, tree_of, sets_from, sets_of}
use Rattle.text_form.specs.Spelling.{relation_bytes, join_bytes, quantifier_byte, spaced, constant_bytes, test_bytes, tree_bytes, text_bytes, plan_text}

-- `[ABC] @a ((a/C | a:A & a:B) & (a:C | a/A | a/B)) & #C <= 1`
abbrev pub text_a : List ℕ
text_a = 91 ∷ 65 ∷ 66 ∷ 67 ∷ 93 ∷ 32 ∷ 64 ∷ 97 ∷ 32 ∷ 40 ∷ 40 ∷ 97 ∷ 47 ∷ 67 ∷ 32 ∷ 124 ∷ 32 ∷ 97 ∷ 58 ∷ 65 ∷ 32 ∷ 38 ∷ 32 ∷ 97 ∷ 58 ∷ 66 ∷ 41 ∷ 32 ∷ 38 ∷ 32 ∷ 40 ∷ 97 ∷ 58 ∷ 67 ∷ 32 ∷ 124 ∷ 32 ∷ 97 ∷ 47 ∷ 65 ∷ 32 ∷ 124 ∷ 32 ∷ 97 ∷ 47 ∷ 66 ∷ 41 ∷ 41 ∷ 32 ∷ 38 ∷ 32 ∷ 35 ∷ 67 ∷ 32 ∷ 60 ∷ 61 ∷ 32 ∷ 49 ∷ []

pub text-A : plan_text plan_a ≡ text_a
unfolding plan_text text_bytes tree_bytes test_bytes constant_bytes digits_of spaced relation_bytes join_bytes quantifier_byte letters_of sets_of sets_from tree_of children_tree beside join_of node_tree enclosed needs_brackets child_level own_level lettered_literal lettered_test variable_byte set_byte child_depth literal_of plan_a plan over literal
text-A = refl

-- two brackets and a quantifier stand around its innermost tokens
pub shallow-A : too_deep 0 (tree_of plan_a) ≡ false
unfolding too_deep tree_of children_tree beside join_of node_tree enclosed needs_brackets child_level own_level child_depth plan_a plan over literal
shallow-A = refl

-- `[AB] @a (a/A | a:B) & ?a (a:B & a/A)`
pub text-C : plan_text plan_c ≡ 91 ∷ 65 ∷ 66 ∷ 93 ∷ 32 ∷ 64 ∷ 97 ∷ 32 ∷ 40 ∷ 97 ∷ 47 ∷ 65 ∷ 32 ∷ 124 ∷ 32 ∷ 97 ∷ 58 ∷ 66 ∷ 41 ∷ 32 ∷ 38 ∷ 32 ∷ 63 ∷ 97 ∷ 32 ∷ 40 ∷ 97 ∷ 58 ∷ 66 ∷ 32 ∷ 38 ∷ 32 ∷ 97 ∷ 47 ∷ 65 ∷ 41 ∷ []
unfolding plan_text text_bytes tree_bytes test_bytes constant_bytes digits_of spaced relation_bytes join_bytes quantifier_byte letters_of sets_of sets_from tree_of children_tree beside join_of node_tree enclosed needs_brackets child_level own_level lettered_literal lettered_test variable_byte set_byte child_depth literal_of plan_c plan over literal
text-C = refl

-- `[A] @a @b @c (a:A & b:A & c:A)`
pub text-deep : plan_text deep_plan ≡ 91 ∷ 65 ∷ 93 ∷ 32 ∷ 64 ∷ 97 ∷ 32 ∷ 64 ∷ 98 ∷ 32 ∷ 64 ∷ 99 ∷ 32 ∷ 40 ∷ 97 ∷ 58 ∷ 65 ∷ 32 ∷ 38 ∷ 32 ∷ 98 ∷ 58 ∷ 65 ∷ 32 ∷ 38 ∷ 32 ∷ 99 ∷ 58 ∷ 65 ∷ 41 ∷ []
unfolding plan_text text_bytes tree_bytes test_bytes constant_bytes digits_of spaced relation_bytes join_bytes quantifier_byte letters_of sets_of sets_from tree_of children_tree beside join_of node_tree enclosed needs_brackets child_level own_level lettered_literal lettered_test variable_byte set_byte child_depth literal_of deep_plan plan over literal
text-deep = refl

-- `[A] #A > 64`
pub text-size : plan_text (size_plan gt 64) ≡ 91 ∷ 65 ∷ 93 ∷ 32 ∷ 35 ∷ 65 ∷ 32 ∷ 62 ∷ 32 ∷ 54 ∷ 52 ∷ []
unfolding plan_text text_bytes tree_bytes test_bytes constant_bytes digits_of spaced relation_bytes join_bytes quantifier_byte letters_of sets_of sets_from tree_of children_tree beside join_of node_tree enclosed needs_brackets child_level own_level lettered_literal lettered_test variable_byte set_byte child_depth literal_of size_plan plan over literal
text-size = refl
