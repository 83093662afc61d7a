-- The text of a plan, as bytes: paper 02, request 2026-02.
use Rattle.std.specs.Prelude.{Bool, ◌||◌, List, [], ◌∷◌, ◌++◌, ℕ, ltb, length}
use Rattle.logic.specs.Formula.{Relation, lt, le, eq, ne, ge, gt, Test, isin, notin, port, size, Plan}
use Rattle.text_tokens.specs.Tokens.{digits_of}
use Rattle.text_tree.specs.Tree.{Quantifier, forall, exists, Join, conj, disj, imp, rev, iff, Tree, leaf, neg, par, bind, join, Declared, letters_of, too_deep}
use Rattle.text_form.specs.Form.{tree_of, sets_of}

-- "Tokens: [..] `< <= = != >= >`" (01): the bytes of the relations' signs.
unfoldable pub relation_bytes : Relation → List ℕ
relation_bytes lt = 60 ∷ []
relation_bytes le = 60 ∷ 61 ∷ []
relation_bytes eq = 61 ∷ []
relation_bytes ne = 33 ∷ 61 ∷ []
relation_bytes ge = 62 ∷ 61 ∷ []
relation_bytes gt = 62 ∷ []

-- "Tokens: [..] `& | -> <- <->`" (01). The writer's trees have no arrow.
unfoldable pub join_bytes : Join → List ℕ
join_bytes conj = 38 ∷ []
join_bytes disj = 124 ∷ []
join_bytes imp = 45 ∷ 62 ∷ []
join_bytes rev = 60 ∷ 45 ∷ []
join_bytes iff = 60 ∷ 45 ∷ 62 ∷ []

-- "`@v` unit (for all), `?v` unit (exists)" (01): the quantifier's sign.
unfoldable pub quantifier_byte : Quantifier → ℕ
quantifier_byte forall = 64
quantifier_byte exists = 63

-- "one space round `&`, `|` and relations"
unfoldable pub spaced : List ℕ → List ℕ
spaced sign = 32 ∷ (sign ++ (32 ∷ []))

-- "A digit run is 0 or doesn't begin with 0." (01): a constant, 0 to 64, in one digit or two.
unfoldable pub constant_bytes : ℕ → List ℕ
constant_bytes c = digits_of 2 c

-- `v:S`, `v/S`, `v < w` and its kin, `#S <= 9` and its kin: `:` and `/` are no relations and take no spaces.
unfoldable pub test_bytes : Test → List ℕ
test_bytes (isin v S) = v ∷ 58 ∷ S ∷ []
test_bytes (notin v S) = v ∷ 47 ∷ S ∷ []
test_bytes (port r v w) = v ∷ (spaced (relation_bytes r) ++ (w ∷ []))
test_bytes (size r S c) = 35 ∷ S ∷ (spaced (relation_bytes r) ++ constant_bytes c)

-- The bytes of a tree, with a space "after a quantifier's variable". The writer's trees have no `~`.
unfoldable pub tree_bytes : Tree → List ℕ
tree_bytes (leaf l) = test_bytes l.test
tree_bytes (neg a) = 126 ∷ tree_bytes a
tree_bytes (par a) = 40 ∷ (tree_bytes a ++ (41 ∷ []))
tree_bytes (bind q v a) = quantifier_byte q ∷ v ∷ 32 ∷ tree_bytes a
tree_bytes (join j a b) = tree_bytes a ++ (spaced (join_bytes j) ++ tree_bytes b)

-- The bytes of a text: `[`, its set letters, `]`, a space "after `]`", and its tree.
unfoldable pub text_bytes : List Declared → Tree → List ℕ
text_bytes sets a = 91 ∷ (letters_of sets ++ (93 ∷ 32 ∷ tree_bytes a))

-- "Write a plan as text": the text that a plan is written as.
unfoldable pub plan_text : Plan → List ℕ
plan_text P = text_bytes (sets_of P) (tree_of P)

-- Ground 17: "the text would meet refusal 1 or 4": over 4,096 bytes, or more than 64 of `(` and quantifiers around one token.
unfoldable pub unwritable : Plan → Bool
unwritable P = ltb 4096 (length (plan_text P)) || too_deep 0 (tree_of P)
