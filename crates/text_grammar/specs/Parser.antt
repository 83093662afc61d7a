-- The grammar as a function: what stands at a position of a text, as a tree with the position after it. Its theorems
-- (proofs/Theorems.antt) say that it finds exactly what the grammar derives.
use Rattle.std.specs.Prelude.{List, [], ◌∷◌, Bool, true, false, ℕ, zero, suc, ◌+◌, ◌*◌, ◌-◌, eqb, length}
use Rattle.std.proofs.Math.Option.{Option, none, some}
use Rattle.logic.specs.Formula.{Relation, relation_of, Test, isin, notin, port, size}
use Rattle.text_tree.specs.Tree.{Quantifier, forall, exists, Join, conj, disj, imp, rev, iff, Tree, neg, par, bind, join, Declared, leaf_of}
use Rattle.text_tokens.specs.Tokens.{end_of_text, left_square, right_square, left_bracket, right_bracket, at_sign, question_mark, tilde, ampersand, bar, right_arrow, double_arrow, colon, slash, hash, less, greater, variable, set_letter, number, pick, between}
use Rattle.text_grammar.specs.Grammar.{Level, unit, conjunction, disjunction, formula, kind_at, value_at, next_at}

pub data Part : Type 0 where
  missing : Part
  found : Tree → ℕ → Part

-- The branches are functions of the position, so that only the one taken is computed.
abbrev pub test : {A : Type 0} → Bool → (ℕ → A) → (ℕ → A) → ℕ → A
test true f g i = f i
test false f g i = g i

abbrev pub follow : {A : Type 0} → Option A → (A → ℕ → Part) → (ℕ → Part) → ℕ → Part
follow none f g i = g i
follow (some a) f g i = f a i

abbrev pub nothing : ℕ → Part
nothing i = missing

abbrev pub map_part : (Tree → Tree) → Part → Part
map_part g missing = missing
map_part g (found a j) = found (g a) j

-- What a kind between first and last stands for.
abbrev pub stands_for : {A : Type 0} → ℕ → ℕ → (ℕ → A) → ℕ → Option A
stands_for first last make k = pick (between first k last) (some (make (k - first))) none

unfoldable pub arrow_of : ℕ → Join
arrow_of zero = imp
arrow_of (suc zero) = rev
arrow_of (suc (suc n)) = iff

unfoldable pub quantifier_of : ℕ → Quantifier
quantifier_of zero = forall
quantifier_of (suc n) = exists

abbrev pub quantifier_sign : ℕ → Option Quantifier
quantifier_sign = stands_for at_sign question_mark quantifier_of

abbrev pub relation_sign : ℕ → Option Relation
relation_sign = stands_for less greater relation_of

-- The signs that join the parts of a level.
abbrev pub join_sign : Level → ℕ → Option Join
join_sign unit k = none
join_sign conjunction k = stands_for ampersand ampersand (λ _. conj) k
join_sign disjunction k = stands_for bar bar (λ _. disj) k
join_sign formula k = stands_for right_arrow double_arrow arrow_of k

-- One part, or a part, a sign and what `rest` reads.
abbrev pub joined : List ℕ → (ℕ → Option Join) → (ℕ → Part) → Part → Part
joined s sign rest missing = missing
joined s sign rest (found a i) = follow (sign (kind_at s i)) (λ j k. map_part (join j a) (rest k)) (λ k. found a i) (next_at s i)

abbrev pub closed : List ℕ → Part → Part
closed s missing = missing
closed s (found a i) = test (eqb (kind_at s i) right_bracket) (found (par a)) nothing (next_at s i)

abbrev pub bound : List ℕ → (ℕ → Part) → Quantifier → ℕ → Part
bound s rest q i = test (eqb (kind_at s i) variable) (λ j. map_part (bind q (value_at s i)) (rest j)) nothing (next_at s i)

-- The last operand of a literal; `make` gives the test.
abbrev pub operand : List ℕ → ℕ → (ℕ → Test) → ℕ → Part
operand s wanted make i = test (eqb (kind_at s i) wanted) (found (leaf_of (make (value_at s i)))) nothing (next_at s i)

-- The rest of a literal, behind its variable v.
abbrev pub variable_literal : List ℕ → ℕ → ℕ → Part
variable_literal s v i =
    test (eqb (kind_at s i) colon) (operand s set_letter (isin v))
    (test (eqb (kind_at s i) slash) (operand s set_letter (notin v))
    (follow (relation_sign (kind_at s i)) (λ r. operand s variable (port r v)) nothing))
    (next_at s i)

abbrev pub compared : List ℕ → ℕ → ℕ → Part
compared s m i = follow (relation_sign (kind_at s i)) (λ r. operand s number (size r m)) nothing (next_at s i)

-- The rest of a literal, behind its `#`.
abbrev pub size_literal : List ℕ → ℕ → Part
size_literal s i = test (eqb (kind_at s i) set_letter) (compared s (value_at s i)) nothing (next_at s i)

-- How many calls of lower levels a level makes without moving on, plus one.
abbrev pub rank : Level → ℕ
rank unit = 1
rank conjunction = 2
rank disjunction = 3
rank formula = 4

-- What stands at position i, found with at most f nested calls.
unfoldable pub parse_at : ℕ → Level → List ℕ → ℕ → Part
parse_at zero l s i = missing
parse_at (suc f) unit s i =
    test (eqb (kind_at s i) left_bracket) (λ j. closed s (parse_at f formula s j))
    (test (eqb (kind_at s i) tilde) (λ j. map_part neg (parse_at f unit s j))
    (follow (quantifier_sign (kind_at s i)) (bound s (parse_at f unit s))
    (test (eqb (kind_at s i) variable) (variable_literal s (value_at s i))
    (test (eqb (kind_at s i) hash) (size_literal s) nothing))))
    (next_at s i)
parse_at (suc f) conjunction s i = joined s (join_sign conjunction) (parse_at f conjunction s) (parse_at f unit s i)
parse_at (suc f) disjunction s i = joined s (join_sign disjunction) (parse_at f disjunction s) (parse_at f conjunction s i)
parse_at (suc f) formula s i = joined s (join_sign formula) (parse_at f disjunction s) (parse_at f disjunction s i)

-- A set as it is declared at position i.
abbrev pub set_at : List ℕ → ℕ → Declared
set_at s i = record { letter = value_at s i }

-- The sets declared at position i, at most f of them.
unfoldable pub sets_at : ℕ → List ℕ → ℕ → List Declared
sets_at zero s i = []
sets_at (suc f) s i = test (eqb (kind_at s i) set_letter) (λ j. set_at s i ∷ sets_at f s j) (λ j. []) (next_at s i)

-- The position after them.
unfoldable pub after_sets : ℕ → List ℕ → ℕ → ℕ
after_sets zero s i = i
after_sets (suc f) s i = test (eqb (kind_at s i) set_letter) (after_sets f s) (λ j. i) (next_at s i)

-- A whole text: its declared sets and its tree, or ground 3.
pub data Result : Type 0 where
  failed : Result
  read : List Declared → Tree → Result

-- Nothing stands behind the formula.
abbrev pub ended : List ℕ → List Declared → Part → Result
ended s sets missing = failed
ended s sets (found a i) = pick (eqb (kind_at s i) end_of_text) (read sets a) failed

abbrev pub declared : List ℕ → List Declared → ℕ → Result
declared s [] i = failed
declared s (x ∷ xs) i = test (eqb (kind_at s i) right_square) (λ j. ended s (x ∷ xs) (parse_at (4 * length s + 4) formula s j)) (λ j. failed) (next_at s i)

unfoldable pub parsed : List ℕ → Result
parsed s = test (eqb (kind_at s 0) left_square) (λ i. declared s (sets_at (length s) s i) (after_sets (length s) s i)) (λ i. failed) (next_at s 0)
