-- The names in a text and grounds 5 to 7: paper 01, sections Plan text and Grounds for refusal. Letters are bytes; where a
-- name is looked up, `sets` are the letters of the declaration.
use Rattle.std.specs.Prelude.{Bool, false, cond, not, ◌||◌, List, [], ◌∷◌, ℕ, suc, ◌≤◌, eqb, leb, ltb, length}
use Rattle.logic.specs.Formula.{Test, isin, notin, port, size}
use Rattle.logic.specs.Change.{some_of}
use Rattle.text_tree.specs.Tree.{Tree, leaf, neg, par, bind, join, Declared, letters_of}

unfoldable pub among : List ℕ → ℕ → Bool
among letters x = some_of (eqb x) letters

-- "Sets are numbered in the order declared": the place of the letter S in the declared list.
unfoldable pub set_number : List ℕ → ℕ → ℕ
set_number [] S = 0
set_number (x ∷ xs) S = cond (eqb S x) 0 (suc (set_number xs S))

-- "A variable is numbered by its quantifier, the outermost being 0": the bound letters stand innermost first, and a letter's
-- number is how many are bound further out.
unfoldable pub variable_number : List ℕ → ℕ → ℕ
variable_number [] v = 0
variable_number (x ∷ xs) v = cond (eqb v x) (length xs) (variable_number xs v)

-- Ground 5, of the declaration: "set [..] declared twice or a seventeenth".
unfoldable pub declared_twice : List ℕ → Bool
declared_twice [] = false
declared_twice (x ∷ xs) = among xs x || declared_twice xs

-- The declaration alone: a letter twice, or more than 16 sets.
unfoldable pub misdeclared : List Declared → Bool
misdeclared sets = declared_twice (letters_of sets) || ltb 16 (length sets)

-- Ground 5, of a literal's test: "set undeclared", "variable unbound".
unfoldable pub misnamed_test : List ℕ → List ℕ → Test → Bool
misnamed_test sets vars (isin v S) = not (among vars v) || not (among sets S)
misnamed_test sets vars (notin v S) = not (among vars v) || not (among sets S)
misnamed_test sets vars (port r v w) = not (among vars v) || not (among vars w)
misnamed_test sets vars (size r S c) = not (among sets S)

-- Ground 5, of a part of the formula: also "variable [..] bound again within its reach", which is the quantifier's unit.
unfoldable pub misnamed : List ℕ → List ℕ → Tree → Bool
misnamed sets vars (leaf l) = misnamed_test sets vars l.test
misnamed sets vars (neg a) = misnamed sets vars a
misnamed sets vars (par a) = misnamed sets vars a
misnamed sets vars (bind q v a) = among vars v || misnamed sets (v ∷ vars) a
misnamed sets vars (join j a b) = misnamed sets vars a || misnamed sets vars b

-- Ground 5 of a text: its declaration, or a name in its formula.
unfoldable pub ground5 : List Declared → Tree → Bool
ground5 sets a = misdeclared sets || misnamed (letters_of sets) [] a

-- Ground 6: "constant above 64".
unfoldable pub high_constant : Test → Bool
high_constant (isin v S) = false
high_constant (notin v S) = false
high_constant (port r v w) = false
high_constant (size r S c) = ltb 64 c

unfoldable pub ground6 : Tree → Bool
ground6 (leaf l) = high_constant l.test
ground6 (neg a) = ground6 a
ground6 (par a) = ground6 a
ground6 (bind q v a) = ground6 a
ground6 (join j a b) = ground6 a || ground6 b

-- Ground 7: "a fourth enclosing quantifier", with d of them around the whole.
unfoldable pub fourth : ℕ → Tree → Bool
fourth d (leaf l) = false
fourth d (neg a) = fourth d a
fourth d (par a) = fourth d a
fourth d (bind q v a) = leb 3 d || fourth (suc d) a
fourth d (join j a b) = fourth d a || fourth d b

-- Ground 7 of a text.
unfoldable pub ground7 : Tree → Bool
ground7 a = fourth 0 a

-- "Variables v, w are lower-case letters"; "upper-case set letters"; a constant above 64 stands as 65. The reader's trees are
-- so, and only of such a tree does a record of 16 bits tell both letters.
unfoldable pub Variable : ℕ → Type 0
Variable v = (97 ≤ v) × (v ≤ 122)

-- A set letter's byte.
unfoldable pub SetLetter : ℕ → Type 0
SetLetter S = (65 ≤ S) × (S ≤ 90)

-- A literal's test of such letters and such a constant.
unfoldable pub LetteredTest : Test → Type 0
LetteredTest (isin v S) = Variable v × SetLetter S
LetteredTest (notin v S) = Variable v × SetLetter S
LetteredTest (port r v w) = Variable v × Variable w
LetteredTest (size r S c) = SetLetter S × (c ≤ 65)

-- A tree of such tests, whose quantifiers bind variables.
unfoldable pub Lettered : Tree → Type 0
Lettered (leaf l) = LetteredTest l.test
Lettered (neg a) = Lettered a
Lettered (par a) = Lettered a
Lettered (bind q v a) = Variable v × Lettered a
Lettered (join j a b) = Lettered a × Lettered b
