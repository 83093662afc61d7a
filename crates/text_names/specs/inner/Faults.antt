-- What the search for faults of names, constants and quantifiers asks and gives, of every tree that the table keeps.
use Rattle.std.specs.Prelude.{◌≡◌, Bool, false, List, [], ◌∷◌, ℕ, ◌-◌}
use Rattle.logic.specs.Formula.{Test}
use Rattle.logic.specs.Configuration.{in_mask}
use Rattle.text_tree.specs.Tree.{Tree, Declared, letters_of}
use Rattle.text_tree.specs.inner.Stored.{test_operator, test_payload, Stored}
use Rattle.text_names.specs.declared.Faults.{Faults}
use Rattle.text_core.specs.Names.{among, misdeclared, misnamed_test, misnamed, high_constant, ground6, fourth, ground7, Variable, LetteredTest, Lettered}

-- Ground 5 of every declaration that has these letters.
unfoldable pub Misdeclares : List ℕ → Bool → Type 0
Misdeclares letters r = (sets : List Declared) → letters_of sets ≡ letters → r ≡ misdeclared sets

-- A mask of the bound letters, `a` being bit 0.
unfoldable pub Marks : ℕ → List ℕ → Type 0
Marks bound vars = (v : ℕ) → Variable v → in_mask bound (v - 97) ≡ among vars v

unfoldable pub IsBound : ℕ → ℕ → Bool → Type 0
IsBound bound v r = (vars : List ℕ) → Marks bound vars → Variable v → r ≡ among vars v

unfoldable pub Binds : ℕ → ℕ → ℕ → Type 0
Binds bound v r = (vars : List ℕ) → Marks bound vars → Variable v → among vars v ≡ false → Marks r (v ∷ vars)

-- The test of a literal's record.
pub record ReadAs (operator payload : ℕ) (t : Test) : Type 0 where
  pub operator-is : operator ≡ test_operator t
  pub payload-is : payload ≡ test_payload t
  pub lettered : LetteredTest t

unfoldable pub NamesLiteral : List ℕ → ℕ → ℕ → ℕ → Bool → Type 0
NamesLiteral sets operator payload bound r =
    (t : Test) → ReadAs operator payload t → (vars : List ℕ) → Marks bound vars → r ≡ misnamed_test sets vars t

unfoldable pub HighLiteral : ℕ → ℕ → Bool → Type 0
HighLiteral operator payload r = (t : Test) → ReadAs operator payload t → r ≡ high_constant t

pub record LiteralFaults (sets : List ℕ) (operator payload bound : ℕ) (r : Faults) : Type 0 where
  pub names-is : NamesLiteral sets operator payload bound r.names
  pub constants-is : HighLiteral operator payload r.constants
  pub quantifiers-is : r.quantifiers ≡ false

-- The faults of a part of the formula, inside the letters of a mask and d quantifiers.
pub record Found (sets : List ℕ) (bound d : ℕ) (a : Tree) (r : Faults) : Type 0 where
  pub names-is : (vars : List ℕ) → Marks bound vars → r.names ≡ misnamed sets vars a
  pub constants-is : r.constants ≡ ground6 a
  pub quantifiers-is : r.quantifiers ≡ fourth d a

unfoldable pub Finds : List ℕ → ℕ → List ℕ → ℕ → ℕ → Faults → Type 0
Finds t e sets bound d r = (a : Tree) → Stored t e a → Lettered a → Found sets bound d a r

-- The faults of the formula: ground 5 but for the declaration, grounds 6 and 7.
pub record FormulaFaults (sets : List ℕ) (a : Tree) (r : Faults) : Type 0 where
  pub names-is : r.names ≡ misnamed sets [] a
  pub constants-is : r.constants ≡ ground6 a
  pub quantifiers-is : r.quantifiers ≡ ground7 a

unfoldable pub FindsFaults : List ℕ → ℕ → List ℕ → Faults → Type 0
FindsFaults t e sets r = (a : Tree) → Stored t e a → Lettered a → FormulaFaults sets a r
