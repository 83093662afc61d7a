-- What one node puts into a text, by kinds as the plan table has them.
use Rattle.std.specs.Prelude.{Bool, true, false, cond, not, List, [], ◌∷◌, ℕ, suc, eqb, leb}
use Rattle.logic.specs.Formula.{Node, root, all, any, and, or, lit}
use Rattle.text_form.specs.Form.{variable_byte, lettered_test}
use Rattle.text_form.specs.Spelling.{test_bytes}

-- A byte that may be wanted.
unfoldable pub only_if : Bool → ℕ → List ℕ
only_if true b = b ∷ []
only_if false b = []

-- Whether an inner node stands in brackets, by the kind above it and its own.
unfoldable pub brackets_at : ℕ → ℕ → Bool
brackets_at above kind = cond (eqb above 0) false (cond (eqb kind 4) true (cond (eqb kind 3) (not (eqb above 4)) false))

-- How many `(` and quantifiers stand around an inner node's children, where so many stand around the node.
unfoldable pub nest_below : ℕ → Bool → ℕ → ℕ
nest_below kind bracket nest = cond bracket (suc nest) (cond (leb kind 2) (suc nest) nest)

-- `@` or `?`, by the quantifier's kind.
unfoldable pub quantifier_sign : ℕ → ℕ
quantifier_sign kind = cond (eqb kind 1) 64 63

-- `@v` or `?v`, and a space.
unfoldable pub quantifier_bytes : ℕ → ℕ → List ℕ
quantifier_bytes kind d = quantifier_sign kind ∷ variable_byte d ∷ 32 ∷ []

-- What a node of depth d writes before its children.
unfoldable pub own_bytes : Node → ℕ → List ℕ
own_bytes root d = []
own_bytes all d = quantifier_bytes 1 d
own_bytes any d = quantifier_bytes 2 d
own_bytes and d = []
own_bytes or d = []
own_bytes (lit l) d = test_bytes (lettered_test l.test)

-- What joins the children of a node of this kind: ` | ` or ` & `.
unfoldable pub join_at : ℕ → List ℕ
join_at above = 32 ∷ cond (eqb above 4) 124 38 ∷ 32 ∷ []
