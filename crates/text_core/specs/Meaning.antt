-- The truth of a text, defined on its own tree, arrows and negations included, without the core and without penalties.
use Rattle.std.specs.Prelude.{◌≡◌, ◌⊎◌, true, false, cond, List, [], ◌∷◌, ℕ, ◌<◌, eqb}
use Rattle.logic.specs.Formula.{Test, isin, notin, port, size}
use Rattle.logic.specs.Configuration.{Configuration}
use Rattle.logic.specs.Truth.{Related}
use Rattle.text_tree.specs.Tree.{Quantifier, forall, exists, Join, conj, disj, imp, rev, iff, Tree, leaf, neg, par, bind, join}
use Rattle.text_core.specs.Names.{set_number}

-- The bound letters with their ports, innermost first.
abbrev pub Binding : Type 0
Binding = ℕ × ℕ

-- The port that a letter is bound to: the innermost binding decides.
unfoldable pub value_of : List Binding → ℕ → ℕ
value_of [] v = 0
value_of (b ∷ env) v = cond (eqb v b.0) b.1 (value_of env v)

-- Truth of a literal's test by its letters, case by case as `TestTrue`: sets by their place in the declaration, variables by the
-- innermost binding.
unfoldable pub LeafTrue : Configuration → List ℕ → List Binding → Test → Type 0
LeafTrue k sets env (port r v w) = Related r (value_of env v) (value_of env w)
LeafTrue k sets env (size r S c) = Related r (k.size (set_number sets S)) c
LeafTrue k sets env (isin v S) = k.member (set_number sets S) (value_of env v) ≡ true
LeafTrue k sets env (notin v S) = k.member (set_number sets S) (value_of env v) ≡ false

unfoldable pub JoinTrue : Join → Type 0 → Type 0 → Type 0
JoinTrue conj A B = A × B
JoinTrue disj A B = A ⊎ B
JoinTrue imp A B = A → B
JoinTrue rev A B = B → A
JoinTrue iff A B = (A → B) × (B → A)

unfoldable pub BindTrue : Quantifier → ℕ → (ℕ → Type 0) → Type 0
BindTrue forall u A = (p : ℕ) → p < u → A p
BindTrue exists u A = (p : ℕ) × (p < u) × A p

unfoldable pub TreeTrue : ℕ → Configuration → List ℕ → List Binding → Tree → Type 0
TreeTrue u k sets env (leaf l) = LeafTrue k sets env l.test
TreeTrue u k sets env (neg a) = TreeTrue u k sets env a → ⊥
TreeTrue u k sets env (par a) = TreeTrue u k sets env a
TreeTrue u k sets env (bind q v a) = BindTrue q u (λ p. TreeTrue u k sets ((v, p) ∷ env) a)
TreeTrue u k sets env (join j a b) = JoinTrue j (TreeTrue u k sets env a) (TreeTrue u k sets env b)
