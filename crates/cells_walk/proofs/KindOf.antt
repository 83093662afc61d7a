-- What a node's kind says of the node: whether it adds, binds a variable, joins its children or is a literal. Assumes nothing.
use mathlib.Core.Path.{◌≡◌, refl, sym, ap, ◌∙◌}
use mathlib.Core.Bool.{true, false, ◌&&◌, false≢true}
use mathlib.Core.List.{List, ◌∷◌}
use Prim.Native.Nat.{ℕ, suc, ◌%◌, ◌≤◌, ◌<◌}
use native.Mathlib.Omega.{arith}
use lib.Dec.{eqb, leb}
use borrow.Author.Tests.{eqb-true, leb-true}
use Rattle.logic.specs.Formula.{Literal, Node, root, all, any, and, or, lit, kind_number, child_depth}
use Rattle.logic.specs.Truth.{Tuple}
use Rattle.logic.specs.Penalty.{each_port, below}
use Rattle.logic.specs.Change.{Renewal}
use Rattle.logic.proofs.Lists.{and_right}
use Rattle.logic.proofs.Relations.{test-kind-range}
use Rattle.logic.proofs.Touched.{Inner}
use Rattle.table_format.specs.Rules.{arity_rule}
use Rattle.table_format.specs.inner.Index.{node_uses}
use Rattle.cells_sum.specs.inner.Walk.{adds}

-- a node that is no literal adds as its kind says
pub adds-kind : (n : Node) (kind : ℕ) → kind ≡ kind_number n → kind < 5 → eqb (kind % 2) 1 ≡ adds n
unfolding kind_number adds
adds-kind root kind h l = ap (λ (x : ℕ). eqb (x % 2) 1) h
adds-kind all kind h l = ap (λ (x : ℕ). eqb (x % 2) 1) h
adds-kind any kind h l = ap (λ (x : ℕ). eqb (x % 2) 1) h
adds-kind and kind h l = ap (λ (x : ℕ). eqb (x % 2) 1) h
adds-kind or kind h l = ap (λ (x : ℕ). eqb (x % 2) 1) h
adds-kind (lit t) kind h l = absurd (omega (arith, test-kind-range t.test))

-- What stands below a quantifier, and below another inner node.
pub record Quantifier (n : Node) : Type 1 where
  pub deeper : (d : ℕ) → child_depth n d ≡ suc d
  pub no-uses : node_uses n ≡ 0
  pub inner : Inner n
  pub one : (m : ℕ) → arity_rule (kind_number n) m ≡ true → m ≡ 1
  pub renewed : (u : ℕ) (e : Tuple) (g : Tuple → List Renewal) → below u n e g ≡ each_port u (λ x. g (x ∷ e))
  pub counted : (u : ℕ) (e : Tuple) (g : Tuple → List ℕ) → below u n e g ≡ each_port u (λ x. g (x ∷ e))

pub record Joint (n : Node) : Type 1 where
  pub level : (d : ℕ) → child_depth n d ≡ d
  pub inner : Inner n
  pub renewed : (u : ℕ) (e : Tuple) (g : Tuple → List Renewal) → below u n e g ≡ g e
  pub counted : (u : ℕ) (e : Tuple) (g : Tuple → List ℕ) → below u n e g ≡ g e

pub quantifier-of : (n : Node) (kind : ℕ) → kind ≡ kind_number n → (leb 1 kind && leb kind 2) ≡ true → Quantifier n
unfolding kind_number child_depth node_uses Inner arity_rule below
quantifier-of root kind h q = absurd (false≢true (sym (ap (λ (x : ℕ). leb 1 x && leb x 2) h) ∙ q))
quantifier-of all kind h q = record { deeper = λ d. refl; no-uses = refl; inner = Prim.tt; one = λ m k. eqb-true m 1 k; renewed = λ u e g. refl; counted = λ u e g. refl }
quantifier-of any kind h q = record { deeper = λ d. refl; no-uses = refl; inner = Prim.tt; one = λ m k. eqb-true m 1 k; renewed = λ u e g. refl; counted = λ u e g. refl }
quantifier-of and kind h q = absurd (false≢true (sym (ap (λ (x : ℕ). leb 1 x && leb x 2) h) ∙ q))
quantifier-of or kind h q = absurd (false≢true (sym (ap (λ (x : ℕ). leb 1 x && leb x 2) h) ∙ q))
quantifier-of (lit l) kind h q = absurd (omega (arith, test-kind-range l.test, leb-true kind 2 (and_right (leb 1 kind) _ q)))

pub quantifier-few : (kind : ℕ) → (leb 1 kind && leb kind 2) ≡ true → kind < 5
quantifier-few kind q = omega (arith, leb-true kind 2 (and_right (leb 1 kind) _ q))

pub joint-of : (n : Node) (kind : ℕ) → kind ≡ kind_number n → kind < 5 → (leb 1 kind && leb kind 2) ≡ false → Joint n
unfolding kind_number child_depth Inner below
joint-of root kind h l q = record { level = λ d. refl; inner = Prim.tt; renewed = λ u e g. refl; counted = λ u e g. refl }
joint-of all kind h l q = absurd (false≢true (sym q ∙ ap (λ (x : ℕ). leb 1 x && leb x 2) h))
joint-of any kind h l q = absurd (false≢true (sym q ∙ ap (λ (x : ℕ). leb 1 x && leb x 2) h))
joint-of and kind h l q = record { level = λ d. refl; inner = Prim.tt; renewed = λ u e g. refl; counted = λ u e g. refl }
joint-of or kind h l q = record { level = λ d. refl; inner = Prim.tt; renewed = λ u e g. refl; counted = λ u e g. refl }
joint-of (lit t) kind h l q = absurd (omega (arith, test-kind-range t.test))

-- a node of a literal's kind is a literal
pub literal-of : (n : Node) (kind : ℕ) → kind ≡ kind_number n → 5 ≤ kind → (l : Literal) × (n ≡ lit l)
unfolding kind_number
literal-of root kind h q = absurd (omega arith)
literal-of all kind h q = absurd (omega arith)
literal-of any kind h q = absurd (omega arith)
literal-of and kind h q = absurd (omega arith)
literal-of or kind h q = absurd (omega arith)
literal-of (lit l) kind h q = (l, refl)
