-- A node's own bytes: its variables, relation and kind. Assumes nothing.
use mathlib.Core.Path.{◌≡◌, refl}
use mathlib.Core.Bool.{Bool, true, false, cond}
use mathlib.Core.List.{List, [], ◌∷◌}
use mathlib.Core.Logic.{◌⊎◌, inl, inr}
use Prim.Native.Nat.{ℕ, zero, suc, ◌+◌, ◌-◌, ◌≤◌, ◌<◌}
use native.Mathlib.Omega.{arith}
use lib.Dec.{eqb}
use lib.ListN.{length}
use borrow.Author.Tests.{eq-eqb, ne_eqb}
use Rattle.logic.specs.Formula.{lt, le, eq, ne, ge, gt, relation_number, kind_number}
use Rattle.text_tree.specs.Tree.{forall, exists}
use Rattle.text_tree.specs.inner.Stored.{quantifier_operator}
use Rattle.text_core.specs.Names.{set_number, variable_number}
use Rattle.text_core.specs.Core.{quantifier_node, opposite, relation_at}
use Rattle.text_emit.specs.declared.Bound.{Bound}
use Rattle.text_emit.specs.inner.Fields.{letters, bound_letters, BindsLetter, RelationIs, QuantifierIs}

-- the last of the letters is number 0, bound or not
last : (b : Bool) → ◌≡◌ {A = ℕ} 0 (cond b 0 0)
last true = refl
last false = refl

module _ (x y z v : ℕ) where
  pub number-inner : (n : ℕ) → 2 < n → v ≡ z → 2 ≡ variable_number (letters n x y z) v
  unfolding variable_number letters
  number-inner zero h e = absurd (omega arith)
  number-inner (suc zero) h e = absurd (omega arith)
  number-inner (suc (suc zero)) h e = absurd (omega arith)
  number-inner (suc (suc (suc n))) h e = rw (eq-eqb v z e)

  pub number-middle : (n : ℕ) → 1 < n → v ≡ y → ((2 < n) × (v ≡ z → ⊥)) ⊎ (n ≤ 2) → 1 ≡ variable_number (letters n x y z) v
  unfolding variable_number letters
  number-middle zero h e d = absurd (omega arith)
  number-middle (suc zero) h e d = absurd (omega arith)
  number-middle (suc (suc zero)) h e d = rw (eq-eqb v y e)
  number-middle (suc (suc (suc n))) h e (inl d) = rw (ne_eqb v z d.1, eq-eqb v y e)
  number-middle (suc (suc (suc n))) h e (inr d) = absurd (omega arith)

  pub number-outer : (n : ℕ) → ((1 < n) × (v ≡ y → ⊥)) ⊎ (n ≤ 1) → ((2 < n) × (v ≡ z → ⊥)) ⊎ (n ≤ 2) → 0 ≡ variable_number (letters n x y z) v
  unfolding variable_number letters
  number-outer zero d g = refl
  number-outer (suc zero) d g = last (eqb v x)
  number-outer (suc (suc zero)) (inl d) g = rw (ne_eqb v y d.1) (last (eqb v x))
  number-outer (suc (suc zero)) (inr d) g = absurd (omega arith)
  number-outer (suc (suc (suc n))) (inl d) (inl g) = rw (ne_eqb v z g.1, ne_eqb v y d.1) (last (eqb v x))
  number-outer (suc (suc (suc n))) (inl d) (inr g) = absurd (omega arith)
  number-outer (suc (suc (suc n))) (inr d) g = absurd (omega arith)

module _ (b : Bound) (v : ℕ) where
  pub binds-first : b.count ≡ 0 → BindsLetter b v record { count = 1; outer = v; middle = b.middle; inner = b.inner }
  unfolding bound_letters letters
  binds-first e = record { letters-are = λ h. rw e; count-is = λ h. rw e }

  pub binds-second : b.count ≡ 1 → BindsLetter b v record { count = 2; outer = b.outer; middle = v; inner = b.inner }
  unfolding bound_letters letters
  binds-second e = record { letters-are = λ h. rw e; count-is = λ h. rw e }

  pub binds-third : 2 ≤ b.count → BindsLetter b v record { count = 3; outer = b.outer; middle = b.middle; inner = v }
  unfolding bound_letters letters
  binds-third f = record {
    letters-are = λ h. let e : b.count ≡ 2 = omega arith in rw e;
    count-is = λ h. let e : b.count ≡ 2 = omega arith in rw e;
  }

pub set-number-le : (sets : List ℕ) (s : ℕ) → set_number sets s ≤ length sets
unfolding set_number
set-number-le [] s = omega arith
set-number-le (x ∷ xs) s = go (eqb s x) (set-number-le xs s)
  where
    go : (b : Bool) → set_number xs s ≤ length xs → cond b 0 (suc (set_number xs s)) ≤ suc (length xs)
    go true h = omega arith
    go false h = omega arith

pub relation-kept : (x : ℕ) → RelationIs true x x
unfolding RelationIs relation_at
relation-kept x q e = e

module _ (x : ℕ) where
  pub opposite-low : x < 2 → RelationIs false x (x + 4)
  unfolding RelationIs relation_at relation_number opposite
  opposite-low h lt e = rw e
  opposite-low h le e = rw e
  opposite-low h eq e = absurd (omega arith)
  opposite-low h ne e = absurd (omega arith)
  opposite-low h ge e = absurd (omega arith)
  opposite-low h gt e = absurd (omega arith)

  pub opposite-middle : 2 ≤ x → x < 4 → RelationIs false x (5 - x)
  unfolding RelationIs relation_at relation_number opposite
  opposite-middle h g lt e = absurd (omega arith)
  opposite-middle h g le e = absurd (omega arith)
  opposite-middle h g eq e = rw e
  opposite-middle h g ne e = rw e
  opposite-middle h g ge e = absurd (omega arith)
  opposite-middle h g gt e = absurd (omega arith)

  pub opposite-high : 4 ≤ x → RelationIs false x (x - 4)
  unfolding RelationIs relation_at relation_number opposite
  opposite-high h lt e = absurd (omega arith)
  opposite-high h le e = absurd (omega arith)
  opposite-high h eq e = absurd (omega arith)
  opposite-high h ne e = absurd (omega arith)
  opposite-high h ge e = rw e
  opposite-high h gt e = rw e

module _ (operator : ℕ) where
  pub all-kept : operator ≡ 3 → QuantifierIs true operator 1
  unfolding QuantifierIs quantifier_operator quantifier_node kind_number
  all-kept h forall e = refl
  all-kept h exists e = absurd (omega arith)

  pub any-kept : (operator ≡ 3 → ⊥) → QuantifierIs true operator 2
  unfolding QuantifierIs quantifier_operator quantifier_node kind_number
  any-kept h forall e = absurd (h e)
  any-kept h exists e = refl

  pub all-turned : operator ≡ 3 → QuantifierIs false operator 2
  unfolding QuantifierIs quantifier_operator quantifier_node kind_number
  all-turned h forall e = refl
  all-turned h exists e = absurd (omega arith)

  pub any-turned : (operator ≡ 3 → ⊥) → QuantifierIs false operator 1
  unfolding QuantifierIs quantifier_operator quantifier_node kind_number
  any-turned h forall e = absurd (h e)
  any-turned h exists e = refl
