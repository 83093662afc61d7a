-- What the kinds of tokens stand for. Assumes nothing.
use mathlib.Core.Path.{◌≡◌, refl, sym, ap, ◌∙◌}
use mathlib.Core.Bool.{Bool, true, false}
use mathlib.Core.Option.{none, some}
use Prim.Native.Nat.{ℕ, zero, suc, ◌+◌, ◌-◌, ◌≤◌}
use native.Mathlib.Omega.{arith}
use native.Mathlib.Nat.{le_refl}
use borrow.Author.Tests.{le-leb}
use Rattle.logic.specs.Formula.{Relation, lt, le, eq, ne, ge, gt, relation_number, relation_of}
use Rattle.text_tree.specs.Tree.{Quantifier, forall, exists, Join, conj, disj}
use Rattle.text_tree.specs.inner.Stored.{quantifier_operator, join_operator}
use Rattle.text_tokens.specs.Tokens.{pick, between}
use Rattle.text_tokens.proofs.Laws.{between-range}
use Rattle.text_grammar.specs.Grammar.{Level, unit, conjunction, disjunction, formula, quantifier_kind, relation_kind, Arrow, to-right, to-left, both_ways}
use Rattle.text_grammar.specs.Parser.{stands_for, arrow_of, quantifier_of, join_sign, quantifier_sign, relation_sign}

module _ {A : Type 0} (first last : ℕ) (make : ℕ → A) (k : ℕ) where
  pub stands : between first k last ≡ true → stands_for first last make k ≡ some (make (k - first))
  stands e = rw e

  pub stands-not : between first k last ≡ false → stands_for first last make k ≡ none
  stands-not e = rw e

  -- what a kind that stands for something is
  pub record Stands (a : A) : Type 0 where
    pub range : between first k last ≡ true
    pub low : first ≤ k
    pub high : k ≤ last
    pub is : make (k - first) ≡ a

  pub of-stands : (a : A) → stands_for first last make k ≡ some a → Stands a
  of-stands a e = go (between first k last) refl e
    where
      go : (b : Bool) → between first k last ≡ b → pick b (some (make (k - first))) none ≡ some a → Stands a
      go true p q = let w = between-range first k last p in record { range = p; low = w.0; high = w.1; is = cc }
      go false p q = let z : ◌≡◌ {A = ℕ} 0 1 = cc in absurd (omega arith)

-- a kind that stands for one thing
module _ {A : Type 0} (q k : ℕ) (a : A) where
  pub one-sign : k ≡ q → stands_for q q (λ _. a) k ≡ some a
  one-sign e = stands q q (λ _. a) k (rw (e, le-leb q q (le_refl q)))

  pub no_sign : (k ≡ q → ⊥) → stands_for q q (λ _. a) k ≡ none
  no_sign z = stands-not q q (λ _. a) k (go (between q k q) refl)
    where
      go : (b : Bool) → between q k q ≡ b → b ≡ false
      go true p = let w = between-range q k q p in absurd (z (omega (arith, w.0, w.1)))
      go false p = refl

-- a sign that joins is a token
pub join-sign-some : (l : Level) (k : ℕ) (j : Join) → join_sign l k ≡ some j → 1 ≤ k
join-sign-some unit k j e = let z : ◌≡◌ {A = ℕ} 0 1 = cc in absurd (omega arith)
join-sign-some conjunction k j e = let w = of-stands 8 8 (λ _. conj) k j e in omega (arith, w.low)
join-sign-some disjunction k j e = let w = of-stands 9 9 (λ _. disj) k j e in omega (arith, w.low)
join-sign-some formula k j e = let w = of-stands 10 12 arrow_of k j e in omega (arith, w.low)

-- arrows

arrow-number : (n : ℕ) → n ≤ 2 → join_operator (arrow_of n) ≡ 7 + n
unfolding arrow_of join_operator
arrow-number zero h = refl
arrow-number (suc zero) h = refl
arrow-number (suc (suc zero)) h = refl
arrow-number (suc (suc (suc n))) h = absurd (omega arith)

pub arrow-operator : (k : ℕ) → between 10 k 12 ≡ true → k - 3 ≡ join_operator (arrow_of (k - 10))
arrow-operator k e = let w = between-range 10 k 12 e in omega (arith, w.0, w.1, arrow-number (k - 10) (omega (arith, w.1)))

pub arrow-sign : {k : ℕ} {j : Join} → Arrow k j → join_sign formula k ≡ some j
unfolding arrow_of
arrow-sign to-right = refl
arrow-sign to-left = refl
arrow-sign both_ways = refl

pub sign-arrow : (k : ℕ) (j : Join) → join_sign formula k ≡ some j → Arrow k j
unfolding arrow_of
sign-arrow k j e = let w = of-stands 10 12 arrow_of k j e in go (k - 10) (omega (arith, w.low)) (omega (arith, w.high)) w.is
  where
    go : (n : ℕ) → k ≡ 10 + n → n ≤ 2 → arrow_of n ≡ j → Arrow k j
    go zero p h q = rw (p, ← q) to-right
    go (suc zero) p h q = rw (p, ← q) to-left
    go (suc (suc zero)) p h q = rw (p, ← q) both_ways
    go (suc (suc (suc n))) p h q = absurd (omega arith)

-- quantifiers

quantifier-number : (n : ℕ) → n ≤ 1 → quantifier_kind (quantifier_of n) ≡ 5 + n
unfolding quantifier_kind quantifier_of
quantifier-number zero h = refl
quantifier-number (suc zero) h = refl
quantifier-number (suc (suc n)) h = absurd (omega arith)

pub quantifier-kind : (k : ℕ) (q : Quantifier) → quantifier_sign k ≡ some q → k ≡ quantifier_kind q
quantifier-kind k q e =
    let w = of-stands 5 6 quantifier_of k q e in
    let n : k ≡ 5 + (k - 5) = omega (arith, w.low) in
    n ∙ sym (quantifier-number (k - 5) (omega (arith, w.high))) ∙ ap quantifier_kind w.is

pub quantifier-sign : (q : Quantifier) → quantifier_sign (quantifier_kind q) ≡ some q
unfolding quantifier_kind quantifier_of
quantifier-sign forall = refl
quantifier-sign exists = refl

quantifier-low : (n : ℕ) → n ≤ 1 → quantifier_operator (quantifier_of n) ≡ 3 + n
unfolding quantifier_operator quantifier_of
quantifier-low zero h = refl
quantifier-low (suc zero) h = refl
quantifier-low (suc (suc n)) h = absurd (omega arith)

pub quantifier-operator : (k : ℕ) → between 5 k 6 ≡ true → k - 2 ≡ quantifier_operator (quantifier_of (k - 5))
quantifier-operator k e = let w = between-range 5 k 6 e in omega (arith, w.0, w.1, quantifier-low (k - 5) (omega (arith, w.1)))

-- relations

relation-number : (n : ℕ) → n ≤ 5 → relation_number (relation_of n) ≡ n
unfolding relation_number relation_of
relation-number zero h = refl
relation-number (suc zero) h = refl
relation-number (suc (suc zero)) h = refl
relation-number (suc (suc (suc zero))) h = refl
relation-number (suc (suc (suc (suc zero)))) h = refl
relation-number (suc (suc (suc (suc (suc zero))))) h = refl
relation-number (suc (suc (suc (suc (suc (suc n)))))) h = absurd (omega arith)

pub relation-is : (k : ℕ) → between 16 k 21 ≡ true → 16 + relation_number (relation_of (k - 16)) ≡ k
relation-is k e = let w = between-range 16 k 21 e in omega (arith, w.0, w.1, relation-number (k - 16) (omega (arith, w.1)))

pub relation-kind : (k : ℕ) (r : Relation) → relation_sign k ≡ some r → k ≡ relation_kind r
unfolding relation_kind
relation-kind k r e =
    let w = of-stands 16 21 relation_of k r e in
    sym (relation-is k w.range) ∙ ap (λ (x : Relation). 16 + relation_number x) w.is

pub relation-sign : (r : Relation) → relation_sign (relation_kind r) ≡ some r
unfolding relation_kind relation_number relation_of
relation-sign lt = refl
relation-sign le = refl
relation-sign eq = refl
relation-sign ne = refl
relation-sign ge = refl
relation-sign gt = refl
