-- What the last record of a stored tree tells of the tree. Assumes nothing.
use mathlib.Core.Path.{◌≡◌, sym, ap, ◌∙◌}
use mathlib.Core.Bool.{true, false, true≢false}
use mathlib.Core.List.{List}
use Prim.Native.Nat.{ℕ, ◌-◌, ◌≤◌, ◌<◌}
use native.Mathlib.Omega.{arith}
use lib.Dec.{ltb}
use lib.ListN.{length, get_or}
use borrow.Author.Tests.{lt-ltb, le-leb, le-ltb, lt-leb}
use Rattle.logic.proofs.Lists.{or-false, or-true-left, or_true_right}
use Rattle.logic.specs.Formula.{Test, isin, notin, port, size, Literal}
use Rattle.text_tree.specs.Tree.{Quantifier, forall, exists, Join, conj, disj, imp, rev, iff, Tree, leaf, neg, par, bind, join}
use Rattle.text_tree.specs.inner.Stored.{test_operator, test_payload, quantifier_operator, join_operator, Record, Stored, of-leaf, of-neg, of-par, of-bind, of-join, literal_code}

pub stored-after : {t : List ℕ} {e : ℕ} {a : Tree} → Stored t e a → 2 ≤ e
stored-after (of-leaf r) = r.after
stored-after (of-neg r d) = r.after
stored-after (of-par d) = stored-after d
stored-after (of-bind r d) = r.after
stored-after (of-join r m c d) = r.after

pub stored-within : {t : List ℕ} {e : ℕ} {a : Tree} → Stored t e a → e ≤ length t
stored-within (of-leaf r) = r.within
stored-within (of-neg r d) = r.within
stored-within (of-par d) = stored-within d
stored-within (of-bind r d) = r.within
stored-within (of-join r m c d) = r.within

low-code : (n : ℕ) → n < 2 → literal_code n ≡ true
unfolding literal_code
low-code n h = or-true-left _ _ (lt-ltb n 2 h)

high-code : (n : ℕ) → 16 ≤ n → literal_code n ≡ true
unfolding literal_code
high-code n h = or_true_right (ltb n 2) _ (le-leb 16 n h)

pub other-code : (n : ℕ) → 2 ≤ n → n < 16 → literal_code n ≡ false
unfolding literal_code
other-code n h g = or-false _ _ (le-ltb n 2 h) (lt-leb 16 n g)

test-code : (t : Test) → literal_code (test_operator t) ≡ true
unfolding test_operator
test-code (isin v S) = low-code 0 (omega arith)
test-code (notin v S) = low-code 1 (omega arith)
test-code (port r v w) = high-code _ (omega arith)
test-code (size r S c) = high-code _ (omega arith)

clash : {A : Type 0} (n m : ℕ) → literal_code n ≡ true → n ≡ m → literal_code m ≡ false → A
clash n m h e g = let z : true ≡ false = sym h ∙ ap literal_code e ∙ g in absurd (true≢false z)

quantifier-range : (q : Quantifier) → (3 ≤ quantifier_operator q) × (quantifier_operator q ≤ 4)
unfolding quantifier_operator
quantifier-range forall = omega arith
quantifier-range exists = omega arith

pub join-range : (j : Join) → (5 ≤ join_operator j) × (join_operator j ≤ 9)
unfolding join_operator
join-range conj = omega arith
join-range disj = omega arith
join-range imp = omega arith
join-range rev = omega arith
join-range iff = omega arith

-- by the operator of the last record, for a statement that does not see brackets
module _ (t : List ℕ) (e : ℕ) (P : Tree → Type 0) (through : (a : Tree) → P a → P (par a)) where
  abbrev operator : ℕ
  operator = get_or t (e - 1) 0

  pub on-leaf : literal_code operator ≡ true → ((l : Literal) → Record t e (test_payload l.test) (test_operator l.test) → P (leaf l)) → (a : Tree) → Stored t e a → P a
  on-leaf h H a (of-leaf {l = l} r) = H l r
  on-leaf h H a (of-neg r d) = clash operator 2 h r.operator-is (other-code 2 (omega arith) (omega arith))
  on-leaf h H a (of-par {a = b} d) = through b (on-leaf h H b d)
  on-leaf h H a (of-bind {q = q} r d) =
      let w = quantifier-range q in clash operator _ h r.operator-is (other-code _ (omega arith) (omega arith))
  on-leaf h H a (of-join {j = j} r m c d) =
      let w = join-range j in clash operator _ h r.operator-is (other-code _ (omega arith) (omega arith))

  pub on-neg : operator ≡ 2 → ((a : Tree) → Stored t (e - 2) a → P (neg a)) → (a : Tree) → Stored t e a → P a
  on-neg h H a (of-leaf {l = l} r) = clash _ 2 (test-code l.test) (sym r.operator-is ∙ h) (other-code 2 (omega arith) (omega arith))
  on-neg h H a (of-neg {a = b} r d) = H b d
  on-neg h H a (of-par {a = b} d) = through b (on-neg h H b d)
  on-neg h H a (of-bind {q = q} r d) = let w = quantifier-range q in absurd (omega (arith, r.operator-is))
  on-neg h H a (of-join {j = j} r m c d) = let w = join-range j in absurd (omega (arith, r.operator-is))

  pub on-bind : literal_code operator ≡ false → (operator ≡ 2 → ⊥) → operator < 5
      → ((q : Quantifier) (v : ℕ) (a : Tree) → Record t e v (quantifier_operator q) → Stored t (e - 2) a → P (bind q v a)) → (a : Tree) → Stored t e a → P a
  on-bind n m h H a (of-leaf {l = l} r) = clash _ operator (test-code l.test) (sym r.operator-is) n
  on-bind n m h H a (of-neg r d) = absurd (m r.operator-is)
  on-bind n m h H a (of-par {a = b} d) = through b (on-bind n m h H b d)
  on-bind n m h H a (of-bind {v = v} {q = q} {a = b} r d) = H q v b r d
  on-bind n m h H a (of-join {j = j} r i c d) = let w = join-range j in absurd (omega (arith, r.operator-is))

  pub on-join : literal_code operator ≡ false → (operator ≡ 2 → ⊥) → 5 ≤ operator
      → ((j : Join) (a b : Tree) → operator ≡ join_operator j → get_or t (e - 2) 0 ≤ e - 2 → Stored t (get_or t (e - 2) 0) a → Stored t (e - 2) b → P (join j a b))
      → (a : Tree) → Stored t e a → P a
  on-join n m h H a (of-leaf {l = l} r) = clash _ operator (test-code l.test) (sym r.operator-is) n
  on-join n m h H a (of-neg r d) = absurd (m r.operator-is)
  on-join n m h H a (of-par {a = b} d) = through b (on-join n m h H b d)
  on-join n m h H a (of-bind {q = q} r d) = let w = quantifier-range q in absurd (omega (arith, r.operator-is))
  on-join n m h H a (of-join {j = j} {a = b} {b = c} r i f g) =
      H j b c r.operator-is (rw r.payload-is i) (rw r.payload-is f) g
