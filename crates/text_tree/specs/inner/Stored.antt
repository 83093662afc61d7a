-- How a tree is kept in a table of 16-bit numbers while a text is read: linked postfix records of two numbers, a payload
-- and an operator. A binary operator's payload is where its left part ends. A bracket leaves no record.
use Rattle.std.specs.Prelude.{◌≡◌, List, Bool, ◌||◌, ℕ, ◌+◌, ◌*◌, ◌-◌, ◌≤◌, ◌<◌, length, get_or, leb, ltb}
use Rattle.logic.specs.Formula.{Test, isin, notin, port, size, Literal, relation_number}
use Rattle.text_tree.specs.Tree.{Quantifier, forall, exists, Join, conj, disj, imp, rev, iff, Tree, leaf, neg, par, bind, join}

unfoldable pub test_operator : Test → ℕ
test_operator (isin v S) = 0
test_operator (notin v S) = 1
test_operator (port r v w) = 16 + relation_number r
test_operator (size r S c) = 24 + relation_number r

unfoldable pub test_payload : Test → ℕ
test_payload (isin v S) = 256 * v + S
test_payload (notin v S) = 256 * v + S
test_payload (port r v w) = 256 * v + w
test_payload (size r S c) = 256 * S + c

unfoldable pub quantifier_operator : Quantifier → ℕ
quantifier_operator forall = 3
quantifier_operator exists = 4

unfoldable pub join_operator : Join → ℕ
join_operator conj = 5
join_operator disj = 6
join_operator imp = 7
join_operator rev = 8
join_operator iff = 9

-- The last record before place e of the table t.
pub record Record (t : List ℕ) (e payload operator : ℕ) : Type 0 where
  pub after : 2 ≤ e
  pub within : e ≤ length t
  pub payload-is : get_or t (e - 2) 0 ≡ payload
  pub operator-is : get_or t (e - 1) 0 ≡ operator

-- The tree whose records end at place e of the table t.
pub data Stored (t : List ℕ) : ℕ → Tree → Type 0 where
  of-leaf : {e : ℕ} {l : Literal} → Record t e (test_payload l.test) (test_operator l.test) → Stored t e (leaf l)
  of-neg : {e : ℕ} {a : Tree} → Record t e 0 2 → Stored t (e - 2) a → Stored t e (neg a)
  of-par : {e : ℕ} {a : Tree} → Stored t e a → Stored t e (par a)
  of-bind : {e v : ℕ} {q : Quantifier} {a : Tree} → Record t e v (quantifier_operator q) → Stored t (e - 2) a → Stored t e (bind q v a)
  of-join : {e m : ℕ} {j : Join} {a b : Tree} → Record t e m (join_operator j) → m ≤ e - 2 → Stored t m a → Stored t (e - 2) b → Stored t e (join j a b)

-- The operators of literals: `test_operator` gives these.
unfoldable pub literal_code : ℕ → Bool
literal_code operator = ltb operator 2 || leb 16 operator

-- The last record before place e is a join, of parts that end before it.
pub record JoinAt (t : List ℕ) (e : ℕ) : Type 0 where
  pub after : 2 ≤ e
  pub within : e ≤ length t
  pub low : 5 ≤ get_or t (e - 1) 0
  pub high : get_or t (e - 1) 0 ≤ 9
  pub left : get_or t (e - 2) 0 ≤ e - 2

-- The last n records before place e are joins, each the right part of the one behind it, and the record before them is none.
pub record Joins (t : List ℕ) (e n : ℕ) : Type 0 where
  pub fit : 2 * n ≤ e
  pub each : (i : ℕ) → i < n → JoinAt t (e - 2 * i)
  pub last : JoinAt t (e - 2 * n) → ⊥
