-- The joins that end at a place, each the right part of the one behind it. Assumes nothing.
use mathlib.Core.Path.{◌≡◌}
use mathlib.Core.Bool.{true, false, false≢true}
use mathlib.Core.List.{List}
use Prim.Native.Nat.{ℕ, ◌+◌, ◌*◌, ◌-◌, ◌≤◌, ◌<◌}
use native.Mathlib.Omega.{arith}
use lib.ListN.{get_or}
use Rattle.text_tree.specs.Tree.{Join, Tree}
use Rattle.text_tree.specs.inner.Stored.{join_operator, Stored, literal_code, JoinAt, Joins}
use Rattle.text_tree.proofs.Table.{stored-after, stored-within, join-range, other-code, on-join}

-- what is told of a record that is no join
pub no_join : {t : List ℕ} {e : ℕ} → (JoinAt t e → ⊥) → (false ≡ true → JoinAt t e) × (false ≡ false → JoinAt t e → ⊥)
no_join f = ((λ h. absurd (false≢true h)), λ h. f)

-- n joins are met, down to place `at`
pub record JoinsMet (t : List ℕ) (e n at : ℕ) : Type 0 where
  pub at-is : at + 2 * n ≡ e
  pub each : (i : ℕ) → i < n → JoinAt t (e - 2 * i)

-- no tree ends with an operator from 5 on that is no join
pub no-tree : (t : List ℕ) (e : ℕ) → (JoinAt t e → ⊥) → literal_code (get_or t (e - 1) 0) ≡ false → (get_or t (e - 1) 0 ≡ 2 → ⊥) → 5 ≤ get_or t (e - 1) 0
    → (a : Tree) → Stored t e a → ⊥
no-tree t e f n m low a s = on-join t e (λ b. ⊥) (λ b h. h) n m low (λ j x y o l c d. go j o l) a s
  where
    go : (j : Join) → get_or t (e - 1) 0 ≡ join_operator j → get_or t (e - 2) 0 ≤ e - 2 → ⊥
    go j o l = f record {
      after = stored-after s;
      within = stored-within s;
      low = low;
      high = rw o (join-range j).1;
      left = l;
    }

-- a join's operator is no literal's and no negation's
pub join-other : (t : List ℕ) (e : ℕ) → JoinAt t e → literal_code (get_or t (e - 1) 0) ≡ false
join-other t e j = other-code _ (omega (arith, j.low)) (omega (arith, j.high))

pub join-no-negation : (t : List ℕ) (e : ℕ) → JoinAt t e → get_or t (e - 1) 0 ≡ 2 → ⊥
join-no-negation t e j h = omega (arith, j.low, h)

-- joins are taken from the one that stands first to the last: the next of those that are left
module _ (t : List ℕ) (e n left : ℕ) (J : Joins t e n) (some : 0 < left) (few : left ≤ n) where
  pub next-join : JoinAt t (e - 2 * (left - 1))
  next-join = J.each (left - 1) (omega (arith, some, few))

  pub next-right : e - 2 * (left - 1) - 2 ≡ e - 2 * left
  next-right = omega (arith, J.fit, some, few)

  pub next-left : get_or t (e - 2 * (left - 1) - 2) 0 < e
  next-left = let j = next-join in omega (arith, j.left, j.after, J.fit)

pub none_left : (e left : ℕ) → left ≤ 0 → e - 2 * left ≡ e
none_left e left h = omega (arith, h)
