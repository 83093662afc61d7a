-- What the numbers of a minimum stay below, from child to child. Assumes nothing.
use Rattle.std.proofs.Common.{◌≡◌, ℕ, ◌%◌, ◌<◌, ◌≤◌, Bool, true, false, cond, ◌&&◌, eqb, leb, List, refl, subst, arith, leb-true}
use Rattle.logic.proofs.Lists.{and_left, and_right}
use Rattle.cells_join.specs.declared.Join.{Join}
use Rattle.cells_join.specs.declared.Join.TheVariants.{Add, Least, LeastBit}
use Rattle.cells_join.specs.inner.Joined.{join_of, compared, begin_join, join_with, limit_of, LowTwo, Low}

pub limit-signed : (join : Join) → compared join ≡ join → limit_of join ≡ 2147483648
unfolding limit_of compared
limit-signed Add h = refl
limit-signed Least h = refl
limit-signed LeastBit h = cc

limit-low : (join : Join) → (2 ≤ limit_of join) × (limit_of join ≤ 2147483648)
unfolding limit_of
limit-low Add = (omega arith, omega arith)
limit-low Least = (omega arith, omega arith)
limit-low LeastBit = (omega arith, omega arith)

-- what a minimum's two numbers are below
pub low_signed : (x y : ℕ) → LowTwo Least false x y → (x < 2147483648) × (y < 2147483648)
unfolding LowTwo limit_of
low_signed x y h = let p = h (λ e. cc) in (p.0 refl, p.1)

pub low_bits : (x y : ℕ) → LowTwo LeastBit false x y → (x < 2) × (y < 2)
unfolding LowTwo limit_of
low_bits x y h = let p = h (λ e. cc) in (p.0 refl, p.1)

-- What is low for a join is so for the one that compares.
compared-again : (join : Join) → compared (compared join) ≡ compared join
unfolding compared
compared-again Add = refl
compared-again Least = refl
compared-again LeastBit = refl

low-compared : (join : Join) (from n : ℕ) (l : List ℕ) → Low join l from n → Low (compared join) l from n
unfolding Low compared limit_of
low-compared Add from n l low = low
low-compared Least from n l low = low
low-compared LeastBit from n l low = λ t q p. let a = low t q (λ e. cc) in omega (arith, a)

pub low-of-kind : (join : Join) (above from n : ℕ) (l : List ℕ) → compared join ≡ join_of above → Low join l from n → Low (join_of above) l from n
low-of-kind join above from n l h low = subst (λ (j : Join). Low j l from n) h (low-compared join from n l low)

-- the first join, and the next
pub begin-alike : (above : ℕ) → compared (begin_join above) ≡ join_of above
unfolding begin_join join_of compared
begin-alike above = go (eqb (above % 2) 1)
  where
    go : (b : Bool) → compared (cond b Add LeastBit) ≡ cond b Add Least
    go true = refl
    go false = refl

pub with-alike : (join : Join) (kind : ℕ) → compared (join_with join kind) ≡ compared join
unfolding join_with
with-alike join kind = go (leb 5 kind && leb kind 7)
  where
    go : (b : Bool) → compared (cond b join (compared join)) ≡ compared join
    go true = refl
    go false = compared-again join

pub low-with : (join : Join) (kind from n : ℕ) (l : List ℕ) → Low join l from n → Low (join_with join kind) l from n
unfolding join_with
low-with join kind from n l low = go (leb 5 kind && leb kind 7)
  where
    go : (b : Bool) → Low (cond b join (compared join)) l from n
    go true = low
    go false = low-compared join from n l low

-- A child's number is low for the join that its kind leaves, if it is 0 or 1 where the kind says so.
pub number-low : (join : Join) (kind v : ℕ) → v < 2147483648 → (5 ≤ kind → kind ≤ 7 → v < 2) → v < limit_of (join_with join kind)
unfolding join_with
number-low join kind v h bit = go (leb 5 kind && leb kind 7) (λ e. bit (leb-true 5 kind (and_left (leb 5 kind) (leb kind 7) e)) (leb-true kind 7 (and_right (leb 5 kind) (leb kind 7) e)))
  where
    go : (b : Bool) → (b ≡ true → v < 2) → v < limit_of (cond b join (compared join))
    go true f = let a = f refl in omega (arith, a, (limit-low join).0)
    go false f = rw (limit-signed (compared join) (compared-again join)) h

-- a join that compares, or adds, stays
pub with-kept : (join : Join) (kind : ℕ) → compared join ≡ join → join_with join kind ≡ join
unfolding join_with
with-kept join kind h = go (leb 5 kind && leb kind 7)
  where
    go : (b : Bool) → cond b join (compared join) ≡ join
    go true = refl
    go false = h
