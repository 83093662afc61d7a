-- Wrapping sums and minima, one after the other. Assumes nothing.
use Rattle.std.proofs.Common.{◌≡◌, ℕ, suc, ◌+◌, ◌-◌, ◌%◌, min, Bool, true, false, List, [], ◌∷◌, ◌++◌, sym, refl, ap, ◌∙◌, ap₂, arith}
use mir.Val.{bool_byte}
use Rattle.logic.specs.Configuration.{indicator}
use Rattle.logic.specs.Penalty.{sum, each_port}
use Rattle.logic.specs.Change.{modulus, Renewal}
use Rattle.logic.proofs.Lists.{sum-append}
use Rattle.cells_sum.specs.inner.Walk.{taken, gathered, Joined}
use Rattle.cells_sum.specs.declared.After.{After}
use Rattle.cells_sum.specs.declared.Sum.{Sum}

pub joined_sum : (add : Bool) (acc : Sum) (x : After) (r : Sum) → add ≡ true → r.value ≡ (acc.value + (x.value + (4294967296 - x.old))) % 4294967296
    → r.changed ≡ (acc.changed + x.changed) % 4294967296 → Joined add acc x r
unfolding taken modulus
joined_sum add acc x r h v c = record {
  value-is = v ∙ sym (ap (λ (b : Bool). taken b acc.value record { hit = true; old = x.old; new = x.value }) h);
  changed-is = c;
}

pub joined_least : (add : Bool) (acc : Sum) (x : After) (r : Sum) → add ≡ false → r.value ≡ min acc.value x.value
    → r.changed ≡ (acc.changed + x.changed) % 4294967296 → Joined add acc x r
unfolding taken modulus
joined_least add acc x r h v c = record {
  value-is = v ∙ sym (ap (λ (b : Bool). taken b acc.value record { hit = true; old = x.old; new = x.value }) h);
  changed-is = c;
}

-- a truth value as a number
pub bit_is : (b : Bool) → bool_byte b ≡ indicator b
unfolding indicator
bit_is true = refl
bit_is false = refl

-- of a cell directly below only its number before and after counts
pub taken-same : (a : Bool) (m : ℕ) (y z : Renewal) → y.old ≡ z.old → y.new ≡ z.new → taken a m y ≡ taken a m z
unfolding taken
taken-same true m y z p q = ap₂ (λ (v w : ℕ). (m + (w + (modulus - v))) % modulus) p q
taken-same false m y z p q = ap (min m) q

pub gathered-append : (add : Bool) (acc : ℕ) (xs ys : List Renewal) → gathered add acc (xs ++ ys) ≡ gathered add (gathered add acc xs) ys
unfolding gathered
gathered-append add acc [] ys = refl
gathered-append add acc (x ∷ xs) ys = gathered-append add (taken add acc x) xs ys

-- one more port
pub sum-port : (u : ℕ) (h : ℕ → ℕ) → sum (each_port (suc u) (λ p. h p ∷ [])) ≡ sum (each_port u (λ p. h p ∷ [])) + h u
unfolding each_port sum
sum-port u h = sum-append (each_port u (λ p. h p ∷ [])) (h u ∷ []) ∙ omega arith
