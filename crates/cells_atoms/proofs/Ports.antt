-- The literals that a change hits, by the pairs that it lists; sums of which one port counts. Assumes nothing.
use mathlib.Core.Path.{◌≡◌, sym, ap, ◌∙◌}
use mathlib.Core.Logic.{◌≢◌}
use mathlib.Core.Bool.{Bool, ◌&&◌, ◌||◌}
use mathlib.Core.List.{List, [], ◌∷◌}
use Prim.Native.Nat.{ℕ, zero, suc, ◌+◌, ◌-◌, ◌%◌, ◌<◌}
use native.Mathlib.Decide.{ℕ_discrete}
use native.Mathlib.Omega.{arith}
use lib.Dec.{eqb}
use lib.ListN.{length}
use borrow.Author.Tests.{lt-leb}
use Rattle.logic.specs.inner.Agreement.{listed}
use Rattle.logic.specs.Truth.{Tuple, port_of}
use Rattle.logic.specs.Penalty.{sum, each_port}
use Rattle.logic.specs.Moves.{Pair}
use Rattle.logic.specs.Change.{some_of, member_hit, modulus}
use Rattle.logic.proofs.Lists.{some_same}
use Rattle.cells_sum.proofs.Sums.{sum-port}
use Rattle.cells_atoms.proofs.Over.{ports-zero}

-- a membership literal whose variable is bound is hit by the pairs at its port
pub bound-hit : (qs : List Pair) (v S : ℕ) (e : Tuple) → v < length e → some_of (member_hit v S e) qs ≡ listed qs S (port_of e v)
unfolding listed member_hit
bound-hit qs v S e h =
    some_same _ _ qs (λ q d. ap (λ (a : Bool). eqb S q.0 && (a || eqb (port_of e v) q.1)) (lt-leb (length e) v h))

-- a sum over the ports of which only one counts
pub one-port : (u : ℕ) (f : ℕ → ℕ) (x : ℕ) → x < u → ((z : ℕ) → z ≢ x → f z ≡ 0) → sum (each_port u (λ z. f z ∷ [])) ≡ f x
one-port zero f x l H = absurd (omega arith)
one-port (suc u) f x l H = sum-port u f ∙ go (ℕ_discrete x u) (λ i. one-port u f x i H)
  where
    go : Dec (x ≡ u) → (x < u → sum (each_port u (λ z. f z ∷ [])) ≡ f x) → sum (each_port u (λ z. f z ∷ [])) + f u ≡ f x
    go (yes i) h = rw i (omega (arith, ports-zero u f (λ p j. H p (λ e. omega arith))))
    go (no i) h = omega (arith, h (omega arith), H u (λ e. i (sym e)))

-- a number less another, by way of a third
pub by_way_of : (new base old : ℕ) → base < modulus → (new + (modulus - old)) % modulus ≡ (base + (modulus - old) + (new + (modulus - base))) % modulus
unfolding modulus
by_way_of new base old h = omega arith
