-- The tags of a port put in test and of one taken out, by the test that the code makes. Assumes nothing.
use mathlib.Core.Path.{◌≡◌, refl}
use mathlib.Core.Logic.{◌≢◌}
use mathlib.Core.Bool.{Bool, true, false, ◌||◌}
use Prim.Native.Nat.{ℕ}
use lib.Dec.{eqb}
use borrow.Author.Tests.{eqb-true, eqb-false}
use Rattle.logic.proofs.Lists.{or_left, or_right}
use Rattle.call_numbers.specs.Encoding.{test_tag}

pub test-tag : (t : ℕ) → (eqb t 6 || eqb t 7) ≡ true → t ≡ test_tag (eqb t 6)
unfolding test_tag
test-tag t h = go (eqb t 6) refl h
  where
    go : (b : Bool) → eqb t 6 ≡ b → (b || eqb t 7) ≡ true → t ≡ test_tag b
    go true e h = eqb-true t 6 e
    go false e h = eqb-true t 7 h

pub no-test-tag : (t : ℕ) → (eqb t 6 || eqb t 7) ≡ false → (into : Bool) → t ≢ test_tag into
unfolding test_tag
no-test-tag t h true = eqb-false t 6 (or_left (eqb t 6) (eqb t 7) h)
no-test-tag t h false = eqb-false t 7 (or_right (eqb t 6) (eqb t 7) h)
