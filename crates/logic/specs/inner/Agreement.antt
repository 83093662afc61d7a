-- Configurations that agree off a change.
use Rattle.std.specs.Prelude.{◌≡◌, Bool, false, ◌&&◌, List, ℕ, ◌<◌, eqb}
use Rattle.logic.specs.Formula.{Test, Forest}
use Rattle.logic.specs.Configuration.{Configuration}
use Rattle.logic.specs.Truth.{Tuple}
use Rattle.logic.specs.Penalty.{test_penalty}
use Rattle.logic.specs.Moves.{Pair}
use Rattle.logic.specs.Change.{some_of, Change, hit}
use Rattle.logic.specs.inner.Literals.{Every, OfTest}

unfoldable pub listed : List Pair → ℕ → ℕ → Bool
listed qs S p = some_of (λ q. eqb S q.0 && eqb p q.1) qs

-- Two configurations agree off a change on the sets below n: on membership off its pairs, and on size off its sets.
pub record AgreeOff (n : ℕ) (ch : Change) (k k' : Configuration) : Type 0 where
  pub members : (S p : ℕ) → S < n → listed ch.pairs S p ≡ false → k'.member S p ≡ k.member S p
  pub sizes : (S : ℕ) → S < n → ch.resized S ≡ false → k'.size S ≡ k.size S

-- The same of a test: off the change it has the same penalty; and of every literal of a forest.
unfoldable pub AgreeAt : Change → Configuration → Configuration → Test → Type 0
AgreeAt ch k k' t = (e : Tuple) → hit ch t e ≡ false → test_penalty k' t e ≡ test_penalty k t e

unfoldable pub AgreeOn : Change → Configuration → Configuration → Forest → ℕ → Type 0
AgreeOn ch k k' f d = Every (λ n c i. OfTest (AgreeAt ch k k') n) f d
