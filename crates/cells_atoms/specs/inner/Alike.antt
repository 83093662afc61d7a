-- Two changes that come to the same at and below a cell.
use Rattle.std.specs.Prelude.{◌≡◌, true, ℕ}
use Rattle.logic.specs.Formula.{Test, Forest, none, tree}
use Rattle.logic.specs.inner.Literals.{OfTest}
use Rattle.logic.specs.Configuration.{Configuration}
use Rattle.logic.specs.Truth.{Tuple}
use Rattle.logic.specs.Penalty.{test_penalty}
use Rattle.logic.specs.Change.{Change, hit}
use Rattle.cells_walk.specs.inner.Below.{Directly}

-- A test is hit by both or by neither and, where it is hit, has the same penalty after both.
pub record AlikeAt (k : Configuration) (ch : Change) (k' : Configuration) (ch' : Change) (t : Test) (e : Tuple) : Type 0 where
  pub same-hit : hit ch t e ≡ hit ch' t e
  pub same-penalty : hit ch t e ≡ true → test_penalty k t e ≡ test_penalty k' t e

-- So is every literal of a forest's trees, at every tuple of it that extends e.
unfoldable pub Alike : ℕ → Configuration → Change → Configuration → Change → Forest → Tuple → Type 0
Alike u k ch k' ch' none e = Unit {0}
Alike u k ch k' ch' (tree n c s) e =
    OfTest (λ t. AlikeAt k ch k' ch' t e) n
    × ((x : Tuple) → Directly u n e x → Alike u k ch k' ch' c x)
    × Alike u k ch k' ch' s e
