-- What a change lists, by sets and ports.
use Rattle.std.specs.Prelude.{◌≡◌, Bool, ◌&&◌, ℕ, eqb}
use Rattle.logic.specs.inner.Agreement.{listed}
use Rattle.logic.specs.Configuration.{Sets}
use Rattle.logic.specs.Change.{Change}

-- A change has these pairs and resizes these sets.
pub record Lists (pairs : Sets) (resized : ℕ → Bool) (ch : Change) : Type 0 where
  pub listed-are : (S p : ℕ) → listed ch.pairs S p ≡ pairs S p
  pub resized-are : (S : ℕ) → ch.resized S ≡ resized S

-- Some sets at one port.
unfoldable pub at_one : (ℕ → Bool) → ℕ → Sets
at_one sets x S p = sets S && eqb p x
