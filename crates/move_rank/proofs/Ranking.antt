-- The choice between the best so far and a candidate. Assumes nothing.
use mathlib.Core.Path.{◌≡◌, refl}
use mathlib.Core.Logic.{◌≢◌}
use mathlib.Core.Bool.{Bool, true, false, ◌||◌}
use Prim.Native.Nat.{ℕ, ◌+◌, ◌-◌, ◌≤◌, ◌<◌}
use native.Mathlib.Omega.{arith}
use lib.Dec.{eqb}
use borrow.Author.Tests.{lt-ltb, le-ltb, eq-eqb, ne_eqb}
use Rattle.logic.specs.declared.Move.{Move}
use Rattle.move_rank.specs.declared.Choice.{Choice}
use Rattle.move_rank.specs.inner.Ranking.{choice_of, ranked_by}

-- the choice between the best so far and a candidate
module _ (best : Choice) (m : Move) (value : ℕ) where
  pub ranked-first : best.count ≡ 0 → ranked_by best m value ≡ choice_of 1 m value
  unfolding ranked_by
  ranked-first e = rw (eq-eqb best.count 0 e)

  pub ranked-lower : value < best.value → ranked_by best m value ≡ choice_of 1 m value
  unfolding ranked_by
  ranked-lower l = rw (lt-ltb value best.value l, or-true (eqb best.count 0))
    where
      or-true : (b : Bool) → (b || true) ≡ true
      or-true true = refl
      or-true false = refl

  pub ranked_equal : best.count ≢ 0 → value ≡ best.value → ranked_by best m value ≡ choice_of (best.count + 1) best.m value
  unfolding ranked_by
  ranked_equal c e = rw (ne_eqb best.count 0 c, le-ltb value best.value (omega arith), eq-eqb value best.value e)

  pub ranked-higher : best.count ≢ 0 → best.value ≤ value → value ≢ best.value → ranked_by best m value ≡ best
  unfolding ranked_by
  ranked-higher c l d = rw (ne_eqb best.count 0 c, le-ltb value best.value l, ne_eqb value best.value d)
