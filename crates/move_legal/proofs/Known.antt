-- Ground 14 by the fields of a move. Assumes nothing.
use mathlib.Core.Path.{◌≡◌, refl, sym}
use mathlib.Core.Bool.{Bool, true, false, true≢false, false≢true}
use mathlib.Core.Logic.{◌≢◌}
use Prim.Native.Nat.{ℕ, ◌≤◌, ◌<◌}
use native.Mathlib.Omega.{arith}
use native.Mathlib.Decide.{dec_lt}
use lib.Dec.{ltb}
use borrow.Author.Tests.{lt-ltb, le-ltb}
use Rattle.logic.specs.declared.Move.{Move}
use Rattle.logic.specs.Moves.{known}
use Rattle.logic.proofs.MoveFields.{known-fields, fields-known, fields-here, fields-there}
use Rattle.logic.specs.inner.MoveFields.{t_end, q_end, Fields}
use Rattle.move_legal.specs.inner.Legal.{SaysKnown, Decides}

never : (b : Bool) → (b ≡ true → ⊥) → b ≡ false
never true n = absurd (n refl)
never false n = refl

-- what the test of the fields says of ground 14
pub says-known : (r : Bool) (ports sets : ℕ) (m : Move) → Decides r (Fields ports sets m) → SaysKnown ports sets m r
unfolding Decides SaysKnown
says-known true ports sets m F = λ P e f. sym (fields-known P m (fields-here P ports sets m e f F))
says-known false ports sets m n = λ P e f. sym (never (known P m) (λ h. n (fields-there P ports sets m e f (known-fields P m h))))

-- the last of the tests of the fields
pub says-fields : (ports sets : ℕ) (m : Move) → (m.kind ≡ 0 → ⊥) → m.kind ≤ 4 → m.s < sets → m.t < t_end m.kind sets → m.p < ports
    → Decides (ltb m.q (q_end m.kind ports)) (Fields ports sets m)
unfolding Decides
says-fields ports sets m z h s t p = go (dec_lt m.q (q_end m.kind ports))
  where
    go : Dec (m.q < q_end m.kind ports) → Decides (ltb m.q (q_end m.kind ports)) (Fields ports sets m)
    go (yes l) = rw (lt-ltb _ _ l) (record {
      kind-low = omega arith;
      kind-high = h;
      s-below = s;
      t-below = t;
      p-below = p;
      q-below = l;
    })
    go (no n) = rw (le-ltb m.q (q_end m.kind ports) (omega arith)) (λ (F : Fields ports sets m). n F.q-below)

-- what a test that holds, or fails, has said
pub says-yes : (r : Bool) (A : Type 0) → Decides r A → r ≡ true → A
unfolding Decides
says-yes true A h e = h
says-yes false A h e = absurd (false≢true e)

pub says-no : (r : Bool) (A : Type 0) → Decides r A → r ≡ false → A → ⊥
unfolding Decides
says-no true A h e = absurd (true≢false e)
says-no false A h e = h
