-- What `writes` comes to, ground by ground. Assumes nothing.
use mathlib.Core.Path.{◌≡◌, refl, ap}
use mathlib.Core.Bool.{Bool, true, false, cond}
use mathlib.Core.List.{List, ◌++◌}
use Prim.Native.Nat.{ℕ}
use lib.Dec.{ltb}
use lib.ListN.{length, drop}
use Rattle.logic.specs.Formula.{Plan}
use Rattle.logic.specs.Moves.{refusal}
use Rattle.table_format.specs.Decode.{broken, sound}
use Rattle.text_form.specs.Spelling.{plan_text, unwritable}
use Rattle.contracts.specs.Call.{plan_grounds}
use Rattle.contracts.specs.Counting.{count_refused, count_accepted}
use Rattle.contracts.specs.WriteCall.{write_grounds, write_or, writes}

pub write-broken : (before : List ℕ) → writes broken before ≡ (count_refused 11, before)
unfolding writes write_or write_grounds plan_grounds refusal
write-broken before = refl

module _ (P : Plan) (before : List ℕ) where
  -- the first ground of a plan's table: 17, then 12
  abbrev pub write_ground : ℕ
  write_ground = cond (unwritable P) 17 (cond (ltb (length before) (length (plan_text P))) 12 0)

  pub write-refused : (number : ℕ) → (number ≡ 0 → ⊥) → number ≡ write_ground → writes (sound P) before ≡ (count_refused number, before)
  unfolding writes write_or write_grounds plan_grounds refusal
  write-refused number z e = go (unwritable P) (ltb (length before) (length (plan_text P))) e
    where
      go : (a b : Bool) → number ≡ cond a 17 (cond b 12 0) → write_or (cond a 17 (cond b 12 0)) (sound P) before ≡ (count_refused number, before)
      go true b q = rw q
      go false true q = rw q
      go false false q = absurd (z q)

  pub write-accepted : write_ground ≡ 0 → writes (sound P) before ≡ (count_accepted (length (plan_text P)), plan_text P ++ drop (length (plan_text P)) before)
  unfolding writes write_or write_grounds plan_grounds refusal
  write-accepted e = ap (λ (g : ℕ). write_or g (sound P) before) e

  -- the number that writing it answers
  pub write-number : (writes (sound P) before).0.number ≡ write_ground
  unfolding writes write_or write_grounds plan_grounds refusal count_refused count_accepted
  write-number = go (unwritable P) (ltb (length before) (length (plan_text P)))
    where
      go : (a b : Bool) → (write_or (cond a 17 (cond b 12 0)) (sound P) before).0.number ≡ cond a 17 (cond b 12 0)
      go true b = refl
      go false true = refl
      go false false = refl
