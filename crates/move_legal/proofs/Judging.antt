-- Grounds 14 and 15 as the code tries them, and the masks of a copy. Assumes nothing.
use mathlib.Core.Path.{◌≡◌, refl, sym, ap, ap₂, ◌∙◌}
use mathlib.Core.Bool.{Bool, true, false, cond, not, ◌&&◌}
use mathlib.Core.List.{List}
use Prim.Native.Nat.{ℕ}
use native.Mathlib.Omega.{arith}
use lib.ListN.{take}
use Rattle.logic.specs.declared.Move.{Move}
use Rattle.logic.specs.Formula.{none, Plan}
use Rattle.logic.specs.Configuration.{in_masks, mask_count}
use Rattle.logic.specs.Moves.{refusal, move_grounds, known, fits, legal}
use Rattle.move_legal.specs.inner.Legal.{SaysKnown, KnownOver, MoveNumber, MoveReady}
use Rattle.logic.proofs.MoveFields.{known-fields}

module _ (ports sets u n : ℕ) (eu : u ≡ ports) (en : n ≡ sets) (m : Move) (masks : List ℕ) where
  -- 14 and 15 by the two tests
  number_by : (P : Plan) (a b : Bool) → known P m ≡ a → fits (in_masks (take (mask_count sets) masks)) m ≡ b
      → refusal (move_grounds P (in_masks (take (mask_count sets) masks)) m) ≡ cond (not a) 14 (cond (not (a && b)) 15 0)
  unfolding refusal move_grounds legal
  number_by P a b h k = ap₂ (λ (x y : Bool). cond (not x) 14 (cond (not (x && y)) 15 0)) h k

  module _ (x : Bool) (says : SaysKnown u n m x) where
    known_is : (P : Plan) → P.ports ≡ ports → P.sets ≡ sets → known P m ≡ x
    unfolding SaysKnown
    known_is P p q = sym (says P (p ∙ sym eu) (q ∙ sym en))

    pub number-unknown : x ≡ false → MoveNumber ports sets m masks 14
    unfolding MoveNumber
    number-unknown h P p q = sym (number_by P false (fits (in_masks (take (mask_count sets) masks)) m) (known_is P p q ∙ h) refl)

    pub number-known : (y : Bool) → x ≡ true → y ≡ fits (in_masks (take (mask_count n) masks)) m → y ≡ false → MoveNumber ports sets m masks 15
    unfolding MoveNumber
    number-known y h f g P p q =
        sym (number_by P true false (known_is P p q ∙ h) (ap (λ (j : ℕ). fits (in_masks (take (mask_count j) masks)) m) (sym en) ∙ sym f ∙ g))

    pub number-legal : (y : Bool) → x ≡ true → y ≡ fits (in_masks (take (mask_count n) masks)) m → y ≡ true → MoveNumber ports sets m masks 0
    unfolding MoveNumber
    number-legal y h f g P p q =
        sym (number_by P true true (known_is P p q ∙ h) (ap (λ (j : ℕ). fits (in_masks (take (mask_count j) masks)) m) (sym en) ∙ sym f ∙ g))

    -- what the second test asks
    pub known_over : MoveReady ports sets masks → x ≡ true → KnownOver u n m masks
    unfolding SaysKnown
    known_over r h = record {
      fields = known-fields record { ports = u; sets = n; formula = none } m (sym (says record { ports = u; sets = n; formula = none } refl refl) ∙ h);
      ports-high = omega (arith, r.ports64);
      masks-enough = omega (arith, r.own-masks);
    }
