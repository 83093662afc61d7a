-- Ground 14 by the ends of a move's fields, and candidates by their fields. Assumes nothing.
use mathlib.Core.Path.{◌≡◌, refl, sym, ◌∙◌}
use mathlib.Core.Bool.{Bool, true, false, true≢false}
use mathlib.Core.List.{List}
use mathlib.Core.Logic.{◌≢◌}
use Prim.Native.Nat.{ℕ, zero, suc}
use lib.ListN.{take}
use Rattle.logic.specs.declared.Move.{Move}
use Rattle.logic.specs.Formula.{Plan}
use Rattle.logic.specs.Configuration.{in_masks, mask_count}
use Rattle.logic.specs.Moves.{move_kind, known, fits, legal, kind_weight, of_kinds}
use Rattle.logic.proofs.Lists.{and_left, and_right, and-true}
use Rattle.contracts.specs.MoveOrder.{Candidate}
use Rattle.move_order.specs.inner.Stepping.{Suits}
use Rattle.logic.specs.inner.MoveFields.{Fields}
use Rattle.move_legal.specs.inner.Legal.{Decides}
use Rattle.logic.proofs.MoveFields.{fields-known, fields-here, known-fields, fields-there}

pub suits-candidate : (P : Plan) (ports sets kinds : ℕ) (masks : List ℕ) (m : Move) → P.ports ≡ ports → P.sets ≡ sets
    → Suits ports sets kinds masks m → Candidate P kinds (in_masks (take (mask_count sets) masks)) m
unfolding legal
suits-candidate P ports sets kinds masks m e f S = record {
  of-kinds = S.of-kinds;
  is-legal = and-true (known P m) (fits (in_masks (take (mask_count sets) masks)) m) (fields-known P m (fields-here P ports sets m e f S.fields)) S.fitting;
}

pub candidate-suits : (P : Plan) (ports sets kinds : ℕ) (masks : List ℕ) (m : Move) → P.ports ≡ ports → P.sets ≡ sets
    → Candidate P kinds (in_masks (take (mask_count sets) masks)) m → Suits ports sets kinds masks m
unfolding legal
candidate-suits P ports sets kinds masks m e f C = record {
  of-kinds = C.of-kinds;
  fields = fields-there P ports sets m e f (known-fields P m (and_left (known P m) (fits (in_masks (take (mask_count sets) masks)) m) C.is-legal));
  fitting = and_right (known P m) (fits (in_masks (take (mask_count sets) masks)) m) C.is-legal;
}

-- the last of the tests of a candidate
pub says-suits : (ports sets kinds : ℕ) (masks : List ℕ) (m : Move) (r : Bool) → of_kinds kinds m ≡ true → Fields ports sets m
    → r ≡ fits (in_masks (take (mask_count sets) masks)) m → Decides r (Suits ports sets kinds masks m)
unfolding Decides
says-suits ports sets kinds masks m true k F e = record { of-kinds = k; fields = F; fitting = sym e }
says-suits ports sets kinds masks m false k F e = λ (S : Suits ports sets kinds masks m). true≢false (sym S.fitting ∙ sym e)

-- a number of no kind
pub other-weight : (j : ℕ) → j ≢ 1 → j ≢ 2 → j ≢ 3 → j ≢ 4 → kind_weight (move_kind j) ≡ 16
unfolding kind_weight move_kind
other-weight zero a b c d = refl
other-weight (suc zero) a b c d = absurd (a refl)
other-weight (suc (suc zero)) a b c d = absurd (b refl)
other-weight (suc (suc (suc zero))) a b c d = absurd (c refl)
other-weight (suc (suc (suc (suc zero)))) a b c d = absurd (d refl)
other-weight (suc (suc (suc (suc (suc j))))) a b c d = refl
