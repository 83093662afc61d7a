-- A walk through the candidates: those that it has passed, and those that are left. Assumes nothing.
use mathlib.Core.Path.{◌≡◌, refl, sym, ap, ◌∙◌, subst}
use mathlib.Core.List.Memᴰ
use mathlib.Core.List.{List, [], ◌∷◌, ◌++◌, append_assoc, append-nil, Memᴰ}
use Prim.Native.Nat.{ℕ, ◌≤◌}
use native.Mathlib.Omega.{arith}
use lib.ListN.{length, length-append}
use Rattle.std.specs.Prelude.{Option, Some, None}
use Rattle.logic.specs.declared.Move.{Move}
use Rattle.logic.specs.Formula.{Plan}
use Rattle.logic.specs.Configuration.{in_masks}
use Rattle.logic.specs.inner.MoveFields.{Sized}
use Rattle.contracts.specs.MoveOrder.{candidates, Candidate}
use Rattle.contracts.proofs.Candidates.{in-candidate}
use Rattle.move_order.specs.inner.Stepping.{outset, NextOr, Walked, Stands}
use Rattle.move_order.proofs.Count.{few-candidates}
use Rattle.move_order.proofs.Listing.{candidates-walked, stands-next}

-- A walk that stands at a candidate, or has passed them all.
pub record Passed (P : Plan) (kinds : ℕ) (own : List ℕ) (at : Option Move) (passed : List Move) : Type 0 where
  pub rest : List Move
  pub joined : passed ++ rest ≡ candidates P kinds (in_masks own)
  pub stands : Stands P kinds own at rest

module _ (P : Plan) (Z : Sized P.ports P.sets) (kinds : ℕ) (own : List ℕ) where
  -- before the first candidate
  pub none_passed : (at : Option Move) → NextOr P kinds own outset at → Passed P kinds own at []
  none_passed at N = record {
    rest = candidates P kinds (in_masks own);
    joined = refl;
    stands = stands-next P Z kinds own outset at (candidates P kinds (in_masks own)) (candidates-walked P Z kinds own) N;
  }

  pub few-passed : (at : Option Move) (passed : List Move) → Passed P kinds own at passed → length passed ≤ 21504
  few-passed at passed W = omega (arith, few-candidates P Z kinds (in_masks own), ap length W.joined, length-append passed W.rest)

  module _ (m : Move) (passed : List Move) (W : Passed P kinds own (Some m) passed) where
    -- what is left begins with the candidate here
    begins : (rest : List Move) → Stands P kinds own (Some m) rest → (ms : List Move) × (rest ≡ m ∷ ms) × Walked P kinds own m ms
    unfolding Stands
    begins [] s = absurd s
    begins (n ∷ ms) s = (ms, ap (λ (y : Move). y ∷ ms) (sym s.0), s.1)

    pub here : (ms : List Move) × (W.rest ≡ m ∷ ms) × Walked P kinds own m ms
    here = begins W.rest W.stands

    pub here-among : Memᴰ m (candidates P kinds (in_masks own))
    here-among =
        subst (Memᴰ m) W.joined (Memᴰ.append_right passed (subst (Memᴰ m) (sym here.1) (Memᴰ.head refl)))

    pub here-candidate : Candidate P kinds (in_masks own) m
    here-candidate = in-candidate P kinds (in_masks own) m here-among

    -- from one candidate to the next
    pub here-joined : (passed ++ m ∷ []) ++ here.0 ≡ candidates P kinds (in_masks own)
    here-joined =
        append_assoc passed (m ∷ []) here.0 ∙ ap (λ (ks : List Move). passed ++ ks) (sym here.1) ∙ W.joined

    pub one-passed : (next : Option Move) → NextOr P kinds own m next → Passed P kinds own next (passed ++ m ∷ [])
    one-passed next N = record {
      rest = here.0;
      joined = here-joined;
      stands = stands-next P Z kinds own m next here.0 here.2 N;
    }

  -- past the last
  pub all-passed : (passed : List Move) → Passed P kinds own None passed → passed ≡ candidates P kinds (in_masks own)
  unfolding Stands
  all-passed passed W =
      sym (append-nil passed) ∙ ap (λ (ks : List Move). passed ++ ks) (sym W.stands) ∙ W.joined
