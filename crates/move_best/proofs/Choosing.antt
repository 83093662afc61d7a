-- One candidate more: what holds of the best so far. Assumes nothing.
use mathlib.Core.Path.{◌≡◌, refl, sym, ap, ◌∙◌, subst}
use mathlib.Core.Logic.{◌≢◌}
use mathlib.Core.List.{List, [], ◌∷◌, ◌++◌}
use Prim.Native.Nat.{ℕ, ◌+◌, ◌≤◌, ◌<◌}
use native.Mathlib.Omega.{arith}
use native.Mathlib.Decide.{dec_lt}
use lib.ListN.{length, length-append}
use Rattle.std.specs.Prelude.{Option, Some, None}
use Rattle.logic.specs.declared.Move.{Move}
use Rattle.logic.specs.Formula.{Plan}
use Rattle.contracts.specs.State.{State}
use Rattle.contracts.specs.MoveOrder.{kept, best_of}
use Rattle.contracts.specs.ImproveCall.{root_after, best_moves}
use Rattle.contracts.proofs.Best.{best-shorter, best-first, best-lower, best-equal, best-higher, best_none}
use Rattle.move_order.specs.inner.Stepping.{outset, NextOr}
use Rattle.logic.specs.inner.MoveFields.{Sized}
use Rattle.move_rank.specs.declared.Choice.{Choice}
use Rattle.move_rank.proofs.Ranking.{ranked-first, ranked-lower, ranked_equal, ranked-higher}
use Rattle.move_best.proofs.Passing.{Passed, none_passed, few-passed, one-passed, all-passed}
use Rattle.move_rank.specs.inner.Ranking.{choice_of, ranked_by}
use Rattle.move_best.specs.inner.Choosing.{BestIs}

-- the choice counts the best moves
pub count-is : (P : Plan) (own : State) (c : Choice) (ms : List Move) → BestIs ms P own c → c.count ≡ length ms
unfolding BestIs
count-is P own c [] b = b
count-is P own c (m ∷ ms) b = b.0

module _ (P : Plan) (own : State) where
  abbrev root : Move → ℕ
  root m = root_after P m own.masks own.cells

  -- one candidate more
  module _ (m : Move) (value : ℕ) (n : value ≡ root m) where
    alone-is : BestIs (m ∷ []) P own (choice_of 1 m value)
    unfolding BestIs choice_of
    alone-is = (refl, refl, n)

    module _ (x : Move) (xs : List Move) (best : Choice) (b : BestIs (x ∷ xs) P own best) where
      value-is : best.value ≡ root x
      unfolding BestIs
      value-is = b.2

      equal_is : value ≡ best.value → BestIs ((x ∷ xs) ++ m ∷ []) P own (choice_of (best.count + 1) best.m value)
      unfolding BestIs choice_of
      equal_is e = (omega (arith, b.0, length-append xs (m ∷ [])), b.1, e ∙ b.2)

    ranked-is : (passed old : List Move) (best : Choice) → best_of root passed ≡ old → BestIs old P own best
        → BestIs (best_of root (passed ++ m ∷ [])) P own (ranked_by best m value)
    ranked-is passed [] best e b =
        let none = best_none root passed e in
        let count : best.count ≡ 0 = unfold BestIs in b in
        subst (λ (ms : List Move). BestIs ms P own (ranked_by best m value))
        (sym (ap (λ (ks : List Move). best_of root (ks ++ m ∷ [])) none ∙ best-first root m))
        (subst (BestIs (m ∷ []) P own) (sym (ranked-first best m value count)) alone-is)
    ranked-is passed (x ∷ xs) best e b = go (dec_lt (root m) (root x)) (dec_lt (root x) (root m))
      where
        some : best.count ≢ 0
        some z = let c = count-is P own best (x ∷ xs) b in omega (arith, c, z)

        go : Dec (root m < root x) → Dec (root x < root m) → BestIs (best_of root (passed ++ m ∷ [])) P own (ranked_by best m value)
        go (yes l) w =
            subst (λ (ms : List Move). BestIs ms P own (ranked_by best m value)) (sym (best-lower root passed x xs e m l))
            (subst (BestIs (m ∷ []) P own) (sym (ranked-lower best m value (omega (arith, l, n, value-is x xs best b)))) alone-is)
        go (no l) (yes w) =
            let v : best.value < value = omega (arith, w, n, value-is x xs best b) in
            subst (λ (ms : List Move). BestIs ms P own (ranked_by best m value)) (sym (best-higher root passed x xs e m w))
            (subst (BestIs (x ∷ xs) P own) (sym (ranked-higher best m value some (omega (arith, v)) (λ e. omega (arith, v, e)))) b)
        go (no l) (no w) =
            let v : value ≡ best.value = omega (arith, l, w, n, value-is x xs best b) in
            subst (λ (ms : List Move). BestIs ms P own (ranked_by best m value)) (sym (best-equal root passed x xs e m (omega (arith, l, w))))
            (subst (BestIs ((x ∷ xs) ++ m ∷ []) P own) (sym (ranked_equal best m value some v)) (equal_is x xs best b v))

-- The state of a search that stands at a candidate, or has passed them all.
pub record Sought (P : Plan) (kinds : ℕ) (own : State) (best : Choice) (at : Option Move) : Type 0 where
  pub passed : List Move
  pub walk : Passed P kinds own.masks at passed
  pub best-is : BestIs (best_of (root P own) passed) P own best

module _ (P : Plan) (Z : Sized P.ports P.sets) (kinds : ℕ) (own : State) where
  -- before the first candidate
  pub sought-first : (at : Option Move) → NextOr P kinds own.masks outset at → Sought P kinds own (choice_of 0 outset 0) at
  unfolding best_of kept BestIs choice_of
  sought-first at N = record { passed = []; walk = none_passed P Z kinds own.masks at N; best-is = refl }

  module _ (best : Choice) where
    pub few-counted : (at : Option Move) → Sought P kinds own best at → best.count ≤ 21504
    few-counted at S =
        omega (arith, best-shorter (root P own) S.passed, few-passed P Z kinds own.masks at S.passed S.walk, count-is P own best (best_of (root P own) S.passed) S.best-is)

    -- from one candidate to the next
    pub sought-next : (m : Move) → Sought P kinds own best (Some m) → (value : ℕ) (new : Choice) (next : Option Move) → value ≡ root P own m
        → new ≡ ranked_by best m value → NextOr P kinds own.masks m next → Sought P kinds own new next
    sought-next m S value new next n e N = record {
      passed = S.passed ++ m ∷ [];
      walk = one-passed P Z kinds own.masks m S.passed S.walk next N;
      best-is = subst (BestIs (best_of (root P own) (S.passed ++ m ∷ [])) P own) (sym e)
          (ranked-is P own m value n S.passed (best_of (root P own) S.passed) best refl S.best-is);
    }

    -- past the last
    pub sought-end : Sought P kinds own best None → BestIs (best_moves P kinds own) P own best
    unfolding best_moves
    sought-end S =
        subst (λ (ms : List Move). BestIs (best_of (root P own) ms) P own best) (all-passed P Z kinds own.masks S.passed S.walk) S.best-is
