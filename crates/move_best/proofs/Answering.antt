-- What the choice says of improve: whether it lowers the root, and which move is made. Assumes nothing.
use mathlib.Core.Path.{◌≡◌, sym, ap, ◌∙◌}
use mathlib.Core.Bool.{true, false, false≢true}
use mathlib.Core.List.{List, [], ◌∷◌, Memᴰ}
use Prim.Native.Nat.{ℕ}
use native.Mathlib.Omega.{arith}
use lib.Dec.{ltb}
use borrow.Author.Tests.{eq-eqb, ne_eqb}
use Rattle.logic.specs.declared.Move.{Move}
use Rattle.logic.specs.Formula.{Plan}
use Rattle.logic.specs.Configuration.{in_masks}
use Rattle.contracts.specs.State.{State}
use Rattle.contracts.specs.MoveOrder.{candidates, Candidate}
use Rattle.contracts.specs.MoveCall.{moves_own}
use Rattle.contracts.specs.ImproveCall.{improve_made, no_better, root_now, root_after, best_moves, first_lowers, would_make, improves_by}
use Rattle.contracts.proofs.Candidates.{in-candidate}
use Rattle.contracts.proofs.Best.{best-is}
use Rattle.move_rank.specs.declared.Choice.{Choice}
use Rattle.move_best.specs.inner.Choosing.{BestIs, lowers_by}

module _ (P : Plan) (own : State) (c : Choice) (root : ℕ) (root_is : root ≡ root_now own.cells) where
  none-there : c.count ≡ 0 → lowers_by c root ≡ false
  unfolding lowers_by
  none-there e = rw (eq-eqb c.count 0 e)

  some-there : (m : Move) (ms : List Move) → BestIs (m ∷ ms) P own c → lowers_by c root ≡ ltb (root_after P m own.masks own.cells) (root_now own.cells)
  unfolding lowers_by BestIs
  some-there m ms b = rw (ne_eqb c.count 0 (λ z. omega (arith, b.0, z)), b.2, root_is)

  -- improve would make a move exactly where the choice lowers the root
  pub would-make : (kinds : ℕ) → BestIs (best_moves P kinds own) P own c → would_make P kinds own ≡ lowers_by c root
  unfolding would_make
  would-make kinds = go (best_moves P kinds own)
    where
      go : (ms : List Move) → BestIs ms P own c → first_lowers (λ m. root_after P m own.masks own.cells) (root_now own.cells) ms ≡ lowers_by c root
      go [] b = unfold first_lowers BestIs in sym (none-there b)
      go (m ∷ ms) b = unfold first_lowers in sym (some-there m ms b)

  -- a choice that does not lower the root, or none at all
  pub improve-stays : (ms : List Move) → BestIs ms P own c → lowers_by c root ≡ false → improves_by ms P own ≡ (no_better root, own)
  unfolding improves_by
  improve-stays [] b f = ap (λ (r : ℕ). (no_better r, own)) (sym root_is)
  improve-stays (m ∷ ms) b f = rw (sym (some-there m ms b) ∙ f, root_is)

  -- a choice that lowers it is made
  pub improve-makes : (ms : List Move) → BestIs ms P own c → lowers_by c root ≡ true
      → improves_by ms P own ≡ (improve_made c.m (moves_own c.m P own).0, (moves_own c.m P own).1)
  unfolding improves_by BestIs
  improve-makes [] b f = absurd (false≢true (sym (none-there b) ∙ f))
  improve-makes (m ∷ ms) b f = rw (sym (some-there m ms b) ∙ f, b.1)

  -- and is one of the candidates
  chosen-in : (ms : List Move) → BestIs ms P own c → lowers_by c root ≡ true → Memᴰ c.m ms
  unfolding BestIs
  chosen-in [] b f = absurd (false≢true (sym (none-there b) ∙ f))
  chosen-in (m ∷ ms) b f = Memᴰ.head b.1

  pub chosen-candidate : (kinds : ℕ) → BestIs (best_moves P kinds own) P own c → lowers_by c root ≡ true → Candidate P kinds (in_masks own.masks) c.m
  unfolding best_moves
  chosen-candidate kinds b f =
      in-candidate P kinds (in_masks own.masks) c.m
      (best-is (λ m. root_after P m own.masks own.cells) (candidates P kinds (in_masks own.masks)) c.m
      (chosen-in (best_moves P kinds own) b f)).0
