-- A legal move made: the part of the masks that comes back, and what is written. Assumes nothing.
use mathlib.Core.Path.{◌≡◌, ap, ap₂, ◌∙◌, subst}
use mathlib.Core.List.{List, ◌++◌}
use Prim.Native.Nat.{ℕ, ◌≤◌}
use native.Mathlib.Omega.{arith}
use lib.ListN.{length, take, drop, length-append}
use lib.Seq.{length-take-le, take_at}
use Rattle.logic.specs.declared.Move.{Move}
use Rattle.logic.specs.Formula.{Plan}
use Rattle.logic.specs.Configuration.{in_masks, mask_count, own_masks, spelled}
use Rattle.logic.specs.Cells.{own_cells}
use Rattle.logic.specs.Moves.{named_masks, move_masks, move_pairs}
use Rattle.logic.specs.Change.{pairs_change, new_cells}
use Rattle.cells_touch.specs.declared.Changed.{Changed}
use Rattle.cells_touch.specs.inner.Hits.{Tells}
use Rattle.cells_sum.specs.declared.After.{After}
use Rattle.cells_walk.specs.inner.Root.{RootGives, RootWrites}
use Rattle.contracts.specs.MoveCall.{cells_after}
use Rattle.contracts.proofs.Within.{named-length}
use Rattle.move_try.specs.inner.Trying.{LegalMove}
use Rattle.call_open.proofs.OpenPlan.{same-plan, masks-long}
use Rattle.move_try.proofs.OpenMove.{masks-made, told, numbers-here}
use Rattle.move_make.specs.inner.Carrying.{Carried, Carries}

module _ {ports sets : ℕ} {bytes firsts ends uses masks cells : List ℕ} {m : Move} (move : LegalMove ports sets bytes firsts ends uses masks cells m) where
  abbrev P : Plan
  P = move.tables-open.opened.plan

  abbrev own : List ℕ
  own = take (own_masks P) masks

  -- the own masks, lent as a part of the table, come back as ys
  module _ (ys : List ℕ) (j : ℕ) (ej : j ≡ mask_count sets) (h : ys ≡ named_masks m (take j masks)) where
    back-length : length ys ≡ j
    back-length =
        ap length h ∙ named-length m (take j masks) ∙ length-take-le j masks (omega (arith, ej, masks-long move.tables-open.opened))

    pub back_fits : (rest : List ℕ) (n : ℕ) → n ≤ j → n ≤ length (ys ++ rest)
    back_fits rest n l = rw (length-append ys rest) (omega (arith, back-length))

    back_is : ys ≡ move_masks P m own
    back_is = masks-made move (take j masks) ys (ap (λ (x : ℕ). take x masks) ej) h

    -- as they are lent again
    pub lent_again : (rest : List ℕ) → take j (ys ++ rest) ≡ move_masks P m own
    lent_again rest = take_at ys rest j back-length ∙ back_is

    past_is : drop j masks ≡ drop (own_masks P) masks
    unfolding own_masks
    past_is = ap (λ (x : ℕ). drop x masks) (ej ∙ ap mask_count move.tables-open.opened.sets-are)

    -- what the walk gives and writes is what the move does
    pub carried : (c : Changed) → Tells m c → (after : List ℕ) → after ≡ move_masks P m own → (r : After) (new : List ℕ)
        → RootGives ports c bytes after cells r → RootWrites ports c bytes after cells new → Carries bytes masks cells m r (ys ++ drop j masks) new
    unfolding Carries RootWrites cells_after
    carried c tells after e r new gives writes = λ Q d.
        subst (λ (X : Plan). Carried X m masks cells r (ys ++ drop j masks) new) (same-plan move.tables-open.opened Q d)
        record {
          numbers = numbers-here move c tells after e r gives;
          masks-are = ap₂ ◌++◌ back_is past_is;
          cells_are = writes P (pairs_change (move_pairs P (in_masks own) m)) move.tables-open.opened.decodes (told move c tells)
              ∙ ap (λ (ms : List ℕ). new_cells P (spelled P ms) (pairs_change (move_pairs P (in_masks own) m)) (take (own_cells P) cells) ++ drop (own_cells P) cells) e;
        }
