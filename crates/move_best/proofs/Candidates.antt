-- The candidates of open tables, as they are enumerated. Assumes nothing.
use mathlib.Core.Path.{◌≡◌, sym, ap, ◌∙◌, subst}
use mathlib.Core.Bool.{true}
use mathlib.Core.List.{List}
use Prim.Native.Nat.{ℕ}
use native.Mathlib.Omega.{arith}
use lib.ListN.{take}
use Rattle.std.specs.Prelude.{Option}
use Rattle.logic.specs.declared.Move.{Move}
use Rattle.logic.specs.Formula.{Plan}
use Rattle.logic.specs.Configuration.{in_masks, own_masks, mask_count}
use Rattle.logic.specs.Moves.{legal}
use Rattle.table_format.specs.Decode.{sound, decode}
use Rattle.table_format.proofs.Encoding.{decode-sound}
use Rattle.table_format.proofs.Facts.{plan-sized}
use Rattle.call_open.specs.inner.Opening.{OpenPlan}
use Rattle.logic.specs.inner.MoveFields.{Sized}
use Rattle.move_order.specs.inner.Stepping.{Begins, BeginsOver, SizedOver, NextOr, GivesNext}
use Rattle.move_order.proofs.Listing.{candidate-begins}
use Rattle.call_open.proofs.OpenPlan.{facts, same-plan, ports-fit, sets-fit, masks-long}

pub sized_of : (bytes : List ℕ) (P : Plan) → decode bytes ≡ sound P → Sized P.ports P.sets
sized_of bytes P d = plan-sized P (decode-sound bytes P d).rules

-- u and n are the enumerator's numbers of ports and sets
module _ {ports sets : ℕ} {bytes masks : List ℕ} {shortest : ℕ} {firsts ends uses : List ℕ} (opened : OpenPlan ports sets bytes masks shortest firsts ends uses)
    (u n : ℕ) (ports-is : u ≡ ports) (sets-is : n ≡ sets) where
  abbrev P : Plan
  P = opened.plan

  abbrev own : List ℕ
  own = take (own_masks P) masks

  pub sized-over : SizedOver u n masks
  sized-over = record {
    sized = record {
      ports-low = omega (arith, ports-is, opened.ports-are, (facts opened).ports1);
      ports-high = omega (arith, ports-is, ports-fit opened);
      sets-low = omega (arith, sets-is, opened.sets-are, (facts opened).sets1);
      sets-high = omega (arith, sets-is, sets-fit opened);
    };
    masks-enough = omega (arith, sets-is, masks-long opened);
  }

  ports-of : (Q : Plan) → decode bytes ≡ sound Q → Q.ports ≡ u
  ports-of Q d = ap (λ (x : Plan). x.ports) (sym (same-plan opened Q d)) ∙ sym opened.ports-are ∙ sym ports-is

  sets_of : (Q : Plan) → decode bytes ≡ sound Q → Q.sets ≡ n
  sets_of Q d = ap (λ (x : Plan). x.sets) (sym (same-plan opened Q d)) ∙ sym opened.sets-are ∙ sym sets-is

  pub gives-here : (kinds : ℕ) (m : Move) (r : Option Move) → GivesNext u n kinds masks m r → (Q : Plan) → decode bytes ≡ sound Q
      → NextOr Q kinds (take (own_masks Q) masks) m r
  unfolding GivesNext own_masks
  gives-here kinds m r g Q d =
      subst (λ (j : ℕ). NextOr Q kinds (take (mask_count j) masks) m r) (sym (sets_of Q d)) (g Q (ports-of Q d) (sets_of Q d))

  pub begins-over : (m : Move) → legal P (in_masks own) m ≡ true → BeginsOver u n m masks
  begins-over m h = record {
    begins = subst (λ (j : ℕ). Begins j n m) (sym (ports-is ∙ opened.ports-are))
        (subst (λ (j : ℕ). Begins P.ports j m) (sym (sets-is ∙ opened.sets-are)) (candidate-begins P (sized_of bytes P opened.decodes) (in_masks own) m h));
    masks-enough = omega (arith, sets-is, masks-long opened);
  }
