-- The answers of the call that lists the best moves, by the grounds in the order in which the code tries them. Assumes nothing.
use mathlib.Core.Path.{◌≡◌, refl, sym, ap, ◌∙◌}
use mathlib.Core.Bool.{Bool, true, false, cond, not}
use mathlib.Core.List.{List, [], ◌∷◌, ◌++◌, map}
use Prim.Native.Nat.{ℕ, zero, suc, min, ◌≤◌, ◌<◌}
use native.Mathlib.Omega.{arith}
use lib.Dec.{ltb}
use lib.ListN.{length, drop}
use borrow.Author.Tests.{lt-ltb, le-ltb}
use Rattle.std.specs.Prelude.{Ok, Err}
use Rattle.logic.specs.declared.refusal.Refusal.{Refusal}
use Rattle.logic.specs.Refusal.{refusal_number}
use Rattle.logic.specs.declared.refusal.Refusal.TheVariants.{Unknown, ListTooShort}
use Rattle.logic.proofs.Refusals.{all-told}
use Rattle.logic.specs.Formula.{Plan}
use Rattle.logic.specs.Moves.{refusal, kinds_known}
use Rattle.table_format.specs.Decode.{Decoded, sound}
use Rattle.contracts.specs.State.{State, tables, own_tables}
use Rattle.contracts.specs.ImproveCall.{best_moves}
use Rattle.contracts.specs.Counting.{count_values, count_accepted}
use Rattle.contracts.specs.BestCall.{Listing, best_grounds, list_refused, lists_own, lists, move_record, ListPromise}
use Rattle.contracts.proofs.Calls.{call-refuses, call-accepted}
use Rattle.call_open.specs.inner.Opening.{open_number}
use Rattle.call_open.proofs.Opening.{two-tables, Tries, shut, tries-tables}
use Rattle.call_open.proofs.OfKinds.{kinds-unknown, kinds-pass}
use Rattle.move_rank.specs.declared.Choice.{Choice}
use Rattle.move_best.specs.inner.Choosing.{BestIs}
use Rattle.move_best.proofs.Choosing.{count-is}

module _ (d : Decoded) (kinds : ℕ) (masks cells : List ℕ) (scratch : ℕ) (list : List (List ℕ)) where
  abbrev before : State
  before = tables masks cells

  abbrev given : Listing
  given = lists d kinds before scratch (length list)

  -- a ground applies
  refused : (g : Refusal) → refusal (best_grounds d before (scratch ∷ []) kinds (length list)) ≡ refusal_number g → ListPromise given (Err g) list list
  unfolding lists list_refused count_values
  refused g e =
      let q = ap (λ (x : Listing × State). x.0) (call-refuses list_refused (lists_own kinds) (best_grounds d before (scratch ∷ []) kinds (length list)) d before g e) in
      record {
        values-are = sym (ap (λ (x : Listing). x.0) q);
        told = all-told (Err g);
        list-is = sym (ap (λ (x : Listing). map move_record x.1 ++ drop (length x.1) list) q);
      }

  tried : Tries d masks (min (length cells) scratch) (λ Q k. (14, not (kinds_known kinds)) ∷ (16, ltb (length list) (length (best_moves Q kinds (own_tables Q before)))) ∷ [])
      (best_grounds d before (scratch ∷ []) kinds (length list))
  unfolding best_grounds
  tried = tries-tables d before (min (length cells) scratch) (scratch ∷ []) _ (two-tables (length cells) scratch)

  -- 11 to 13
  pub list-shut : (g : Refusal) → refusal_number g ≡ open_number d masks (min (length cells) scratch) → ListPromise given (Err g) list list
  list-shut g q = refused g (shut tried g q)

  module _ (P : Plan) (e : d ≡ sound P) (opens : open_number d masks (min (length cells) scratch) ≡ 0) where
    abbrev own : State
    own = own_tables P before

    -- 14
    pub list-unknown : kinds_known kinds ≡ false → ListPromise given (Err Unknown) list list
    unfolding refusal_number
    list-unknown h = refused Unknown (kinds-unknown kinds tried P e opens h)

    module _ (known-kinds : kinds_known kinds ≡ true) (c : Choice) (chooses : BestIs (best_moves P kinds own) P own c) (count : ℕ) (counts : count ≡ c.count) where
      -- 16
      number : (b : Bool) → ltb (length list) (length (best_moves P kinds own)) ≡ b → refusal (best_grounds d before (scratch ∷ []) kinds (length list)) ≡ cond b 16 0
      unfolding refusal
      number b h = kinds-pass kinds tried P e opens known-kinds ∙ ap (λ (x : Bool). cond x 16 0) h

      many : count ≡ length (best_moves P kinds own)
      many = counts ∙ count-is P own c (best_moves P kinds own) chooses

      pub list-short : length list < count → ListPromise given (Err ListTooShort) list list
      unfolding refusal_number
      list-short l = refused ListTooShort (number true (lt-ltb (length list) (length (best_moves P kinds own)) (omega (arith, l, many))))

      -- no ground applies
      pub list-made : count ≤ length list → (list' : List (List ℕ))
          → list' ≡ map move_record (best_moves P kinds own) ++ drop (length (best_moves P kinds own)) list → ListPromise given (Ok c.count) list list'
      unfolding lists lists_own count_values
      list-made l list' w =
          let free = number false (le-ltb (length list) (length (best_moves P kinds own)) (omega (arith, l, many))) in
          let q = ap (λ (x : Decoded). lists x kinds before scratch (length list)) e
          ∙ ap (λ (x : Listing × State). x.0) (call-accepted list_refused (lists_own kinds) (best_grounds (sound P) before (scratch ∷ []) kinds (length list)) P before
          (ap (λ (x : Decoded). refusal (best_grounds x before (scratch ∷ []) kinds (length list))) (sym e) ∙ free)) in
          record {
            values-are = ap count_accepted (sym counts ∙ many) ∙ sym (ap (λ (x : Listing). x.0) q);
            told = all-told (Ok _);
            list-is = w ∙ sym (ap (λ (x : Listing). map move_record x.1 ++ drop (length x.1) list) q);
          }
