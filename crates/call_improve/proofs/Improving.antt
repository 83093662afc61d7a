-- The answers of improve, by the grounds in the order in which the code tries them. Assumes nothing.
use mathlib.Core.Path.{◌≡◌, refl, sym, ap, ◌∙◌}
use mathlib.Core.Bool.{Bool, true, false, cond, ◌&&◌}
use mathlib.Core.List.{List, [], ◌∷◌}
use Prim.Native.Nat.{ℕ, zero, suc, min}
use native.Mathlib.Omega.{arith}
use lib.ListN.{length, get_or}
use lib.Seq.{get_or-take}
use Rattle.std.specs.Prelude.{Result, Ok, Err}
use Rattle.logic.specs.declared.refusal.Refusal.{Refusal}
use Rattle.logic.specs.Refusal.{refusal_number}
use Rattle.logic.specs.declared.refusal.Refusal.TheVariants.{Unknown, JournalFull}
use Rattle.logic.proofs.Refusals.{all-told}
use Rattle.logic.specs.Formula.{Plan}
use Rattle.logic.specs.Cells.{own_cells}
use Rattle.logic.specs.Moves.{refusal, kinds_known}
use Rattle.table_format.specs.Decode.{Decoded, sound, decode}
use Rattle.contracts.specs.State.{State, tables, own_tables, with_rest}
use Rattle.contracts.specs.Journal.{count_past, full, count_after}
use Rattle.contracts.specs.declared.Improved.{Improved}
use Rattle.contracts.specs.declared.Improved.TheVariants.{Made, NoBetter}
use Rattle.contracts.specs.MoveCall.{tables_after, moves_own}
use Rattle.contracts.specs.ImproveCall.{ImproveValues, improve_refused, improve_made, no_better, improve_values, would_make, chosen_grounds, improve_grounds, root_now, best_moves, improves_own, improves, improve_makes, ImprovePromise}
use Rattle.contracts.proofs.Calls.{call-refuses, call-accepted, own-whole}
use Rattle.cells_sum.specs.declared.After.{After}
use Rattle.call_open.specs.inner.Opening.{open_number}
use Rattle.call_open.proofs.Opening.{two-tables, Tries, shut, tries-journal, root-cell}
use Rattle.call_open.proofs.OfKinds.{kinds-unknown, kinds-pass}
use Rattle.move_try.proofs.OpenMove.{answer-is}
use Rattle.move_make.specs.inner.Carrying.{Carried}
use Rattle.move_rank.specs.declared.Choice.{Choice}
use Rattle.move_best.specs.inner.Choosing.{BestIs, lowers_by}
use Rattle.move_best.proofs.Answering.{improve-stays, improve-makes, would-make}

module _ (bytes : List ℕ) (kinds : ℕ) (masks cells : List ℕ) (scratch room count : ℕ) where
  abbrev d : Decoded
  d = decode bytes

  abbrev before : State
  before = tables masks cells

  abbrev given : ImproveValues × State
  given = improves d kinds before scratch room count

  abbrev shortest : ℕ
  shortest = cond (count_past room count) 0 (min (length cells) scratch)

  tried : Tries d masks shortest (λ P k. chosen_grounds kinds (would_make P kinds (own_tables P before)) room count) (improve_grounds d before (scratch ∷ []) room count kinds)
  unfolding improve_grounds
  tried = tries-journal bytes before (min (length cells) scratch) (scratch ∷ []) _ room count (two-tables (length cells) scratch)

  -- what the answer and the tables are, and the count by them
  gives : (r : Result Improved Refusal) (s' : State) (count' : ℕ) → improve_values r ≡ given.0 → s' ≡ given.1
      → count' ≡ count_after (improve_makes (improve_values r)) count → ImprovePromise given count r s' count'
  gives r s' count' v e c = record {
    values-are = v;
    told = all-told r;
    tables-are = e;
    count-is = c ∙ ap (λ (x : ImproveValues). count_after (improve_makes x) count) v;
  }

  -- a ground applies
  refused : (g : Refusal) → refusal (improve_grounds d before (scratch ∷ []) room count kinds) ≡ refusal_number g → ImprovePromise given count (Err g) before count
  unfolding improves improve_values improve_refused improve_makes count_after
  refused g e =
      let q = call-refuses improve_refused (improves_own kinds) (improve_grounds d before (scratch ∷ []) room count kinds) d before g e in
      gives (Err g) before count (sym (ap (λ (x : ImproveValues × State). x.0) q)) (sym (ap (λ (x : ImproveValues × State). x.1) q)) refl

  -- 11 to 13
  pub improve-shut : (g : Refusal) → refusal_number g ≡ open_number d masks shortest → ImprovePromise given count (Err g) before count
  improve-shut g q = refused g (shut tried g q)

  module _ (P : Plan) (e : d ≡ sound P) (opens : open_number d masks shortest ≡ 0) where
    abbrev own : State
    own = own_tables P before

    -- 14
    pub improve-unknown : kinds_known kinds ≡ false → ImprovePromise given count (Err Unknown) before count
    unfolding chosen_grounds refusal_number
    improve-unknown h = refused Unknown (kinds-unknown kinds tried P e opens h)

    module _ (known-kinds : kinds_known kinds ≡ true) (c : Choice) (chooses : BestIs (best_moves P kinds own) P own c) (root : ℕ) (root_is : root ≡ root_now own.cells) where
      -- 18
      number : (a b : Bool) → lowers_by c root ≡ a → full room count ≡ b → refusal (improve_grounds d before (scratch ∷ []) room count kinds) ≡ cond (a && b) 18 0
      unfolding chosen_grounds refusal
      number a b f g =
          kinds-pass kinds tried P e opens known-kinds
          ∙ (λ i. cond ((would-make P own c root root_is kinds chooses ∙ f) i && g i) 18 0)

      pub improve-full : lowers_by c root ≡ true → full room count ≡ true → ImprovePromise given count (Err JournalFull) before count
      unfolding refusal_number
      improve-full f g = refused JournalFull (number true true f g)

      -- no ground applies
      accepted : refusal (improve_grounds d before (scratch ∷ []) room count kinds) ≡ 0 → given ≡ ((improves_own kinds P own).0, with_rest P (improves_own kinds P own).1 before)
      unfolding improves
      accepted h =
          ap (λ (x : Decoded). improves x kinds before scratch room count) e
          ∙ call-accepted improve_refused (improves_own kinds) (improve_grounds (sound P) before (scratch ∷ []) room count kinds) P before
          (ap (λ (x : Decoded). refusal (improve_grounds x before (scratch ∷ []) room count kinds)) (sym e) ∙ h)

      pub improve-none : lowers_by c root ≡ false → ImprovePromise given count (Ok (NoBetter root)) before count
      unfolding improve_values no_better improve_makes count_after improves_own
      improve-none f =
          let q = improve-stays P own c root root_is (best_moves P kinds own) chooses f in
          let a = accepted (number false (full room count) f refl) in
          gives (Ok (NoBetter root)) before count
          (sym (ap (λ (x : ImproveValues × State). x.0) a ∙ ap (λ (x : ImproveValues × State). x.0) q))
          (own-whole P before ∙ sym (ap (λ (x : ImproveValues × State). x.1) a ∙ ap (λ (x : ImproveValues × State). with_rest P x.1 before) q)) refl

      pub improve-made : lowers_by c root ≡ true → full room count ≡ false → (r : After) (masks' cells' : List ℕ) (count' : ℕ)
          → Carried P c.m masks cells r masks' cells' → count' ≡ suc count
          → ImprovePromise given count (Ok (Made c.m r.old r.value r.changed)) (tables masks' cells') count'
      unfolding improve_values improve_made improve_makes count_after improves_own moves_own tables_after with_rest own_tables
      improve-made f g r masks' cells' count' carried raised =
          let q = improve-makes P own c root root_is (best_moves P kinds own) chooses f in
          let a = accepted (number true false f g) in
          gives (Ok (Made c.m r.old r.value r.changed)) (tables masks' cells') count'
          (ap (improve_made c.m) (answer-is P own.masks own.cells c.m r carried.numbers)
          ∙ sym (ap (λ (x : ImproveValues × State). x.0) a ∙ ap (λ (x : ImproveValues × State). x.0) q))
          ((λ i. tables (carried.masks-are i) (carried.cells_are i))
          ∙ sym (ap (λ (x : ImproveValues × State). x.1) a ∙ ap (λ (x : ImproveValues × State). with_rest P x.1 before) q)) raised

-- the first of the cells is the root's
pub root-now : (bytes : List ℕ) (P : Plan) → decode bytes ≡ sound P → (masks cells : List ℕ) → get_or cells 0 0 ≡ root_now (own_tables P (tables masks cells)).cells
unfolding root_now own_tables
root-now bytes P d masks cells = sym (get_or-take (own_cells P) cells 0 0 (root-cell bytes P d))
