-- What `write` answers, from what the check and the forming leave. Assumes nothing.
use mathlib.Core.Path.{◌≡◌, sym, ap, ◌∙◌, subst}
use mathlib.Core.Bool.{cond, ◌||◌}
use mathlib.Core.List.{List, ◌++◌}
use Prim.Native.Nat.{ℕ, ◌-◌, ◌≤◌}
use native.Mathlib.Omega.{arith}
use lib.Dec.{ltb}
use lib.ListN.{length, take, drop}
use lib.Seq.{take-append_seam}
use borrow.Author.Tests.{ltb-false}
use Rattle.std.specs.Prelude.{Ok, Err}
use Rattle.logic.specs.declared.refusal.Refusal.{Refusal}
use Rattle.logic.specs.Refusal.{refusal_number}
use Rattle.logic.specs.declared.refusal.Refusal.TheVariants.{BrokenTable}
use Rattle.logic.proofs.Refusals.{number-some, all-told}
use Rattle.logic.specs.Formula.{Plan}
use Rattle.logic.proofs.Lists.{or_left}
use Rattle.table_format.specs.Decode.{Decoded, broken, sound, decode}
use Rattle.text_form.specs.Spelling.{plan_text, unwritable}
use Rattle.text_put.specs.inner.Puts.{Puts}
use Rattle.text_put.proofs.Putting.{puts-front}
use Rattle.contracts.specs.Counting.{CountValues, count_refused, count_accepted, count_values}
use Rattle.contracts.specs.WriteCall.{writes, WritePromise}
use Rattle.contracts.proofs.Grounds.{passes}
use Rattle.contracts.proofs.Writing.{write-broken, write_ground, write-refused, write-accepted}
use Rattle.text_write.specs.declared.Extent.{Extent}
use Rattle.text_write.specs.inner.Forming.{FormedPlan}

-- the first of 17 and 12, by what was formed and the lent text's length
abbrev ground_of : Extent → ℕ → ℕ
ground_of e room = cond (ltb 4096 e.end || e.deep) 17 (cond (ltb room e.end) 12 0)

-- a text that is not refused is short
pub short : (e : Extent) (room : ℕ) → ground_of e room ≡ 0 → e.end ≤ 4096
short e room z = ltb-false 4096 e.end (or_left (ltb 4096 e.end) e.deep (passes (ltb 4096 e.end || e.deep) 16 _ z).0)

module _ (bytes before : List ℕ) where
  -- nothing is written on refusal
  refused : (g : Refusal) → writes (decode bytes) before ≡ (count_refused (refusal_number g), before) → WritePromise (writes (decode bytes) before) (Err g) before
  unfolding count_values
  refused g e = record {
    values-are = sym (ap (λ (x : CountValues × List ℕ). x.0) e);
    told = all-told (Err g);
    text-is = sym (ap (λ (x : CountValues × List ℕ). x.1) e);
  }

  pub broken-11 : decode bytes ≡ broken → WritePromise (writes (decode bytes) before) (Err BrokenTable) before
  unfolding refusal_number
  broken-11 d = refused BrokenTable (ap (λ (x : Decoded). writes x before) d ∙ write-broken before)

  module _ (P : Plan) (d : decode bytes ≡ sound P) (own own' : List ℕ) (e : Extent) (F : FormedPlan P own own' e) (room : length own ≡ 4096) where
    given : writes (decode bytes) before ≡ writes (sound P) before
    given = ap (λ (x : Decoded). writes x before) d

    long-is : e.end ≡ length (plan_text P)
    long-is = omega (arith, F.puts.end_is)

    ground-is : ground_of e (length before) ≡ write_ground P before
    unfolding unwritable
    ground-is = λ j. cond (ltb 4096 (long-is j) || F.deep_is j) 17 (cond (ltb (length before) (long-is j)) 12 0)

    pub refused-at : (g : Refusal) → refusal_number g ≡ ground_of e (length before) → WritePromise (writes (decode bytes) before) (Err g) before
    refused-at g h = refused g (given ∙ write-refused P before (refusal_number g) (number-some g) (h ∙ ground-is))

    module _ (free : ground_of e (length before) ≡ 0) where
      fits : e.end ≤ length before
      fits = ltb-false (length before) e.end (passes (ltb (length before) e.end) 11 _ (passes (ltb 4096 e.end || e.deep) 16 _ free).1).0

      -- the text that was formed
      formed : take (e.end - 0) own' ≡ plan_text P
      formed =
          let f = puts-front (plan_text P) own e.end own' (omega (arith, long-is, short e (length before) free)) F.puts in
          let n : e.end - 0 ≡ length (plan_text P) = omega (arith, long-is) in
          ap (λ (k : ℕ). take k own') n ∙ ap (take (length (plan_text P))) f ∙ take-append_seam (plan_text P) _

      pub accepted : (k : ℕ) (text' : List ℕ) → Puts 0 (take (e.end - 0) own') before k text' → WritePromise (writes (decode bytes) before) (Ok e.end) text'
      unfolding count_values
      accepted k text' Q =
          let w = given ∙ write-accepted P before (sym ground-is ∙ free) in
          let q = subst (λ (b : List ℕ). Puts 0 b before k text') formed Q in
          let n : k ≡ length (plan_text P) = omega (arith, q.end_is) in
          record {
            values-are = ap count_accepted long-is ∙ sym (ap (λ (x : CountValues × List ℕ). x.0) w);
            told = all-told (Ok e.end);
            text-is = puts-front (plan_text P) before k text' (omega (arith, long-is, fits)) q ∙ ap (λ (x : ℕ). plan_text P ++ drop x before) n ∙ sym (ap (λ (x : CountValues × List ℕ). x.1) w);
          }
