-- The answers of trial, by the grounds in the order in which the code tries them. Assumes nothing.
use mathlib.Core.Path.{◌≡◌, refl, sym, ap, ◌∙◌}
use mathlib.Core.List.{List, [], ◌∷◌}
use Prim.Native.Nat.{ℕ, zero, suc, min}
use lib.ListN.{length, take}
use Rattle.logic.specs.declared.Move.{Move}
use Rattle.std.specs.Prelude.{Ok, Err}
use Rattle.logic.specs.declared.refusal.Refusal.{Refusal}
use Rattle.logic.specs.Refusal.{refusal_number}
use Rattle.logic.proofs.Refusals.{all-told}
use Rattle.logic.specs.Formula.{Plan}
use Rattle.logic.specs.Configuration.{own_masks}
use Rattle.logic.specs.Cells.{own_cells}
use Rattle.logic.specs.Moves.{refusal, move_grounds}
use Rattle.table_format.specs.Decode.{Decoded, sound, decode}
use Rattle.cells_sum.specs.declared.After.{After}
use Rattle.contracts.specs.State.{State, tables, own_tables}
use Rattle.contracts.specs.MoveCall.{MoveValues, move_refused, move_values, MovedAs}
use Rattle.contracts.specs.TrialCall.{trials_own, trial_grounds, trials}
use Rattle.contracts.proofs.Calls.{call-refuses, call-accepted}
use Rattle.call_open.proofs.Opening.{two-tables, Tries, tries-tables}
use Rattle.move_try.specs.inner.Trying.{GivesNumbers}
use Rattle.move_try.proofs.OpenMove.{answer-is}

-- the grounds of a trial, tried
pub tries-trial : (d : Decoded) (m : Move) (s : State) (scratch : ℕ)
    → Tries d s.masks (min (length s.cells) scratch) (λ P k. move_grounds P k m) (trial_grounds d s scratch m)
unfolding trial_grounds
tries-trial d m s scratch = tries-tables d s _ (scratch ∷ []) (λ P k. move_grounds P k m) (two-tables (length s.cells) scratch)

-- a ground applies
pub trial-refused : (d : Decoded) (m : Move) (s : State) (scratch : ℕ) (g : Refusal) → refusal (trial_grounds d s scratch m) ≡ refusal_number g
    → MovedAs (trials d m s scratch) (Err g)
unfolding trials move_values
trial-refused d m s scratch g e = record {
  values-are = sym (ap (λ (x : MoveValues × State). x.0) (call-refuses move_refused (trials_own m) (trial_grounds d s scratch m) d s g e));
  told = all-told (Err g);
}

-- no ground applies
pub trial-made : (bytes masks cells : List ℕ) (scratch : ℕ) (P : Plan) → decode bytes ≡ sound P → (m : Move) (r : After)
    → refusal (trial_grounds (decode bytes) (tables masks cells) scratch m) ≡ 0 → GivesNumbers bytes masks cells m r
    → MovedAs (trials (decode bytes) m (tables masks cells) scratch) (Ok (record { before = r.old; after = r.value; changed = r.changed }))
unfolding trials trials_own move_values own_tables GivesNumbers
trial-made bytes masks cells scratch P d m r free gives =
    let s = tables masks cells in
    record {
      values-are = answer-is P (take (own_masks P) masks) (take (own_cells P) cells) m r (gives P d)
          ∙ sym (ap (λ (x : Decoded). trials x m s scratch) d
          ∙ ap (λ (x : MoveValues × State). x.0)
          (call-accepted move_refused (trials_own m) (trial_grounds (sound P) s scratch m) P s
          (ap (λ (x : Decoded). refusal (trial_grounds x s scratch m)) (sym d) ∙ free)));
      told = all-told (Ok _);
    }
