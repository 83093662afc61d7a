-- Undo is the opposite of the newest record made, with a record left to take back and no room needed. Assumes nothing.
use mathlib.Core.Path.{◌≡◌, refl, sym, ap, ◌∙◌}
use mathlib.Core.Bool.{Bool, false, cond, not, ◌||◌}
use mathlib.Core.List.{[], ◌∷◌}
use Prim.Native.Nat.{ℕ}
use lib.Dec.{eqb, ltb}
use lib.ListN.{length, take}
use Rattle.logic.specs.declared.Move.{Move}
use Rattle.std.specs.Prelude.{Result}
use Rattle.logic.specs.declared.refusal.Refusal.{Refusal}
use Rattle.logic.specs.Formula.{Plan}
use Rattle.logic.specs.Configuration.{Sets, in_masks, own_masks, all_within}
use Rattle.logic.specs.Cells.{own_cells}
use Rattle.logic.specs.Moves.{refusal, move_grounds, legal}
use Rattle.logic.specs.Change.{some_of}
use Rattle.table_format.specs.Decode.{Decoded, broken, sound}
use Rattle.contracts.specs.State.{State}
use Rattle.contracts.specs.Journal.{count_past, opposite, count_taken}
use Rattle.contracts.specs.Call.{plan_grounds, table_grounds, tables_then, journal_grounds, call_or, call}
use Rattle.contracts.specs.declared.Moved.{Moved}
use Rattle.contracts.specs.MoveCall.{move_refused, move_values, move_made, moves_own, MovePromise, MadeAs}
use Rattle.contracts.specs.UndoCall.{taken_grounds, undo_grounds, undoes}
use Rattle.contracts.proofs.Opposites.{opposite-known}
use Rattle.call_move.proofs.Answering.{promised}
use Rattle.call_move.specs.inner.Making.{making_grounds, try_grounds, made}

-- 14 of the record is 14 of its opposite
same-grounds : (P : Plan) (k : Sets) (count : ℕ) (m : Move) → refusal (taken_grounds P k count m) ≡ refusal (making_grounds (eqb count 0) false (opposite m) P k)
unfolding taken_grounds making_grounds move_grounds refusal
same-grounds P k count m =
    ap (λ (b : Bool). cond (eqb count 0) 19 (cond (not b) 14 (cond (not (legal P k (opposite m))) 15 0))) (sym (opposite-known P m))

undoes-made : (d : Decoded) (m : Move) (s : State) (room count : ℕ) → undoes d m s room count ≡ made d (opposite m) s room count (eqb count 0) false
unfolding undoes made call undo_grounds try_grounds journal_grounds plan_grounds tables_then table_grounds refusal
undoes-made broken m s room count = refl
undoes-made (sound P) m s room count =
    let own = take (own_masks P) s.masks in
    ap (λ (n : ℕ). call_or move_refused
    (cond (count_past room count) 12 (cond (ltb (length s.masks) (own_masks P) || some_of (λ l. ltb l (own_cells P)) (length s.cells ∷ [])) 12
    (cond (not (all_within P.ports own)) 13 n))) (sound P) (moves_own (opposite m)) s) (same-grounds P (in_masks own) count m)

pub undo-promise : (d : Decoded) (m : Move) (s : State) (room count : ℕ) (x : Move) (b : Bool) (r : Result Moved Refusal) (s' : State) (count' : ℕ) → x ≡ opposite m
    → b ≡ eqb count 0 → MadeAs (made d x s room count b false) r s' → count' ≡ count_taken (move_made (move_values r)) count
    → MovePromise count_taken (undoes d m s room count) count r s' count'
undo-promise d m s room count x b r s' count' e z =
    promised count_taken (made d x s room count b false) (undoes d m s room count) count r s' count'
    ((λ i. made d (e i) s room count (z i) false) ∙ sym (undoes-made d m s room count))
