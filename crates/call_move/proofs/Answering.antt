-- The answers of a move, by the grounds in the order in which the code tries them. Assumes nothing.
use mathlib.Core.Path.{◌≡◌, refl, sym, ap, ◌∙◌, subst}
use mathlib.Core.Bool.{Bool, true, false, cond, not, ◌||◌}
use mathlib.Core.List.{List, [], ◌∷◌}
use Prim.Native.Nat.{ℕ, zero, suc}
use native.Mathlib.Omega.{arith}
use lib.Dec.{ltb}
use lib.ListN.{length, take}
use borrow.Author.Tests.{eqb-true}
use Rattle.logic.specs.declared.Move.{Move}
use Rattle.std.specs.Prelude.{Result, Ok, Err}
use Rattle.logic.specs.declared.refusal.Refusal.{Refusal}
use Rattle.logic.specs.Refusal.{refusal_number}
use Rattle.logic.proofs.Refusals.{all-told}
use Rattle.logic.specs.Formula.{Plan}
use Rattle.logic.specs.Configuration.{Sets, in_masks, own_masks, all_within}
use Rattle.logic.specs.Cells.{own_cells}
use Rattle.logic.specs.Moves.{refusal, move_grounds, known, legal}
use Rattle.logic.specs.Change.{some_of}
use Rattle.table_format.specs.Decode.{Decoded, broken, sound, decode}
use Rattle.cells_sum.specs.declared.After.{After}
use Rattle.contracts.specs.State.{State, tables, own_tables, with_rest}
use Rattle.contracts.specs.Journal.{count_past, full, count_after}
use Rattle.contracts.specs.Call.{plan_grounds, table_grounds, tables_then, journal_grounds, call_or, call}
use Rattle.contracts.specs.declared.Moved.{Moved}
use Rattle.contracts.specs.MoveCall.{MoveValues, move_refused, move_values, MovedAs, made_grounds, move_call_grounds, tables_after, moves_own, moves, move_made, MovePromise, MadeAs}
use Rattle.contracts.proofs.Calls.{call-refuses, call-accepted}
use Rattle.contracts.proofs.Grounds.{refusal-first, passes}
use Rattle.call_open.proofs.Opening.{one_table, Tries, tries-journal}
use Rattle.move_try.proofs.OpenMove.{answer-is}
use Rattle.move_make.specs.inner.Carrying.{Carries}
use Rattle.call_move.specs.inner.Making.{making_grounds, try_grounds, made}

-- the grounds of a move with a journal, tried
pub tries-move : (bytes : List ℕ) (m : Move) (s : State) (room count : ℕ) (empty none : Bool)
    → Tries (decode bytes) s.masks (cond (count_past room count) 0 (length s.cells)) (making_grounds empty none m) (try_grounds (decode bytes) s room count empty none m)
unfolding try_grounds
tries-move bytes m s room count empty none =
    tries-journal bytes s (length s.cells) [] (making_grounds empty none m) room count (one_table (length s.cells))

-- 19, then 14 and 15, then 18, in the order in which the code tries them
module _ (P : Plan) (k : Sets) (m : Move) where
  pub none-is-left : (b c : Bool) → b ≡ true → refusal (making_grounds b c m P k) ≡ 19
  unfolding making_grounds refusal
  none-is-left b c h = rw (h)

  pub not-legal : (b c : Bool) (n : ℕ) → b ≡ false → (n ≡ 0 → ⊥) → n ≡ refusal (move_grounds P k m) → refusal (making_grounds b c m P k) ≡ n
  not-legal b c zero h z q = absurd (z refl)
  not-legal b c (suc g) h z q = unfold making_grounds refusal in rw (h) (refusal-first (move_grounds P k m) ((18, c) ∷ []) g (sym q))

  pub by-room : (b c : Bool) → b ≡ false → refusal (move_grounds P k m) ≡ 0 → refusal (making_grounds b c m P k) ≡ cond c 18 0
  unfolding making_grounds move_grounds refusal
  by-room b c h z =
      let w = passes (not (known P m)) 13 _ z in
      rw (h, w.0, (passes (not (legal P k m)) 14 _ w.1).0)

-- a ground applies
pub move-refused : (d : Decoded) (m : Move) (s : State) (room count : ℕ) (empty none : Bool) (g : Refusal)
    → refusal (try_grounds d s room count empty none m) ≡ refusal_number g → MadeAs (made d m s room count empty none) (Err g) s
unfolding made move_values
move-refused d m s room count empty none g e =
    let given = call-refuses move_refused (moves_own m) (try_grounds d s room count empty none m) d s g e in
    record {
      answers = record { values-are = sym (ap (λ (x : MoveValues × State). x.0) given); told = all-told (Err g) };
      tables-are = sym (ap (λ (x : MoveValues × State). x.1) given);
    }

-- no ground applies
pub move-made : (bytes masks cells : List ℕ) (P : Plan) → decode bytes ≡ sound P → (m : Move) (room count : ℕ) (empty none : Bool) (r : After) (masks' cells' : List ℕ)
    → refusal (try_grounds (decode bytes) (tables masks cells) room count empty none m) ≡ 0 → Carries bytes masks cells m r masks' cells'
    → MadeAs (made (decode bytes) m (tables masks cells) room count empty none) (Ok (record { before = r.old; after = r.value; changed = r.changed })) (tables masks' cells')
unfolding made moves_own move_values tables_after own_tables with_rest Carries
move-made bytes masks cells P d m room count empty none r masks' cells' free carries =
    let s = tables masks cells in
    let c = carries P d in
    let a = answer-is P (take (own_masks P) masks) (take (own_cells P) cells) m r c.numbers in
    let given = ap (λ (x : Decoded). made x m s room count empty none) d
    ∙ call-accepted move_refused (moves_own m) (try_grounds (sound P) s room count empty none m) P s
    (ap (λ (x : Decoded). refusal (try_grounds x s room count empty none m)) (sym d) ∙ free) in
    record {
      answers = record { values-are = a ∙ sym (ap (λ (x : MoveValues × State). x.0) given); told = all-told (Ok _) };
      tables-are = (λ i. tables (c.masks-are i) (c.cells_are i)) ∙ sym (ap (λ (x : MoveValues × State). x.1) given);
    }

-- where a move was made, its journal had room
pub made-room : (d : Decoded) (m : Move) (s : State) (room count : ℕ) (empty none : Bool) → move_made (made d m s room count empty none).0 ≡ true
    → none ≡ false
unfolding made move_made call
made-room d m s room count empty none h = open_free d (accepted-free (refusal (try_grounds d s room count empty none m)) (eqb-true _ 0 h))
  where
    accepted-free : (g : ℕ) → (call_or move_refused g d (moves_own m) s).0.number ≡ 0 → g ≡ 0
    accepted-free zero e = refl
    accepted-free (suc g) e = unfold call_or move_refused in e

    open_free : (x : Decoded) → refusal (try_grounds x s room count empty none m) ≡ 0 → none ≡ false
    open_free broken e = unfold try_grounds journal_grounds plan_grounds refusal in absurd (omega (arith, e))
    open_free (sound P) e = unfold try_grounds journal_grounds plan_grounds tables_then table_grounds making_grounds move_grounds refusal in
        let a = passes (count_past room count) 11 _ e in
        let b = passes (ltb (length s.masks) (own_masks P) || some_of (λ l. ltb l (own_cells P)) (length s.cells ∷ [])) 11 _ a.1 in
        let c = passes (not (all_within P.ports (take (own_masks P) s.masks))) 12 _ b.1 in
        let f = passes empty 18 _ c.1 in
        let g = passes (not (known P m)) 13 _ f.1 in
        let h = passes (not (legal P (in_masks (take (own_masks P) s.masks)) m)) 14 _ g.1 in
        (passes none 17 _ h.1).0

-- A move is made with room for its record, and takes no record back.
moves-made : (d : Decoded) (m : Move) (s : State) (room count : ℕ) → moves d m s room count ≡ made d m s room count false (full room count)
unfolding moves made call move_call_grounds try_grounds made_grounds making_grounds journal_grounds plan_grounds tables_then table_grounds refusal
moves-made broken m s room count = refl
moves-made (sound P) m s room count = refl

-- What was made is what is promised, where the two are the same.
pub promised : (counts : Bool → ℕ → ℕ) (Made-as given : MoveValues × State) (count : ℕ) (r : Result Moved Refusal) (s' : State) (count' : ℕ) → Made-as ≡ given
    → MadeAs Made-as r s' → count' ≡ counts (move_made (move_values r)) count → MovePromise counts given count r s' count'
promised counts Made-as given count r s' count' same w c = record {
  answers = subst (λ (x : MoveValues × State). MovedAs x.0 r) same w.answers;
  tables-are = w.tables-are ∙ ap (λ (x : MoveValues × State). x.1) same;
  count-is = c ∙ ap (λ (v : MoveValues). counts (move_made v) count) (w.answers.values-are ∙ ap (λ (x : MoveValues × State). x.0) same);
}

pub move-promise : (d : Decoded) (m : Move) (s : State) (room count : ℕ) (b : Bool) (r : Result Moved Refusal) (s' : State) (count' : ℕ) → b ≡ full room count
    → MadeAs (made d m s room count false b) r s' → count' ≡ count_after (move_made (move_values r)) count
    → MovePromise count_after (moves d m s room count) count r s' count'
move-promise d m s room count b r s' count' e =
    promised count_after (made d m s room count false b) (moves d m s room count) count r s' count'
    (ap (made d m s room count false) e ∙ sym (moves-made d m s room count))
