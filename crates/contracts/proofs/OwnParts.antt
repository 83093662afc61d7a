-- "Bytes, masks and cells past a plan's own are never written or read": load, moves, trials, improve, undo and ports in test over two
-- inputs. Assumes nothing.
use mathlib.Core.Path.{◌≡◌, refl, sym, ap, ◌∙◌}
use mathlib.Core.Bool.{Bool, true, false, cond, not, ◌||◌}
use mathlib.Core.List.{List, [], ◌∷◌}
use Prim.Native.Nat.{ℕ, ◌≤◌}
use lib.Dec.{ltb}
use lib.ListN.{length, take}
use lib.Seq.{length-take-le}
use Rattle.logic.specs.declared.Move.{Move}
use Rattle.logic.specs.Formula.{Plan}
use Rattle.logic.specs.Configuration.{Sets, Configuration, own_masks, spelled}
use Rattle.logic.specs.Cells.{own_cells, cells}
use Rattle.logic.specs.Moves.{Ground, refusal, move_grounds, kinds_known}
use Rattle.logic.specs.Change.{Change, some_of, new_cells}
use Rattle.logic.specs.InTest.{test_grounds}
use Rattle.logic.proofs.Tables.{length-layout}
use Rattle.logic.proofs.Theorems.{length-cells}
use Rattle.table_format.specs.Decode.{sound}
use Rattle.contracts.specs.State.{State, own_tables}
use Rattle.contracts.specs.Journal.{opposite}
use Rattle.contracts.specs.Call.{plan_grounds, tables_then, call_grounds, journal_grounds, call}
use Rattle.contracts.specs.Load.{load_refused, load_grounds, loaded_masks, loaded_tables, loads_own, loads}
use Rattle.contracts.specs.MoveCall.{move_refused, made_grounds, move_call_grounds, cells_after, tables_after, moves_own, moves}
use Rattle.contracts.specs.TrialCall.{trials_own, trial_grounds, trials}
use Rattle.contracts.specs.ImproveCall.{ImproveValues, improve_refused, improve_made, no_better, root_now, root_after, best_moves, would_make, chosen_grounds, improve_grounds, improves_by, improves_own, improves}
use Rattle.contracts.specs.UndoCall.{taken_grounds, undo_grounds, undoes}
use Rattle.contracts.specs.TestCall.{test_call_grounds, tested_cells, tested_tables, tests_own, tests}
use Rattle.contracts.specs.BestCall.{list_refused, best_grounds, lists_own, lists}
use Rattle.contracts.proofs.Calls.{lent-enough, journal-tables, same-counted, AsLong, own-long, SamePast, same-own, same-grounds, call-past, call_same}
use Rattle.contracts.proofs.Within.{move-length, test-length}
use Rattle.contracts.specs.OwnParts.{SameTables}

-- a change leaves as many own cells as there were
length-after : (P : Plan) (k : Configuration) (ch : Change) (cells : List ℕ) → own_cells P ≤ length cells
    → length (new_cells P k ch (take (own_cells P) cells)) ≡ length (take (own_cells P) cells)
unfolding new_cells own_cells
length-after P k ch cells h = length-layout P.ports _ P.formula 0 0 ∙ sym (length-take-le (own_cells P) cells h)

made-long : (P : Plan) (m : Move) (s : State) → own_cells P ≤ length s.cells → AsLong P (tables_after P m (own_tables P s)) s
unfolding tables_after own_tables cells_after
made-long P m s h = record { masks-long = move-length P m (take (own_masks P) s.masks); cells-long = length-after P _ _ s.cells h }

-- an accepted load, move, trial or improve leaves as many own masks and cells as there were
load_fits : (P : Plan) (s : State) → refusal (load_grounds (sound P) s) ≡ 0 → AsLong P (loads_own P (own_tables P s)).1 s
unfolding load_grounds loads_own loaded_tables loaded_masks own_tables
load_fits P s e = record {
  masks-long = refl;
  cells-long =
      length-cells P (spelled P (take (own_masks P) s.masks))
      ∙ sym (length-take-le (own_cells P) s.cells (lent-enough P s [] (λ Q k. []) e).cells-enough);
}

-- a move that is made, by the record or by its opposite, whatever grounds the call tries after those of the tables
made-fits : (m : Move) (P : Plan) (s : State) (room count : ℕ) (more : Plan → Sets → List Ground)
    → refusal (journal_grounds (sound P) s room count [] more) ≡ 0 → AsLong P (moves_own m P (own_tables P s)).1 s
unfolding moves_own
made-fits m P s room count more e = made-long P m s (lent-enough P s [] more (journal-tables P s room count [] more e)).cells-enough

-- a port that goes into test or out of it
test_fits : (into : Bool) (p : ℕ) (P : Plan) (s : State) → refusal (test_call_grounds (sound P) s into p) ≡ 0 → AsLong P (tests_own into p P (own_tables P s)).1 s
unfolding test_call_grounds tests_own tested_tables tested_cells own_tables
test_fits into p P s e = record {
  masks-long = test-length P into p (take (own_masks P) s.masks);
  cells-long = length-after P _ _ s.cells (lent-enough P s [] (λ Q k. test_grounds Q k into p) e).cells-enough;
}

trial-fits : (m : Move) (P : Plan) (s : State) (scratch : ℕ) → refusal (trial_grounds (sound P) s scratch m) ≡ 0
    → AsLong P (trials_own m P (own_tables P s)).1 s
unfolding trials_own
trial-fits m P s scratch e = own-long P s

either-long : (P : Plan) (s : State) (b : Bool) (v w : ImproveValues × State) → AsLong P v.1 s → AsLong P w.1 s → AsLong P (cond b v w).1 s
either-long P s true v w x y = x
either-long P s false v w x y = y

improve-long : (P : Plan) (s : State) → own_cells P ≤ length s.cells → (ms : List Move) → AsLong P (improves_by ms P (own_tables P s)).1 s
unfolding improves_by moves_own
improve-long P s h [] = own-long P s
improve-long P s h (m ∷ ms) =
    let own = own_tables P s in
    either-long P s (ltb (root_after P m own.masks own.cells) (root_now own.cells))
    (improve_made m (moves_own m P own).0, (moves_own m P own).1) (no_better (root_now own.cells), own) (made-long P m s h) (own-long P s)

-- what improve tries after the grounds of the tables
abbrev improve_more : ℕ → ℕ → ℕ → State → Plan → Sets → List Ground
improve_more kinds room count own Q k = chosen_grounds kinds (would_make Q kinds own) room count

improve-fits : (kinds : ℕ) (P : Plan) (s : State) (scratch room count : ℕ)
    → refusal (improve_grounds (sound P) s (scratch ∷ []) room count kinds) ≡ 0 → AsLong P (improves_own kinds P (own_tables P s)).1 s
unfolding improve_grounds improves_own
improve-fits kinds P s scratch room count e =
    let more : Plan → Sets → List Ground = λ Q k. improve_more kinds room count (own_tables Q s) Q k in
    improve-long P s (lent-enough P s (scratch ∷ []) more (journal-tables P s room count (scratch ∷ []) more e)).cells-enough
    (best_moves P kinds (own_tables P s))

module _ (P : Plan) (s : State) where
  made-past : (m : Move) (room count : ℕ) (more : Plan → Sets → List Ground)
      → SamePast P s (call move_refused (journal_grounds (sound P) s room count [] more) (sound P) (moves_own m) s).1
  made-past m room count more =
      call-past move_refused (moves_own m) P (journal_grounds (sound P) s room count [] more) s (made-fits m P s room count more)

  -- "An accepted move writes its masks and touched cells": what is past the plan's own masks and cells stays, accepted or not.
  pub move-past : (m : Move) (room count : ℕ) → SamePast P s (moves (sound P) m s room count).1
  unfolding moves move_call_grounds
  move-past m room count = made-past m room count (λ Q k. made_grounds Q k room count m)

  -- The same of undo.
  pub undo-past : (m : Move) (room count : ℕ) → SamePast P s (undoes (sound P) m s room count).1
  unfolding undoes undo_grounds
  undo-past m room count = made-past (opposite m) room count (λ Q k. taken_grounds Q k count m)

  -- The same of a port that goes into test or out of it.
  pub test-past : (into : Bool) (p : ℕ) → SamePast P s (tests (sound P) into p s).1
  unfolding tests
  test-past into p = call-past move_refused (tests_own into p) P (test_call_grounds (sound P) s into p) s (test_fits into p P s)

  -- The same of load.
  pub load_past : SamePast P s (loads (sound P) s).1
  unfolding loads
  load_past = call-past load_refused loads_own P (load_grounds (sound P) s) s (load_fits P s)

  -- The same of improve.
  pub improve-past : (kinds scratch room count : ℕ) → SamePast P s (improves (sound P) kinds s scratch room count).1
  unfolding improves
  improve-past kinds scratch room count =
      call-past improve_refused (improves_own kinds) P (improve_grounds (sound P) s (scratch ∷ []) room count kinds) s (improve-fits kinds P s scratch room count)

module _ (P : Plan) (s s' : State) (t : SameTables P s s') where
  -- the same answer, and the same own tables afterwards
  pub load-sound : ((loads (sound P) s).0 ≡ (loads (sound P) s').0) × (own_tables P (loads (sound P) s).1 ≡ own_tables P (loads (sound P) s').1)
  unfolding loads load_grounds
  load-sound =
      call_same load_refused loads_own P (load_grounds (sound P) s) (load_grounds (sound P) s') s s' t
      (same-grounds P s s' [] [] (λ Q k. []) t refl) (load_fits P s) (load_fits P s')

  made-sound : (m : Move) (room count : ℕ) (more : Plan → Sets → List Ground)
      → (let gs : State → List Ground = λ x. journal_grounds (sound P) x room count [] more in
      ((call move_refused (gs s) (sound P) (moves_own m) s).0 ≡ (call move_refused (gs s') (sound P) (moves_own m) s').0)
      × (own_tables P (call move_refused (gs s) (sound P) (moves_own m) s).1 ≡ own_tables P (call move_refused (gs s') (sound P) (moves_own m) s').1))
  made-sound m room count more =
      let gs : State → List Ground = λ x. journal_grounds (sound P) x room count [] more in
      call_same move_refused (moves_own m) P (gs s) (gs s') s s' t
      (same-counted P s s' room count [] [] more more (same-grounds P s s' [] [] more t refl)) (made-fits m P s room count more) (made-fits m P s' room count more)

  pub move-sound : (m : Move) (room count : ℕ) → ((moves (sound P) m s room count).0 ≡ (moves (sound P) m s' room count).0)
      × (own_tables P (moves (sound P) m s room count).1 ≡ own_tables P (moves (sound P) m s' room count).1)
  unfolding moves move_call_grounds
  move-sound m room count = made-sound m room count (λ Q k. made_grounds Q k room count m)

  pub undo-sound : (m : Move) (room count : ℕ) → ((undoes (sound P) m s room count).0 ≡ (undoes (sound P) m s' room count).0)
      × (own_tables P (undoes (sound P) m s room count).1 ≡ own_tables P (undoes (sound P) m s' room count).1)
  unfolding undoes undo_grounds
  undo-sound m room count = made-sound (opposite m) room count (λ Q k. taken_grounds Q k count m)

  pub test-sound : (into : Bool) (p : ℕ) → ((tests (sound P) into p s).0 ≡ (tests (sound P) into p s').0)
      × (own_tables P (tests (sound P) into p s).1 ≡ own_tables P (tests (sound P) into p s').1)
  unfolding tests test_call_grounds
  test-sound into p =
      call_same move_refused (tests_own into p) P (test_call_grounds (sound P) s into p) (test_call_grounds (sound P) s' into p) s s' t
      (same-grounds P s s' [] [] (λ Q k. test_grounds Q k into p) t refl) (test_fits into p P s) (test_fits into p P s')

  pub trial-sound : (m : Move) (scratch scratch' : List ℕ) → ltb (length scratch) (own_cells P) ≡ ltb (length scratch') (own_cells P)
      → trials (sound P) m s (length scratch) ≡ trials (sound P) m s' (length scratch')
  unfolding trials trial_grounds some_of
  trial-sound m scratch scratch' e =
      (call_same move_refused (trials_own m) P (trial_grounds (sound P) s (length scratch) m) (trial_grounds (sound P) s' (length scratch') m) s s' t
      (same-grounds P s s' (length scratch ∷ []) (length scratch' ∷ []) (λ Q k. move_grounds Q k m) t (ap (λ (b : Bool). b || false) e))
      (trial-fits m P s (length scratch)) (trial-fits m P s' (length scratch'))).0

  -- what a call asks of the plan's own tables it asks of both alike
  same_more : (more : State → Plan → Sets → List Ground) (scratch scratch' : List ℕ) → ltb (length scratch) (own_cells P) ≡ ltb (length scratch') (own_cells P)
      → refusal (call_grounds (sound P) s (length scratch ∷ []) (λ Q k. more (own_tables Q s) Q k))
      ≡ refusal (call_grounds (sound P) s' (length scratch' ∷ []) (λ Q k. more (own_tables Q s') Q k))
  unfolding call_grounds plan_grounds tables_then some_of
  same_more more scratch scratch' e =
      same-grounds P s s' (length scratch ∷ []) (length scratch' ∷ []) (λ Q k. more (own_tables Q s) Q k) t (ap (λ (b : Bool). b || false) e)
      ∙ ap (λ (o : State). refusal (call_grounds (sound P) s' (length scratch' ∷ []) (λ Q k. more o Q k))) (same-own P s s' t)

  pub improve-sound : (kinds : ℕ) (scratch scratch' : List ℕ) (room count : ℕ) → ltb (length scratch) (own_cells P) ≡ ltb (length scratch') (own_cells P)
      → ((improves (sound P) kinds s (length scratch) room count).0 ≡ (improves (sound P) kinds s' (length scratch') room count).0)
      × (own_tables P (improves (sound P) kinds s (length scratch) room count).1 ≡ own_tables P (improves (sound P) kinds s' (length scratch') room count).1)
  unfolding improves improve_grounds
  improve-sound kinds scratch scratch' room count e =
      let more : State → Plan → Sets → List Ground = improve_more kinds room count in
      call_same improve_refused (improves_own kinds) P (improve_grounds (sound P) s (length scratch ∷ []) room count kinds)
      (improve_grounds (sound P) s' (length scratch' ∷ []) room count kinds) s s' t
      (same-counted P s s' room count (length scratch ∷ []) (length scratch' ∷ []) (λ Q k. more (own_tables Q s) Q k) (λ Q k. more (own_tables Q s') Q k)
      (same_more more scratch scratch' e))
      (improve-fits kinds P s (length scratch) room count) (improve-fits kinds P s' (length scratch') room count)

  pub lists-sound : (kinds : ℕ) (scratch scratch' : List ℕ) (room : ℕ) → ltb (length scratch) (own_cells P) ≡ ltb (length scratch') (own_cells P)
      → lists (sound P) kinds s (length scratch) room ≡ lists (sound P) kinds s' (length scratch') room
  unfolding lists best_grounds lists_own
  lists-sound kinds scratch scratch' room e =
      let more : State → Plan → Sets → List Ground = λ o Q k. (14, not (kinds_known kinds)) ∷ (16, ltb room (length (best_moves Q kinds o))) ∷ [] in
      (call_same list_refused (lists_own kinds) P (best_grounds (sound P) s (length scratch ∷ []) kinds room) (best_grounds (sound P) s' (length scratch' ∷ []) kinds room) s s' t
      (same_more more scratch scratch' e) (λ z. own-long P s) (λ z. own-long P s')).0
