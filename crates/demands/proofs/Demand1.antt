-- Demand 1: "an accepted call writes those parts of the lent tables that document 01 names for it and no more. A refused call [..]
-- writes nothing." What a call answers and leaves is a function of the plan's own bytes, masks and cells and of the tables' lengths:
-- two calls whose own parts agree answer the same, and leave what stands behind them as it was. That every call ends, and
-- that its answer and tables are those of the definitions, is each call's contract.
use mathlib.Core.Path.{◌≡◌, refl, sym, ap, ◌∙◌}
use mathlib.Core.Bool.{Bool}
use mathlib.Core.List.{List}
use Prim.Native.Nat.{ℕ}
use lib.ListN.{drop, length}
use Rattle.logic.specs.Formula.{Plan}
use Rattle.logic.specs.Cells.{own_cells}
use Rattle.logic.specs.declared.Move.{Move}
use Rattle.table_format.specs.Decode.{Decoded, broken, sound, decode, own_bytes}
use Rattle.table_format.proofs.Own.{own-agree}
use Rattle.logic.specs.Moves.{refusal}
use Rattle.contracts.specs.Call.{plan_grounds, call_grounds, journal_grounds, call_or, call}
use Rattle.contracts.specs.Load.{load_grounds, loads}
use Rattle.call_one.specs.Lending.{Lent}
use Rattle.call_list.specs.Working.{Worked}
use Rattle.contracts.specs.NodeCells.{node_cells}
use Rattle.call_list.proofs.Scratch.{scratch-length, scratch-past}
use Rattle.contracts.proofs.NodeAnswers.{node-own}
use Rattle.contracts.specs.State.{State, own_tables}
use Rattle.contracts.specs.MoveCall.{move_call_grounds, moves}
use Rattle.contracts.specs.TrialCall.{scratch_own, trial_grounds, trials}
use Rattle.contracts.specs.ImproveCall.{improve_grounds, improves}
use Rattle.contracts.specs.UndoCall.{undo_grounds, undoes}
use Rattle.contracts.specs.TestCall.{test_call_grounds, tests}
use Rattle.contracts.specs.BestCall.{best_grounds, lists}
use Rattle.contracts.specs.WriteCall.{writes}
use Rattle.contracts.specs.Lists.{run}
use Rattle.contracts.specs.OwnParts.{SameFirst, SameTables, SameLent}
use Rattle.contracts.proofs.OwnParts.{load-sound, move-sound, undo-sound, test-sound, trial-sound, improve-sound, lists-sound}

-- Two calls of one kind whose tables agree on the plan's own bytes, masks and cells, and on being long enough for them: if they answer
-- alike over one broken table and over one plan, they have the same answer and leave the same own masks and cells.
own-parts : {A : Type 0} (f : Decoded → State → A × State) (l l' : List ℕ) (s s' : State) → SameFirst (own_bytes l) l l'
    → ((P : Plan) → decode l ≡ sound P → SameTables P s s') → (f broken s).0 ≡ (f broken s').0
    → ((P : Plan) → SameTables P s s' → ((f (sound P) s).0 ≡ (f (sound P) s').0) × (own_tables P (f (sound P) s).1 ≡ own_tables P (f (sound P) s').1))
    → ((f (decode l) s).0 ≡ (f (decode l') s').0)
    × ((P : Plan) → decode l ≡ sound P → own_tables P (f (decode l) s).1 ≡ own_tables P (f (decode l') s').1)
own-parts f l l' s s' b same none some = (
  go (decode l) refl ∙ ap (λ (d : Decoded). (f d s').0) agree,
  λ P e. ap (λ (d : Decoded). own_tables P (f d s).1) e ∙ (some P (same P e)).1
      ∙ ap (λ (d : Decoded). own_tables P (f d s').1) (sym e ∙ agree),
)
  where
    agree : decode l ≡ decode l'
    agree = own-agree l l' b.entries b.enough

    go : (d : Decoded) → decode l ≡ d → (f d s).0 ≡ (f d s').0
    go broken e = none
    go (sound P) e = (some P (same P e)).0

-- Two writings of tables that agree on the plan's own bytes, and on being long enough for them, are the same; of the lent text only the
-- length is read (`writes`).
pub write-own-parts : (l l' text : List ℕ) → SameFirst (own_bytes l) l l' → writes (decode l) text ≡ writes (decode l') text
write-own-parts l l' text b = ap (λ (d : Decoded). writes d text) (own-agree l l' b.entries b.enough)

-- Two loads whose tables agree on the plan's own bytes, masks and cells, and on being long enough for them, have the same answer and
-- leave the same own masks and cells.
pub load-own-parts : (l l' : List ℕ) (s s' : State) → SameFirst (own_bytes l) l l' → ((P : Plan) → decode l ≡ sound P → SameTables P s s')
    → ((loads (decode l) s).0 ≡ (loads (decode l') s').0)
    × ((P : Plan) → decode l ≡ sound P → own_tables P (loads (decode l) s).1 ≡ own_tables P (loads (decode l') s').1)
unfolding loads load_grounds call_grounds plan_grounds refusal call call_or
load-own-parts l l' s s' b same = own-parts loads l l' s s' b same refl (λ P t. load-sound P s s' t)

-- The same of a node's cells.
pub node-own-parts : (l l' xs xs' : List ℕ) (node : ℕ) → SameFirst (own_bytes l) l l' → ((P : Plan) → decode l ≡ sound P → SameFirst (own_cells P) xs xs')
    → node_cells (decode l) xs node ≡ node_cells (decode l') xs' node
unfolding node_cells
node-own-parts l l' xs xs' node b same = go (decode l) refl ∙ ap (λ (d : Decoded). node_cells d xs' node) (own-agree l l' b.entries b.enough)
  where
    go : (d : Decoded) → decode l ≡ d → node_cells d xs node ≡ node_cells d xs' node
    go broken e = refl
    go (sound P) e = node-own P xs xs' node (same P e).entries (same P e).enough

-- The same of moves, over journals of the same length and record count.
pub move-own-parts : (l l' : List ℕ) (s s' : State) (m : Move) (room count : ℕ) → SameFirst (own_bytes l) l l' → ((P : Plan) → decode l ≡ sound P → SameTables P s s')
    → ((moves (decode l) m s room count).0 ≡ (moves (decode l') m s' room count).0)
    × ((P : Plan) → decode l ≡ sound P → own_tables P (moves (decode l) m s room count).1 ≡ own_tables P (moves (decode l') m s' room count).1)
unfolding moves move_call_grounds journal_grounds plan_grounds refusal call call_or
move-own-parts l l' s s' m room count b same =
    own-parts (λ d t. moves d m t room count) l l' s s' b same refl (λ P t. move-sound P s s' t m room count)

-- The same of undo, over journals of the same length, record count and newest record.
pub undo-own-parts : (l l' : List ℕ) (s s' : State) (m : Move) (room count : ℕ) → SameFirst (own_bytes l) l l' → ((P : Plan) → decode l ≡ sound P → SameTables P s s')
    → ((undoes (decode l) m s room count).0 ≡ (undoes (decode l') m s' room count).0)
    × ((P : Plan) → decode l ≡ sound P → own_tables P (undoes (decode l) m s room count).1 ≡ own_tables P (undoes (decode l') m s' room count).1)
unfolding undoes undo_grounds journal_grounds plan_grounds refusal call call_or
undo-own-parts l l' s s' m room count b same =
    own-parts (λ d t. undoes d m t room count) l l' s s' b same refl (λ P t. undo-sound P s s' t m room count)

-- The same of a port put in test or taken out.
pub test-own-parts : (l l' : List ℕ) (s s' : State) (into : Bool) (p : ℕ) → SameFirst (own_bytes l) l l' → ((P : Plan) → decode l ≡ sound P → SameTables P s s')
    → ((tests (decode l) into p s).0 ≡ (tests (decode l') into p s').0)
    × ((P : Plan) → decode l ≡ sound P → own_tables P (tests (decode l) into p s).1 ≡ own_tables P (tests (decode l') into p s').1)
unfolding tests test_call_grounds call_grounds plan_grounds refusal call call_or
test-own-parts l l' s s' into p b same =
    own-parts (λ d t. tests d into p t) l l' s s' b same refl (λ P t. test-sound P s s' t into p)

-- The same of trials, whatever scratch holds.
pub trial-own-parts : (l l' : List ℕ) (s s' : State) (scratch scratch' : List ℕ) (m : Move) → SameFirst (own_bytes l) l l'
    → ((P : Plan) → decode l ≡ sound P → SameLent P s s' scratch scratch')
    → trials (decode l) m s (length scratch) ≡ trials (decode l') m s' (length scratch')
unfolding trials trial_grounds call_grounds plan_grounds refusal call call_or
trial-own-parts l l' s s' scratch scratch' m b same =
    go (decode l) refl ∙ ap (λ (d : Decoded). trials d m s' (length scratch')) (own-agree l l' b.entries b.enough)
  where
    go : (d : Decoded) → decode l ≡ d → trials d m s (length scratch) ≡ trials d m s' (length scratch')
    go broken e = refl
    go (sound P) e = trial-sound P s s' (same P e).same m scratch scratch' (same P e).enough

-- The same of improve, over journals of the same length and record count.
pub improve-own-parts : (l l' : List ℕ) (s s' : State) (scratch scratch' : List ℕ) (kinds room count : ℕ) → SameFirst (own_bytes l) l l'
    → ((P : Plan) → decode l ≡ sound P → SameLent P s s' scratch scratch')
    → ((improves (decode l) kinds s (length scratch) room count).0 ≡ (improves (decode l') kinds s' (length scratch') room count).0)
    × ((P : Plan) → decode l ≡ sound P
    → own_tables P (improves (decode l) kinds s (length scratch) room count).1 ≡ own_tables P (improves (decode l') kinds s' (length scratch') room count).1)
unfolding improves improve_grounds journal_grounds plan_grounds refusal call call_or
improve-own-parts l l' s s' scratch scratch' kinds room count b same = (
  go (decode l) refl ∙ ap (λ (d : Decoded). (improves d kinds s' (length scratch') room count).0) agree,
  λ P e. ap (λ (d : Decoded). own_tables P (improves d kinds s (length scratch) room count).1) e
      ∙ (improve-sound P s s' (same P e).same kinds scratch scratch' room count (same P e).enough).1
      ∙ ap (λ (d : Decoded). own_tables P (improves d kinds s' (length scratch') room count).1) (sym e ∙ agree),
)
  where
    agree : decode l ≡ decode l'
    agree = own-agree l l' b.entries b.enough

    go : (d : Decoded) → decode l ≡ d → (improves d kinds s (length scratch) room count).0 ≡ (improves d kinds s' (length scratch') room count).0
    go broken e = refl
    go (sound P) e = (improve-sound P s s' (same P e).same kinds scratch scratch' room count (same P e).enough).0

-- The same of the best moves, whatever the lent list holds.
pub lists-own-parts : (l l' : List ℕ) (s s' : State) (scratch scratch' : List ℕ) (kinds room : ℕ) → SameFirst (own_bytes l) l l'
    → ((P : Plan) → decode l ≡ sound P → SameLent P s s' scratch scratch')
    → lists (decode l) kinds s (length scratch) room ≡ lists (decode l') kinds s' (length scratch') room
unfolding lists best_grounds call_grounds plan_grounds refusal call call_or
lists-own-parts l l' s s' scratch scratch' kinds room b same =
    go (decode l) refl ∙ ap (λ (d : Decoded). lists d kinds s' (length scratch') room) (own-agree l l' b.entries b.enough)
  where
    go : (d : Decoded) → decode l ≡ d → lists d kinds s (length scratch) room ≡ lists d kinds s' (length scratch') room
    go broken e = refl
    go (sound P) e = lists-sound P s s' (same P e).same kinds scratch scratch' room (same P e).enough

-- Whatever the list, no cell of scratch past the plan's own is written, and none at all where the table is broken.
pub work-past : (bytes calls : List ℕ) (b : Lent) (count : ℕ) (a : Lent) → Worked bytes calls b count a
    → (length a.scratch ≡ length b.scratch) × (drop (scratch_own (decode bytes)) a.scratch ≡ drop (scratch_own (decode bytes)) b.scratch)
work-past bytes calls b count a w = (
  scratch-length (decode bytes) b.scratch a.scratch (run (decode bytes) b.tables w.asked).0 w.scratch-run,
  scratch-past (decode bytes) b.scratch a.scratch (run (decode bytes) b.tables w.asked).0 w.scratch-run,
)
