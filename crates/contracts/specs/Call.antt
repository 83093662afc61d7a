-- A call over a plan's tables: the grounds that it tries, in one list, and what it answers and leaves. Paper 01, section Grounds for
-- refusal, and the letter, demand 1.
use Rattle.std.specs.Prelude.{true, false, not, ◌||◌, List, [], ◌∷◌, ◌++◌, ℕ, zero, suc, ltb, length, take}
use Rattle.logic.specs.Formula.{Plan}
use Rattle.logic.specs.Configuration.{Sets, in_masks, own_masks, all_within}
use Rattle.logic.specs.Cells.{own_cells}
use Rattle.logic.specs.Moves.{Ground, refusal}
use Rattle.logic.specs.Change.{some_of}
use Rattle.table_format.specs.Decode.{Decoded, broken, sound}
use Rattle.contracts.specs.State.{State, own_tables, with_rest}
use Rattle.contracts.specs.Journal.{count_past}

-- "11 plan table breaks a rule above or is cut short", then what a call asks of the plan.
unfoldable pub plan_grounds : Decoded → (Plan → List Ground) → List Ground
plan_grounds broken rows = (11, true) ∷ []
plan_grounds (sound P) rows = (11, false) ∷ rows P

-- "12 cell, scratch, mask [..] table too short; 13 a mask with a port of u or more", over the plan's own masks, the length of the mask
-- table and those of the cell tables that are lent.
unfoldable pub table_grounds : Plan → List ℕ → ℕ → List ℕ → List Ground
table_grounds P own masks-length lengths =
    (12, ltb masks-length (own_masks P) || some_of (λ l. ltb l (own_cells P)) lengths) ∷ (13, not (all_within P.ports own)) ∷ []

-- 12 and 13 over the tables and the lengths of further cell tables, as scratch; then what a call asks of the plan and of the sets that
-- its own masks spell.
unfoldable pub tables_then : State → List ℕ → (Plan → Sets → List Ground) → Plan → List Ground
tables_then s lengths more P =
    let own = take (own_masks P) s.masks in
    table_grounds P own (length s.masks) (length s.cells ∷ lengths) ++ more P (in_masks own)

-- "The other calls try 11 to 15": 11 to 13, then what the call asks.
unfoldable pub call_grounds : Decoded → State → List ℕ → (Plan → Sets → List Ground) → List Ground
call_grounds d s lengths more = plan_grounds d (tables_then s lengths more)

-- The same of a call with a journal of some length and record count: "a record count past the journal's length or past 1,024 is 12"
-- (paper 02, request 2026-03).
unfoldable pub journal_grounds : Decoded → State → ℕ → ℕ → List ℕ → (Plan → Sets → List Ground) → List Ground
journal_grounds d s room count lengths more = plan_grounds d (λ P. (12, count_past room count) ∷ tables_then s lengths more P)

module _ {A : Type 0} (refused : ℕ → A) where
  -- The answer and the tables afterwards, where the first ground that applies is given, 0 for none: "A refused call returns the first
  -- number in 01's order that applies [..] and writes nothing"; an accepted one answers and leaves what `act` says of the plan's own
  -- tables, and what is past them stays. A broken table meets 11.
  unfoldable pub call_or : ℕ → Decoded → (Plan → State → A × State) → State → A × State
  call_or zero broken act s = (refused 11, s)
  call_or zero (sound P) act s =
      let r = act P (own_tables P s) in
      (r.0, with_rest P r.1 s)
  call_or (suc g) d act s = (refused (suc g), s)

  -- The call itself: the first ground of its list decides.
  unfoldable pub call : List Ground → Decoded → (Plan → State → A × State) → State → A × State
  call grounds d act s = call_or (refusal grounds) d act s
