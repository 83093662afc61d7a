-- Improve as a function of the tables and their journal. Paper 01, section One move; paper 02, requests 2026-01: "Improve makes the first
-- of the best.", and 2026-03.
use Rattle.std.specs.Prelude.{◌≡◌, Bool, false, cond, not, ◌&&◌, List, [], ◌∷◌, ℕ, eqb, ltb, get_or, Result, Ok, Err}
use Rattle.logic.specs.declared.Move.{Move}
use Rattle.logic.specs.Formula.{Plan}
use Rattle.logic.specs.Configuration.{in_masks}
use Rattle.logic.specs.Moves.{no_move, Ground, kinds_known}
use Rattle.logic.specs.declared.refusal.Refusal.{Refusal}
use Rattle.logic.specs.Refusal.{refusal_number, Told}
use Rattle.table_format.specs.Decode.{Decoded}
use Rattle.contracts.specs.State.{State, own_tables}
use Rattle.contracts.specs.Journal.{Journaled, full, room_of, count_after, journal_after}
use Rattle.contracts.specs.Call.{journal_grounds, call}
use Rattle.contracts.specs.declared.Improved.{Improved}
use Rattle.contracts.specs.declared.Improved.TheVariants.{Made, NoBetter}
use Rattle.contracts.specs.MoveCall.{MoveValues, move_accepted, cells_after, moves_own}
use Rattle.contracts.specs.MoveOrder.{candidates, best_of}

-- What improve answers, by 01's number and values: whether it made a move (1 if so), that move, and the three numbers.
pub record ImproveValues : Type 0 where
  pub number : ℕ
  pub found : ℕ
  pub chosen : Move
  pub before : ℕ
  pub after : ℕ
  pub changed : ℕ

-- "The answer is the number with all other fields 0."
unfoldable pub improve_refused : ℕ → ImproveValues
improve_refused number = record { number = number; found = 0; chosen = no_move; before = 0; after = 0; changed = 0 }

-- "returns it with the three numbers"
unfoldable pub improve_made : Move → MoveValues → ImproveValues
improve_made m v = record { number = 0; found = 1; chosen = m; before = v.before; after = v.after; changed = v.changed }

-- "no better move" with the root, before and after; nothing changed.
unfoldable pub no_better : ℕ → ImproveValues
no_better root = record { number = 0; found = 0; chosen = no_move; before = root; after = root; changed = 0 }

-- The number and the values of each case of the enum.
unfoldable pub improve_values : Result Improved Refusal → ImproveValues
improve_values (Ok (Made chosen before after changed)) = improve_made chosen (move_accepted before after changed)
improve_values (Ok (NoBetter root)) = no_better root
improve_values (Err g) = improve_refused (refusal_number g)

-- No refusal has the number 0, so that the values tell the case.
abbrev pub ImproveTold : Result Improved Refusal → Type 0
ImproveTold r = Told r

-- The root as the cells hold it, "now".
unfoldable pub root_now : List ℕ → ℕ
root_now before = get_or before 0 0

-- The root as a move would leave it: what trial would answer, foreign cells included.
unfoldable pub root_after : Plan → Move → List ℕ → List ℕ → ℕ
root_after P m own before = get_or (cells_after P m own before) 0 0

-- "all legal moves of the given kinds that leave the least root, each once, in this order, even if that root isn't lower than now"
unfoldable pub best_moves : Plan → ℕ → State → List Move
best_moves P kinds own = best_of (λ m. root_after P m own.masks own.cells) (candidates P kinds (in_masks own.masks))

-- Whether the first of some moves leaves a smaller root than now.
unfoldable pub first_lowers : (Move → ℕ) → ℕ → List Move → Bool
first_lowers after now [] = false
first_lowers after now (m ∷ ms) = ltb (after m) now

-- Whether improve would make a move.
unfoldable pub would_make : Plan → ℕ → State → Bool
would_make P kinds own = first_lowers (λ m. root_after P m own.masks own.cells) (root_now own.cells) (best_moves P kinds own)

-- "14 unknown [..] kinds sum (0, or above 15)"; "18, journal full [..] (for improve, only when it would make one), last".
unfoldable pub chosen_grounds : ℕ → Bool → ℕ → ℕ → List Ground
chosen_grounds kinds lowers room count = (14, not (kinds_known kinds)) ∷ (18, lowers && full room count) ∷ []

-- Improve, lent scratch and a journal of some length and record count, tries 11 to 13, then these.
unfoldable pub improve_grounds : Decoded → State → List ℕ → ℕ → ℕ → ℕ → List Ground
improve_grounds d s lengths room count kinds =
    journal_grounds d s room count lengths (λ P k. chosen_grounds kinds (would_make P kinds (own_tables P s)) room count)

-- "If a legal move of these kinds leaves a smaller root than now, it makes" the first of the best. "Otherwise it answers "no better
-- move" with the root and writes only scratch."
unfoldable pub improves_by : List Move → Plan → State → ImproveValues × State
improves_by [] P own = (no_better (root_now own.cells), own)
improves_by (m ∷ ms) P own =
    cond (ltb (root_after P m own.masks own.cells) (root_now own.cells))
    (improve_made m (moves_own m P own).0, (moves_own m P own).1)
    (no_better (root_now own.cells), own)

-- An accepted improve over the plan's own tables.
unfoldable pub improves_own : ℕ → Plan → State → ImproveValues × State
improves_own kinds P own = improves_by (best_moves P kinds own) P own

-- Improve as a function of the tables, the length of scratch, and the journal's length and record count: the answer, every mask and every
-- cell afterwards.
unfoldable pub improves : Decoded → ℕ → State → ℕ → ℕ → ℕ → ImproveValues × State
improves d kinds s scratch-length room count =
    call improve_refused (improve_grounds d s (scratch-length ∷ []) room count kinds) d (improves_own kinds) s

-- Whether improve made a move.
unfoldable pub improve_makes : ImproveValues → Bool
improve_makes v = not (eqb v.found 0)

-- Improve as a function of the tables with their journal: the answer, every mask, cell and record and the record count afterwards.
unfoldable pub improves_journaled : Decoded → ℕ → Journaled → ℕ → ImproveValues × Journaled
improves_journaled d kinds x scratch-length =
    let r = improves d kinds x.tables scratch-length (room_of x.journal) x.journal.count in
    (r.0, record { tables = r.1; journal = journal_after (improve_makes r.0) r.0.chosen x.journal })

-- What `improve` promises, which is lent the journal's length and record count: its answer by 01's number and values, and every mask,
-- every cell and the record count afterwards.
pub record ImprovePromise (given : ImproveValues × State) (count : ℕ) (r : Result Improved Refusal) (s' : State) (count' : ℕ) : Type 0 where
  pub values-are : improve_values r ≡ given.0
  pub told : ImproveTold r
  pub tables-are : s' ≡ given.1
  pub count-is : count' ≡ count_after (improve_makes given.0) count
