-- Computed calls over plan A: each kind of move accepted, refused and taken back once, its pairs and its place in a sum of kinds; and
-- lists of calls with their answers, with undo, with a full journal and with an empty one. Assumes nothing.
use mathlib.Core.Path.{◌≡◌, refl, ap, subst}
use mathlib.Core.Bool.{Bool, true, false}
use mathlib.Core.List.{List, [], ◌∷◌, ◌++◌}
use Prim.Native.Nat.{ℕ}
use lib.ListN.{replicate}
use Rattle.logic.specs.declared.Move.{Move}
use Rattle.logic.specs.Formula.{none, literal_of, test_kind, kind_number, node_count, child_depth}
use Rattle.logic.specs.Configuration.{indicator, ports_in, out_of_test, configuration, configured, in_mask, in_masks, own_masks, spelled, within_ports, enter, leave, all_within}
use Rattle.logic.specs.Truth.{port_of}
use Rattle.logic.specs.Penalty.{compare, size_penalty, test_penalty, literal_penalty, sum, least, copy, combine, each_port, below, penalties, penalty}
use Rattle.logic.specs.Cells.{cell_count, place_of, tuple_at, tabulate, sibling_first, layout, own_cells, cells, root_penalty}
use Rattle.logic.specs.Moves.{no_move, move_kind, fields_known, fields_fit, known, fits, legal, refusal, move_grounds, kind_masks, named_masks, move_masks, Pair, kind_pairs, named_pairs, move_pairs, kind_weight, kinds_known, of_kinds}
use Rattle.logic.specs.Change.{some_of, pairs_change, member_hit, hit, node_hit, forest_hit, touched, modulus, differences, new_numbers, renew, cell_of, renewals, new_cell, new_cells, differing}
use Rattle.logic.specs.InTest.{test_grounds, test_masks, test_change}
use Rattle.logic.specs.Known.{literal, over, plan, plan_a, move}
use Rattle.table_format.specs.Bytes.{encoding}
use Rattle.table_format.specs.Rules.{every_node, tree_count, arity_rule, may_nest, nesting_rule, depth_rule, test_rule, literal_rule, inner_rule, node_rule, formula_rule, most_cells, plan_rule}
use Rattle.table_format.specs.Decode.{Decoded, sound, decode}
use Rattle.table_format.proofs.Encoding.{decode-complete}
use Rattle.contracts.specs.State.{State, tables, own_tables, with_rest}
use Rattle.contracts.specs.Journal.{Journaled, most_records, count_past, full, room_of, newest, appended, removed, kind_opposite, opposite, journal_after, journal_taken}
use Rattle.contracts.specs.Call.{plan_grounds, table_grounds, tables_then, call_grounds, journal_grounds, call_or, call}
use Rattle.contracts.specs.Book.{first_book}
use Rattle.contracts.specs.Load.{LoadValues, load_refused, load_grounds, loaded_masks, loaded_tables, loads_own, loads}
use Rattle.contracts.specs.MoveCall.{MoveValues, move_refused, move_accepted, made_grounds, move_call_grounds, cells_after, move_answer, tables_after, moves_own, moves, move_made, moves_journaled}
use Rattle.contracts.specs.TrialCall.{trials_own, trial_grounds, trials}
use Rattle.contracts.specs.ImproveCall.{improve_refused, improve_made, no_better, root_now, root_after, best_moves, first_lowers, would_make, chosen_grounds, improve_grounds, improves_by, improves_own, improves, improve_makes, improves_journaled}
use Rattle.contracts.specs.UndoCall.{taken_grounds, undo_grounds, undoes, undoes_journaled}
use Rattle.contracts.specs.TestCall.{test_call_grounds, tested_cells, tested_tables, tests_own, tests, tests_journaled}
use Rattle.contracts.specs.Counting.{count_refused, count_accepted}
use Rattle.contracts.specs.BestCall.{best_grounds, list_refused, lists_own, lists}
use Rattle.contracts.specs.MoveOrder.{fields_are, all_moves, kept, candidates, none_smaller, best_of}
use Rattle.contracts.specs.Lists.{Asked, ask_move, ask_trial, ask_improve, ask_best, ask_undo, ask_test, Exchange, move_call, trial_call, improve_call, best_call, undo_call, test_call, step, run, begun, book_after, AllRight, AsBook}
use Rattle.demands.proofs.Demand3.{lists-right}

-- what computes here
computing : Unit {0}
unfolding literal_of test_kind kind_number node_count child_depth indicator ports_in out_of_test configuration configured in_mask in_masks own_masks spelled within_ports enter leave port_of compare size_penalty test_penalty literal_penalty sum least copy combine each_port below penalties penalty cell_count place_of tuple_at tabulate sibling_first layout own_cells cells root_penalty move_kind fields_known fields_fit known fits legal refusal move_grounds kind_masks named_masks move_masks kind_pairs named_pairs move_pairs kind_weight kinds_known of_kinds some_of pairs_change member_hit hit node_hit forest_hit touched modulus differences new_numbers renew cell_of renewals new_cell new_cells differing literal over plan plan_a move every_node tree_count arity_rule may_nest nesting_rule depth_rule test_rule literal_rule inner_rule node_rule formula_rule most_cells plan_rule all_within load_grounds loaded_masks loaded_tables load_refused loads_own loads plan_grounds table_grounds call_grounds call_or call move_call_grounds cells_after move_refused move_accepted move_answer moves_own moves trials_own trials improve_refused improve_made no_better improve_grounds root_now root_after fields_are all_moves kept candidates none_smaller best_of best_moves improves_by improves_own improves count_refused count_accepted best_grounds list_refused lists_own lists step run own_tables with_rest tables_after tables_then journal_grounds most_records count_past full room_of newest appended removed kind_opposite opposite no_move made_grounds move_made journal_after journal_taken moves_journaled trial_grounds first_lowers would_make chosen_grounds improve_makes improves_journaled taken_grounds undo_grounds undoes undoes_journaled test_grounds test_masks test_change test_call_grounds tested_cells tested_tables tests_own tests tests_journaled begun
computing = tt

-- plan A's cells under its masks, and after each of four moves
abbrev cells_a : List ℕ
cells_a = 1 ∷ 1 ∷ 1 ∷ 0 ∷ 1 ∷ 0 ∷ 0 ∷ 0 ∷ 0 ∷ 1 ∷ 0 ∷ 0 ∷ 0 ∷ 0 ∷ 1 ∷ 0 ∷ 0 ∷ 1 ∷ 0 ∷ 0 ∷ 0 ∷ 0 ∷ 1 ∷ 0 ∷ 0 ∷ 1 ∷ 1 ∷ 1 ∷ 1 ∷ 0 ∷ 1 ∷ 1 ∷ 1 ∷ 0 ∷ []

abbrev cells_add : List ℕ
cells_add = 3 ∷ 3 ∷ 2 ∷ 0 ∷ 1 ∷ 1 ∷ 0 ∷ 0 ∷ 1 ∷ 1 ∷ 0 ∷ 1 ∷ 0 ∷ 0 ∷ 1 ∷ 0 ∷ 0 ∷ 1 ∷ 0 ∷ 0 ∷ 0 ∷ 0 ∷ 1 ∷ 0 ∷ 0 ∷ 1 ∷ 0 ∷ 1 ∷ 1 ∷ 0 ∷ 1 ∷ 1 ∷ 1 ∷ 1 ∷ []

abbrev cells_drop : List ℕ
cells_drop = 0 ∷ 0 ∷ 0 ∷ 0 ∷ 0 ∷ 0 ∷ 0 ∷ 0 ∷ 0 ∷ 1 ∷ 0 ∷ 0 ∷ 0 ∷ 1 ∷ 1 ∷ 0 ∷ 0 ∷ 1 ∷ 0 ∷ 1 ∷ 0 ∷ 0 ∷ 0 ∷ 0 ∷ 0 ∷ 1 ∷ 1 ∷ 1 ∷ 1 ∷ 0 ∷ 1 ∷ 0 ∷ 1 ∷ 0 ∷ []

abbrev cells_transfer : List ℕ
cells_transfer = 3 ∷ 3 ∷ 2 ∷ 0 ∷ 1 ∷ 1 ∷ 0 ∷ 0 ∷ 1 ∷ 1 ∷ 0 ∷ 1 ∷ 0 ∷ 0 ∷ 2 ∷ 0 ∷ 0 ∷ 1 ∷ 0 ∷ 0 ∷ 1 ∷ 0 ∷ 1 ∷ 0 ∷ 0 ∷ 1 ∷ 0 ∷ 1 ∷ 1 ∷ 0 ∷ 1 ∷ 1 ∷ 0 ∷ 1 ∷ []

abbrev cells_swap : List ℕ
cells_swap = 3 ∷ 3 ∷ 3 ∷ 1 ∷ 1 ∷ 1 ∷ 0 ∷ 0 ∷ 1 ∷ 0 ∷ 0 ∷ 1 ∷ 0 ∷ 0 ∷ 1 ∷ 0 ∷ 0 ∷ 1 ∷ 0 ∷ 0 ∷ 0 ∷ 1 ∷ 1 ∷ 0 ∷ 1 ∷ 1 ∷ 0 ∷ 1 ∷ 1 ∷ 0 ∷ 1 ∷ 1 ∷ 1 ∷ 0 ∷ []

-- No port is in test. The tables are longer than the plan's own: a fifth mask, with ports that the plan lacks, and a 35th cell. They stay
-- as they are.
abbrev masks_with : ℕ → ℕ → ℕ → List ℕ
masks_with S T I = S ∷ T ∷ I ∷ 0 ∷ 255 ∷ []

abbrev lent : List ℕ → List ℕ
lent own = own ++ 77 ∷ []

abbrev outcome : MoveValues → List ℕ → List ℕ → MoveValues × State
outcome r masks cells = (r, tables masks cells)

-- one move over plan A's tables as the load leaves them, and a journal with room
abbrev moved-A : ℕ → ℕ → ℕ → ℕ → ℕ → MoveValues × State
moved-A kind s t p q = moves (sound plan_a) (move kind s t p q) (tables (masks_with 3 7 1) (lent cells_a)) 2 1

-- S has ports 0 and 1, T 0 to 2, I 0. Add 2 to I; drop 1 from T; transfer 2 from T to I; swap 0 and 2 in I.
pub known-moves : (moved-A 1 2 0 2 0 ≡ outcome (move_accepted 1 3 8) (masks_with 3 7 5) (lent cells_add))
    × (moved-A 2 1 0 1 0 ≡ outcome (move_accepted 1 0 8) (masks_with 3 5 1) (lent cells_drop))
    × (moved-A 3 1 2 2 0 ≡ outcome (move_accepted 1 3 11) (masks_with 3 3 5) (lent cells_transfer))
    × (moved-A 4 2 0 0 2 ≡ outcome (move_accepted 1 3 11) (masks_with 3 7 4) (lent cells_swap))
unfolding computing
known-moves = (refl, refl, refl, refl)

-- Add 0 to S, drop 2 from S, transfer 0 from T to S, swap 0 and 1 in S: each breaks its condition. A field that the kind doesn't use
-- is not 0; kinds 0 and 5; a fourth set, a fourth port.
abbrev refused-A : ℕ → MoveValues × State
refused-A number = outcome (move_refused number) (masks_with 3 7 1) (lent cells_a)

pub known-refusals : (moved-A 1 0 0 0 0 ≡ refused-A 15)
    × (moved-A 2 0 0 2 0 ≡ refused-A 15)
    × (moved-A 3 1 0 0 0 ≡ refused-A 15)
    × (moved-A 4 0 0 0 1 ≡ refused-A 15)
    × (moved-A 1 2 1 2 0 ≡ refused-A 14)
    × (moved-A 2 1 0 1 1 ≡ refused-A 14)
    × (moved-A 3 1 2 2 1 ≡ refused-A 14)
    × (moved-A 4 2 1 0 2 ≡ refused-A 14)
    × (moved-A 0 0 0 0 0 ≡ refused-A 14)
    × (moved-A 5 0 0 0 0 ≡ refused-A 14)
    × (moved-A 1 3 0 2 0 ≡ refused-A 14)
    × (moved-A 4 2 0 0 3 ≡ refused-A 14)
unfolding computing
known-refusals = (refl, refl, refl, refl, refl, refl, refl, refl, refl, refl, refl, refl)

-- 12 before 13: a mask short; a cell short; a record count past the journal's length, and past 1,024; then a mask of the plan's own with
-- port 3, that of the ports in test too.
pub known-tables : (moves (sound plan_a) (move 1 0 0 0 0) (tables (8 ∷ 7 ∷ 1 ∷ []) (lent cells_a)) 2 1 ≡ outcome (move_refused 12) (8 ∷ 7 ∷ 1 ∷ []) (lent cells_a))
    × (moves (sound plan_a) (move 1 0 0 0 0) (tables (masks_with 8 7 1) (0 ∷ [])) 2 1 ≡ outcome (move_refused 12) (masks_with 8 7 1) (0 ∷ []))
    × (moves (sound plan_a) (move 1 0 0 0 0) (tables (masks_with 8 7 1) (lent cells_a)) 2 3 ≡ outcome (move_refused 12) (masks_with 8 7 1) (lent cells_a))
    × (moves (sound plan_a) (move 1 0 0 0 0) (tables (masks_with 8 7 1) (lent cells_a)) 2000 1025 ≡ outcome (move_refused 12) (masks_with 8 7 1) (lent cells_a))
    × (moves (sound plan_a) (move 0 0 0 0 0) (tables (masks_with 8 7 1) (lent cells_a)) 2 2 ≡ outcome (move_refused 13) (masks_with 8 7 1) (lent cells_a))
    × (tests (sound plan_a) true 3 (tables (3 ∷ 7 ∷ 1 ∷ 8 ∷ []) (lent cells_a)) ≡ outcome (move_refused 13) (3 ∷ 7 ∷ 1 ∷ 8 ∷ []) (lent cells_a))
unfolding computing
known-tables = (refl, refl, refl, refl, refl, refl)

abbrev tables_a : State
tables_a = tables (masks_with 3 7 1) (lent cells_a)

-- 18 last: a journal whose length is reached, 1,024 of a longer one, and one of length 0; a move that is not legal or unknown meets its
-- own ground.
pub known-full : (moves (sound plan_a) (move 1 2 0 2 0) tables_a 2 2 ≡ refused-A 18)
    × (moves (sound plan_a) (move 1 2 0 2 0) tables_a 2000 1024 ≡ refused-A 18)
    × (moves (sound plan_a) (move 1 2 0 2 0) tables_a 0 0 ≡ refused-A 18)
    × (moves (sound plan_a) (move 1 0 0 0 0) tables_a 2 2 ≡ refused-A 15)
    × (moves (sound plan_a) (move 5 0 0 0 0) tables_a 2 2 ≡ refused-A 14)
unfolding computing
known-full = (refl, refl, refl, refl, refl)

-- An undo of each kind of record, over tables in which its move was made: the opposite leaves plan A's masks and cells. A foreign record
-- meets 14, and an opposite that is not legal 15; an empty journal 19, whatever the record, but after 13; a journal that is full is none
-- of undo's grounds.
abbrev undone-A : ℕ → ℕ → ℕ → ℕ → ℕ → State → MoveValues × State
undone-A kind s t p q x = undoes (sound plan_a) (move kind s t p q) x 2 1

pub known-undos : (undone-A 1 2 0 2 0 (tables (masks_with 3 7 5) (lent cells_add)) ≡ outcome (move_accepted 3 1 8) (masks_with 3 7 1) (lent cells_a))
    × (undone-A 2 1 0 1 0 (tables (masks_with 3 5 1) (lent cells_drop)) ≡ outcome (move_accepted 0 1 8) (masks_with 3 7 1) (lent cells_a))
    × (undone-A 3 1 2 2 0 (tables (masks_with 3 3 5) (lent cells_transfer)) ≡ outcome (move_accepted 3 1 11) (masks_with 3 7 1) (lent cells_a))
    × (undone-A 4 2 0 0 2 (tables (masks_with 3 7 4) (lent cells_swap)) ≡ outcome (move_accepted 3 1 11) (masks_with 3 7 1) (lent cells_a))
    × (undone-A 1 2 1 2 0 tables_a ≡ refused-A 14)
    × (undone-A 5 0 0 0 0 tables_a ≡ refused-A 14)
    × (undone-A 1 2 0 2 0 tables_a ≡ refused-A 15)
    × (undone-A 4 2 0 0 2 tables_a ≡ refused-A 15)
    × (undoes (sound plan_a) (move 5 0 0 0 0) tables_a 2 0 ≡ refused-A 19)
    × (undoes (sound plan_a) (move 1 2 0 2 0) (tables (masks_with 3 7 5) (lent cells_add)) 1 1 ≡ outcome (move_accepted 3 1 8) (masks_with 3 7 1) (lent cells_a))
    × (undoes (sound plan_a) (move 1 2 0 2 0) tables_a 2 3 ≡ refused-A 12)
    × (undoes (sound plan_a) (move 5 0 0 0 0) (tables (masks_with 8 7 1) (lent cells_a)) 2 0 ≡ outcome (move_refused 13) (masks_with 8 7 1) (lent cells_a))
unfolding computing
known-undos = (refl, refl, refl, refl, refl, refl, refl, refl, refl, refl, refl, refl)

abbrev pairs : List Pair → List Pair
pairs qs = qs

abbrev pairs-A : Move → List Pair
pairs-A m = move_pairs plan_a (in_masks (3 ∷ 7 ∷ 1 ∷ [])) m

-- "one for add and drop, two for the others"
pub known-pairs-changed : (pairs-A (move 1 2 0 5 0) ≡ pairs ((2, 5) ∷ []))
    × (pairs-A (move 2 2 0 5 0) ≡ pairs ((2, 5) ∷ []))
    × (pairs-A (move 3 2 1 5 0) ≡ pairs ((2, 5) ∷ (1, 5) ∷ []))
    × (pairs-A (move 4 2 0 5 6) ≡ pairs ((2, 5) ∷ (2, 6) ∷ []))
unfolding computing
known-pairs-changed = (refl, refl, refl, refl)

-- whether a sum of kinds has add, drop, transfer and swap
abbrev has : ℕ → Bool × Bool × Bool × Bool
has kinds = (of_kinds kinds (move 1 0 0 0 0), of_kinds kinds (move 2 0 0 0 0), of_kinds kinds (move 3 0 0 0 0), of_kinds kinds (move 4 0 0 0 0))

pub known-kinds : (has 1 ≡ (true, false, false, false))
    × (has 2 ≡ (false, true, false, false))
    × (has 4 ≡ (false, false, true, false))
    × (has 8 ≡ (false, false, false, true))
    × (has 15 ≡ (true, true, true, true))
    × (of_kinds 15 (move 0 0 0 0 0) ≡ false)
    × (of_kinds 15 (move 5 0 0 0 0) ≡ false)
    × (kinds_known 0 ≡ false)
    × (kinds_known 1 ≡ true)
    × (kinds_known 15 ≡ true)
    × (kinds_known 16 ≡ false)
unfolding computing
known-kinds = (refl, refl, refl, refl, refl, refl, refl, refl, refl, refl, refl)

-- the table of plan A, and 99 for a byte past it
abbrev pub bytes_a : List ℕ
bytes_a = encoding plan_a ++ 99 ∷ []

rules-A : plan_rule plan_a ≡ true
unfolding computing
rules-A = refl

pub decode-A : decode bytes_a ≡ sound plan_a
decode-A = decode-complete bytes_a plan_a record { rest = 99 ∷ []; is = refl; rules = rules-A }

-- "Plan A prints `penalty 1 cells 34`". The cells held other numbers before.
abbrev unloaded : State
unloaded = tables (masks_with 3 7 1) (lent (replicate 34 4294967295))

pub known-load : loads (decode bytes_a) unloaded ≡ (record { number = 0; root = 1; cells = 34 }, tables (masks_with 3 7 1) (lent cells_a))
unfolding computing
known-load = ap (λ (d : Decoded). loads d unloaded) decode-A

abbrev state : List ℕ → List ℕ → State
state masks own = tables masks (lent own)

-- Scratch that is long enough and holds anything, and scratch that is too short.
abbrev scratch : List ℕ
scratch = replicate 34 4294967295

abbrev short : List ℕ
short = replicate 33 0

abbrev state_a : State
state_a = state (masks_with 3 7 1) cells_a

abbrev state_drop : State
state_drop = state (masks_with 3 5 1) cells_drop

-- The tables with a journal of two records of which so many are moves that were made; what the others hold is any.
abbrev foreign : Move
foreign = move 9 9 9 9 9

abbrev with-records : State → Move → Move → ℕ → Journaled
with-records s m n count = record { tables = s; journal = record { records = m ∷ n ∷ []; count = count } }

abbrev begun_a : Journaled
begun_a = begun state_a (foreign ∷ foreign ∷ [])

-- A list from the tables as the load leaves them: B's drop (1 before, 0 after, 8 changed), an add that is refused, and "no better
-- move" of any kind.
abbrev pub known_calls : List Asked
known_calls = ask_move (move 2 1 0 1 0) ∷ ask_move (move 1 0 0 0 0) ∷ ask_improve 15 scratch ∷ []

abbrev pub known_exchanges : List Exchange
known_exchanges = move_call (move 2 1 0 1 0) (move_accepted 1 0 8) ∷ move_call (move 1 0 0 0 0) (move_refused 15) ∷ improve_call 15 scratch (no_better 0) ∷ []

pub known-run : run (decode bytes_a) begun_a known_calls ≡ (known_exchanges, with-records state_drop (move 2 1 0 1 0) foreign 1)
unfolding computing
known-run = ap (λ (d : Decoded). run d begun_a known_calls) decode-A

-- Two moves of all kinds leave the root 0: 1 dropped from S, and 1 dropped from T. Improve makes the first of them, whatever stands in
-- scratch; then no move is better, but the adds that leave the least root are listed, "even if that root isn't lower than now".
abbrev two_best : List Move
two_best = move 2 0 0 1 0 ∷ move 2 1 0 1 0 ∷ []

abbrev two_adds : List Move
two_adds = move 1 0 0 1 0 ∷ move 1 0 0 2 0 ∷ []

abbrev state_first : State
state_first = (moves (sound plan_a) (move 2 0 0 1 0) state_a 2 0).1

pub known-run-best : run (sound plan_a) begun_a
    (ask_improve 15 short ∷ ask_improve 0 scratch
    ∷ ask_best 15 short 2 ∷ ask_best 16 scratch 2 ∷ ask_best 15 scratch 1 ∷ ask_best 15 scratch 2 ∷ ask_best 15 scratch 5
    ∷ ask_improve 15 scratch ∷ ask_improve 15 scratch ∷ ask_best 1 scratch 2 ∷ [])
    ≡ (
      improve_call 15 short (improve_refused 12) ∷ improve_call 0 scratch (improve_refused 14)
          ∷ best_call 15 short 2 (list_refused 12) ∷ best_call 16 scratch 2 (list_refused 14) ∷ best_call 15 scratch 1 (list_refused 16)
          ∷ best_call 15 scratch 2 (count_accepted 2, two_best) ∷ best_call 15 scratch 5 (count_accepted 2, two_best)
          ∷ improve_call 15 scratch (improve_made (move 2 0 0 1 0) (move_accepted 1 0 8)) ∷ improve_call 15 scratch (no_better 0)
          ∷ best_call 1 scratch 2 (count_accepted 2, two_adds) ∷ [],
      with-records state_first (move 2 0 0 1 0) foreign 1,
    )
unfolding computing
known-run-best = refl

-- Trials answer what the moves would, and leave the tables.
pub known-run-trial : run (sound plan_a) begun_a (ask_trial (move 2 1 0 1 0) scratch ∷ ask_trial (move 2 1 0 1 0) short ∷ ask_trial (move 1 0 0 0 0) scratch ∷ [])
    ≡ (
      trial_call (move 2 1 0 1 0) scratch (move_accepted 1 0 8) ∷ trial_call (move 2 1 0 1 0) short (move_refused 12)
          ∷ trial_call (move 1 0 0 0 0) scratch (move_refused 15) ∷ [],
      begun_a,
    )
unfolding computing
known-run-trial = refl

-- A move and its undo, a transfer after another move and both undos, and one undo too many: the tables as they were, and the freed places
-- unwritten.
pub known-run-undo : run (sound plan_a) begun_a
    (ask_move (move 2 1 0 1 0) ∷ ask_undo ∷ ask_move (move 1 2 0 2 0) ∷ ask_move (move 3 2 0 2 0) ∷ ask_undo ∷ ask_undo ∷ ask_undo ∷ [])
    ≡ (
      move_call (move 2 1 0 1 0) (move_accepted 1 0 8) ∷ undo_call (move_accepted 0 1 8)
          ∷ move_call (move 1 2 0 2 0) (move_accepted 1 3 8) ∷ move_call (move 3 2 0 2 0) (move_accepted 3 2 10) ∷ undo_call (move_accepted 2 3 10)
          ∷ undo_call (move_accepted 3 1 8) ∷ undo_call (move_refused 19) ∷ [],
      with-records state_a (move 1 2 0 2 0) (move 3 2 0 2 0) 0,
    )
unfolding computing
known-run-undo = refl

-- I has ports 0 and 2, one too many; with port 2 in test it has one that counts. The undo takes the add back and leaves the port in test;
-- out of test it is in no set whose size is asked. Each of the two again meets 20, and a port that the plan lacks 14.
pub known-run-test : run (sound plan_a) begun_a
    (ask_move (move 1 2 0 2 0) ∷ ask_test true 2 ∷ ask_test true 2 ∷ ask_undo ∷ ask_test false 2 ∷ ask_test false 2 ∷ ask_test true 3 ∷ [])
    ≡ (
      move_call (move 1 2 0 2 0) (move_accepted 1 3 8) ∷ test_call true 2 (move_accepted 3 2 3) ∷ test_call true 2 (move_refused 20)
          ∷ undo_call (move_accepted 2 1 7) ∷ test_call false 2 (move_accepted 1 1 0) ∷ test_call false 2 (move_refused 20)
          ∷ test_call true 3 (move_refused 14) ∷ [],
      with-records state_a (move 1 2 0 2 0) foreign 0,
    )
unfolding computing
known-run-test = refl

-- A journal of one record is full after B's drop: a legal move then meets 18, one that is not legal 15, and an improve that finds no
-- better move none. After the undo improve makes a move; one of no room meets 18 where it would make one.
abbrev one_record : State → Move → ℕ → Journaled
one_record s m count = record { tables = s; journal = record { records = m ∷ []; count = count } }

pub known-run-full : run (sound plan_a) (begun state_a (foreign ∷ []))
    (ask_move (move 2 1 0 1 0) ∷ ask_move (move 1 2 0 2 0) ∷ ask_move (move 1 0 0 0 0) ∷ ask_improve 15 scratch ∷ ask_undo ∷ ask_improve 15 scratch ∷ [])
    ≡ (
      move_call (move 2 1 0 1 0) (move_accepted 1 0 8) ∷ move_call (move 1 2 0 2 0) (move_refused 18) ∷ move_call (move 1 0 0 0 0) (move_refused 15)
          ∷ improve_call 15 scratch (no_better 0) ∷ undo_call (move_accepted 0 1 8)
          ∷ improve_call 15 scratch (improve_made (move 2 0 0 1 0) (move_accepted 1 0 8)) ∷ [],
      one_record state_first (move 2 0 0 1 0) 1,
    )
unfolding computing
known-run-full = refl

pub known-run-none : run (sound plan_a) (begun state_a []) (ask_improve 15 scratch ∷ ask_move (move 2 1 0 1 0) ∷ ask_undo ∷ [])
    ≡ (improve_call 15 scratch (improve_refused 18) ∷ move_call (move 2 1 0 1 0) (move_refused 18) ∷ undo_call (move_refused 19) ∷ [], begun state_a [])
unfolding computing
known-run-none = refl

-- No legal move: one set of one port, the port in it, and adds asked for.
pub known-none : best_moves (record { ports = 1; sets = 1; formula = none }) 1 (tables (1 ∷ []) []) ≡ []
unfolding computing
known-none = refl

-- Demand 3's theorem at the first list: what it promises of a list that there is.
pub known-list-right : AllRight plan_a (first_book plan_a begun_a) known_exchanges
    × AsBook plan_a (book_after plan_a (first_book plan_a begun_a) known_exchanges) (255 ∷ []) (77 ∷ []) (with-records state_drop (move 2 1 0 1 0) foreign 1)
unfolding own_masks own_cells cell_count child_depth plan_a plan over literal
known-list-right =
    let records : List Move = foreign ∷ foreign ∷ [] in
    subst (λ (r : List Exchange × Journaled). AllRight plan_a (first_book plan_a begun_a) r.0
    × AsBook plan_a (book_after plan_a (first_book plan_a begun_a) r.0) (255 ∷ []) (77 ∷ []) r.1) known-run
    (subst (λ (s : State). (let x = begun s records in
    AllRight plan_a (first_book plan_a x) (run (decode bytes_a) x known_calls).0
    × AsBook plan_a (book_after plan_a (first_book plan_a x) (run (decode bytes_a) x known_calls).0) (255 ∷ []) (77 ∷ []) (run (decode bytes_a) x known_calls).1))
    (ap (λ (x : LoadValues × State). x.1) known-load)
    (lists-right bytes_a unloaded (ap (λ (x : LoadValues × State). x.0.number) known-load) plan_a decode-A records known_calls))
