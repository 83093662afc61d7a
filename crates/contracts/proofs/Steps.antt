-- One call keeps what is kept: for every call, the answer that the calls' definitions give is right under the book's sets, and masks,
-- cells and journal are the book's afterwards. Assumes nothing.
use mathlib.Core.Path.{◌≡◌, refl, sym, ap, ◌∙◌, subst}
use mathlib.Core.Bool.{Bool, true, false, cond, not, ◌&&◌, ◌||◌, beq}
use mathlib.Core.Logic.{◌≢◌, inl, inr}
use mathlib.Core.List.Memᴰ
use mathlib.Core.List.{List, [], ◌∷◌, ◌++◌, Memᴰ}
use Prim.Native.Nat.{ℕ, zero, suc, ◌≤◌, ◌<◌}
use native.Mathlib.Omega.{arith}
use lib.Dec.{eqb, ltb}
use lib.ListN.{length, get_or, take, drop, length-append}
use lib.Seq.{take_at, drop_at, length-take-le}
use borrow.Author.Tests.{ne_eqb, eqb-false, not-false, ltb-true, ltb-false}
use Rattle.logic.specs.declared.Move.{Move}
use Rattle.logic.specs.Formula.{Plan}
use Rattle.logic.specs.Configuration.{Sets, Configuration, configuration, in_masks, own_masks, spelled, all_within}
use Rattle.logic.specs.Cells.{own_cells, cells as planCells, root_penalty}
use Rattle.logic.specs.Moves.{Ground, refusal, move_grounds, known, legal, move_masks, move_pairs, kinds_known}
use Rattle.logic.specs.Change.{some_of, pairs_change, new_cells, differing}
use Rattle.logic.specs.InTest.{test_grounds, test_masks, test_flip, test_change}
use Rattle.logic.proofs.Lists.{and_at}
use Rattle.logic.proofs.InTest.{test-masks, test-spells, test-true}
use Rattle.logic.proofs.Moves.{move-masks, move-spells}
use Rattle.logic.proofs.Tables.{stands_self}
use Rattle.logic.proofs.Theorems.{move-true, length-cells}
use Rattle.table_format.specs.Decode.{sound, decode}
use Rattle.table_format.specs.inner.Facts.{PlanFacts}
use Rattle.table_format.proofs.Encoding.{decode-sound}
use Rattle.table_format.proofs.Facts.{plan-facts}
use Rattle.contracts.specs.State.{State, tables, own_tables, with_rest}
use Rattle.contracts.specs.Journal.{Journal, Journaled, most_records, full, room_of, newest, appended, removed, opposite, journal_after, journal_taken}
use Rattle.contracts.specs.Call.{call_grounds, journal_grounds, call_or, call}
use Rattle.contracts.specs.MoveCall.{MoveValues, move_refused, move_accepted, made_grounds, move_call_grounds, cells_after, move_answer, tables_after, moves_own, moves, move_made, moves_journaled}
use Rattle.contracts.specs.TrialCall.{trials_own, trial_grounds, trials}
use Rattle.contracts.specs.Least.{NoneBelow}
use Rattle.contracts.specs.MoveOrder.{candidates, Candidate}
use Rattle.contracts.specs.ImproveCall.{ImproveValues, improve_refused, improve_made, no_better, root_now, root_after, best_moves, first_lowers, would_make, chosen_grounds, improve_grounds, improves_by, improves_own, improves, improve_makes, improves_journaled}
use Rattle.contracts.specs.UndoCall.{taken_grounds, undo_grounds, undoes, undoes_journaled}
use Rattle.contracts.specs.TestCall.{test_call_grounds, tested_cells, tested_tables, tests_own, tests, tests_journaled}
use Rattle.contracts.specs.Counting.{count_accepted}
use Rattle.contracts.specs.BestCall.{list_refused, best_grounds, lists_own, lists}
use Rattle.contracts.specs.Book.{Book, fed_move, fed_undo, fed_test, book_made, moved_book, undone_book, tested_book, chosen_step, book_grounds, book_taken, book_step}
use Rattle.contracts.specs.Lists.{Asked, ask_move, ask_trial, ask_improve, ask_best, ask_undo, ask_test, step, feed, book_root, book_cells, NumbersRight, ChangedRight, MovedRight, TestedRight, scratch_ground, book_best, book_lowers, FirstOf, ImprovedRight, ListedRight, Right, AsBook}
use Rattle.contracts.proofs.Candidates.{candidate-in, in-candidate}
use Rattle.contracts.proofs.Best.{best-is, best_none, best-same}
use Rattle.contracts.proofs.Calls.{LentEnough, tables-pass, count-within}
use Rattle.contracts.proofs.Grounds.{passes, grounds-legal}
use Rattle.contracts.proofs.Journals.{JournalHolds, never-past, same-newest, appended-holds, removed-holds}
use Rattle.contracts.proofs.Within.{move-within, move-length, test-within, test-length}
use Rattle.logic.proofs.Changed as changed

-- the three numbers of a move that is made
abbrev MoveNumbers : Plan → Sets → Move → ℕ → ℕ → ℕ → Type 0
MoveNumbers P k m before after changed = NumbersRight P k (book_made P m k) (pairs_change (move_pairs P k m)) before after changed

-- the tables of the sets that own masks spell
abbrev book_tables : Plan → List ℕ → State
book_tables P own = tables own (book_cells P (in_masks own))

-- The plan's own masks and cells are those of the book's sets: the masks spell them and have no other port, the cells are the penalties.
pub record OwnKept (P : Plan) (k : Sets) (own : State) : Type 0 where
  pub spells : in_masks own.masks ≡ k
  pub enough : length own.masks ≡ own_masks P
  pub within : all_within P.ports own.masks ≡ true
  pub penalties : own.cells ≡ book_cells P k

-- the sets after an improve that answers so
abbrev chosen_sets : Plan → Sets → ImproveValues → Sets
chosen_sets P k answer = cond (improve_makes answer) (book_made P answer.chosen k) k

-- scratch is no ground: the others are none
pub after-scratch : (P : Plan) (scratch : List ℕ) (gs : List Ground) → refusal (scratch_ground P scratch ∷ gs) ≡ 0 → refusal gs ≡ 0
unfolding scratch_ground refusal
after-scratch P scratch gs h = (passes (scratch_ground P scratch).1 11 (refusal gs) h).1

or_nothing : (b : Bool) → (b || false) ≡ b
or_nothing true = refl
or_nothing false = refl

-- A move that no ground stops is legal, and its journal is not full.
pub made-free : (P : Plan) (k : Sets) (room count : ℕ) (m : Move) → refusal (made_grounds P k room count m) ≡ 0
    → (legal P k m ≡ true) × (full room count ≡ false)
unfolding refusal made_grounds move_grounds
made-free P k room count m h =
    let r = passes (not (known P m)) 13 _ h in
    let l = passes (not (legal P k m)) 14 _ r.1 in
    (not-false _ l.0, (passes (full room count) 17 0 l.1).0)

-- An undo that no ground stops has a record, of which the opposite is legal.
pub taken_free : (P : Plan) (k : Sets) (count : ℕ) (m : Move) → refusal (taken_grounds P k count m) ≡ 0 → (count ≢ 0) × (legal P k (opposite m) ≡ true)
unfolding refusal taken_grounds
taken_free P k count m h =
    let e = passes (eqb count 0) 18 _ h in
    let r = passes (not (known P m)) 13 _ e.1 in
    (eqb-false count 0 e.0, not-false _ (passes (not (legal P k (opposite m))) 14 0 r.1).0)

-- Of an empty journal the grounds of undo do not look at the newest record.
taken-same : (P : Plan) (k : Sets) (count : ℕ) (m n : Move) → (count ≢ 0 → m ≡ n) → refusal (taken_grounds P k count m) ≡ refusal (taken_grounds P k count n)
unfolding refusal taken_grounds
taken-same P k zero m n e = refl
taken-same P k (suc count) m n e = ap (λ (x : Move). refusal (taken_grounds P k (suc count) x)) (e (λ z. omega arith))

-- A port that no ground stops is the plan's, and not in the condition that it is put in.
pub test-free : (P : Plan) (k : Sets) (into : Bool) (p : ℕ) → refusal (test_grounds P k into p) ≡ 0 → (p < P.ports) × (beq (k P.sets p) into ≡ false)
unfolding refusal test_grounds
test-free P k into p h =
    let r = passes (not (ltb p P.ports)) 13 _ h in
    (ltb-true p P.ports (not-false _ r.0), (passes (beq (k P.sets p) into) 19 0 r.1).0)

-- An improve that no ground stops makes a move only where there is room for its record.
pub chosen-free : (kinds : ℕ) (lowers : Bool) (room count : ℕ) → refusal (chosen_grounds kinds lowers room count) ≡ 0 → (lowers && full room count) ≡ false
unfolding chosen_grounds refusal
chosen-free kinds lowers room count h = (passes (lowers && full room count) 17 0 (passes (not (kinds_known kinds)) 13 _ h).1).0

-- where scratch is lent too, 12 applies if it is too short
pub scratch-passes : (P : Plan) (s : State) (scratch : List ℕ) (more : Plan → Sets → List Ground) → LentEnough P s
    → refusal (call_grounds (sound P) s (length scratch ∷ []) more) ≡ refusal (scratch_ground P scratch ∷ more P (in_masks (take (own_masks P) s.masks)))
unfolding scratch_ground some_of
scratch-passes P s scratch more l =
    tables-pass P s (length scratch ∷ []) more l
    ∙ ap (λ (t : Bool). refusal ((12, t) ∷ more P (in_masks (take (own_masks P) s.masks)))) (or_nothing (ltb (length scratch) (own_cells P)))

module _ (P : Plan) (facts : PlanFacts P) where
  -- A legal move leaves the penalties of the sets with its pairs flipped.
  pub made_cells : (m : Move) (own : List ℕ) → legal P (in_masks own) m ≡ true → own_masks P ≤ length own
      → cells_after P m own (book_cells P (in_masks own)) ≡ book_cells P (book_made P m (in_masks own))
  unfolding cells_after book_cells book_made spelled
  made_cells m own h l =
      move-true P facts.ports1 facts.ports64 facts.constants facts.sets_below facts.cells-most m own h l
      ∙ ap (planCells P) (move-spells P m own h l)

  pub root-made : (m : Move) (own : List ℕ) → legal P (in_masks own) m ≡ true → own_masks P ≤ length own
      → root_after P m own (book_cells P (in_masks own)) ≡ book_root P (book_made P m (in_masks own))
  unfolding root_after book_root root_penalty book_cells
  root-made m own h l = ap (λ (c : List ℕ). get_or c 0 0) (made_cells m own h l)

  -- its three numbers
  pub made-numbers : (m : Move) (own : List ℕ) → legal P (in_masks own) m ≡ true → own_masks P ≤ length own
      → (let b = book_cells P (in_masks own) in
      MoveNumbers P (in_masks own) m (root_now b) (root_after P m own b) (differing b (cells_after P m own b)))
  unfolding root_now book_root book_cells root_penalty cells_after
  made-numbers m own h l =
      let b = book_cells P (in_masks own) in
      record {
        before-right = refl;
        after-right = root-made m own h l;
        changed-right = ap (differing b) (made_cells m own h l);
        changed-touched =
            changed.changed-touched P facts.ports1 (spelled P (move_masks P m own)) (pairs_change (move_pairs P (in_masks own) m)) b (length-cells P _);
      }

  made_kept : (m : Move) (own : List ℕ) → legal P (in_masks own) m ≡ true → length own ≡ own_masks P → all_within P.ports own ≡ true
      → OwnKept P (book_made P m (in_masks own)) (tables_after P m (book_tables P own))
  unfolding book_made tables_after
  made_kept m own h l w = record {
    spells = move-masks P m own h (omega arith);
    enough = move-length P m own ∙ l;
    within = move-within P m own h (omega arith) w;
    penalties = made_cells m own h (omega arith);
  }

  -- what holds where the masks themselves spell the sets holds of the book's
  of-book : (k : Sets) (own : State) (C : Sets → State → Type 0) → OwnKept P k own → C (in_masks own.masks) (book_tables P own.masks) → C k own
  of-book k own C o c =
      let f : book_tables P own.masks ≡ own = λ i. tables own.masks ((ap (book_cells P) o.spells ∙ sym o.penalties) i) in
      subst (λ (j : Sets). C j own) o.spells (subst (C (in_masks own.masks)) f c)

  -- An accepted move or trial: its three numbers, and what the move leaves, over the plan's own parts.
  pub move-own : (m : Move) (k : Sets) (own : State) → OwnKept P k own → legal P k m ≡ true
      → MoveNumbers P k m (root_now own.cells) (root_after P m own.masks own.cells) (differing own.cells (cells_after P m own.masks own.cells))
      × OwnKept P (book_made P m k) (tables_after P m own)
  move-own m k own o =
      of-book k own
      (λ j s. legal P j m ≡ true
      → MoveNumbers P j m (root_now s.cells) (root_after P m s.masks s.cells) (differing s.cells (cells_after P m s.masks s.cells))
      × OwnKept P (book_made P m j) (tables_after P m s))
      o (λ h. (made-numbers m own.masks h (omega (arith, o.enough)), made_kept m own.masks h o.enough o.within))

  -- A port that goes into test or out of it leaves the penalties of the sets with it flipped.
  tested-cells : (into : Bool) (p : ℕ) (own : List ℕ) → beq (in_masks own P.sets p) into ≡ false → own_masks P ≤ length own
      → tested_cells P into p own (book_cells P (in_masks own)) ≡ book_cells P (test_flip P p (in_masks own))
  unfolding tested_cells book_cells
  tested-cells into p own h l =
      ap (λ (k : Configuration). new_cells P k (test_change P (in_masks own) p) (book_cells P (in_masks own))) (test-spells P into p own h l)
      ∙ test-true P facts.ports1 facts.ports64 facts.constants facts.sets_below facts.cells-most (in_masks own) p (book_cells P (in_masks own)) (stands_self _)

  tested-numbers : (into : Bool) (p : ℕ) (own : List ℕ) → beq (in_masks own P.sets p) into ≡ false → own_masks P ≤ length own
      → (let b = book_cells P (in_masks own) in
      let a = tested_cells P into p own b in
      NumbersRight P (in_masks own) (test_flip P p (in_masks own)) (test_change P (in_masks own) p) (get_or b 0 0) (get_or a 0 0) (differing b a))
  unfolding book_root book_cells root_penalty tested_cells
  tested-numbers into p own h l =
      let b = book_cells P (in_masks own) in
      record {
        before-right = refl;
        after-right = ap (λ (c : List ℕ). get_or c 0 0) (tested-cells into p own h l);
        changed-right = ap (differing b) (tested-cells into p own h l);
        changed-touched =
            changed.changed-touched P facts.ports1 (spelled P (test_masks P into p own)) (test_change P (in_masks own) p) b (length-cells P _);
      }

  tested-kept : (into : Bool) (p : ℕ) (own : List ℕ) → p < P.ports → beq (in_masks own P.sets p) into ≡ false → length own ≡ own_masks P
      → all_within P.ports own ≡ true → OwnKept P (test_flip P p (in_masks own)) (tested_tables P into p (book_tables P own))
  unfolding tested_tables
  tested-kept into p own u h l w = record {
    spells = test-masks P into p own h (omega arith);
    enough = test-length P into p own ∙ l;
    within = test-within P into p own u h (omega arith) w;
    penalties = tested-cells into p own h (omega arith);
  }

  -- An accepted call: its three numbers, and what it leaves, over the plan's own parts.
  test-own : (into : Bool) (p : ℕ) (k : Sets) (own : State) → OwnKept P k own → p < P.ports → beq (k P.sets p) into ≡ false
      → ChangedRight 0 P k (test_flip P p k) (test_change P k p) (tests_own into p P own).0 × OwnKept P (test_flip P p k) (tests_own into p P own).1
  unfolding ChangedRight tests_own move_accepted
  test-own into p k own o u =
      of-book k own
      (λ j s. beq (j P.sets p) into ≡ false
      → ChangedRight 0 P j (test_flip P p j) (test_change P j p) (tests_own into p P s).0 × OwnKept P (test_flip P p j) (tests_own into p P s).1)
      o (λ h. ((refl, tested-numbers into p own.masks h (omega (arith, o.enough))), tested-kept into p own.masks u h o.enough o.within))

  -- The best moves over tables that hold the book's penalties are those of the book.
  best-book : (kinds : ℕ) (own : List ℕ) → length own ≡ own_masks P → best_moves P kinds (book_tables P own) ≡ book_best P (in_masks own) kinds
  unfolding best_moves book_best
  best-book kinds own l =
      best-same _ _ (candidates P kinds (in_masks own))
      (λ m d. root-made m own (in-candidate P kinds (in_masks own) m d).is-legal (omega arith))

  -- an accepted improve, by the best moves of the book
  module _ (kinds : ℕ) (own : List ℕ) (l : length own ≡ own_masks P) (w : all_within P.ports own ≡ true) where
    abbrev k : Sets
    k = in_masks own

    abbrev old : State
    old = book_tables P own

    abbrev ImproveHolds : ImproveValues × State → Type 0
    ImproveHolds r = ImprovedRight 0 P k kinds r.0 × OwnKept P (chosen_sets P k r.0) r.1

    stays : NoneBelow (Candidate P kinds k) (λ x. book_root P (book_made P x k)) (book_root P k) → ImproveHolds (no_better (root_now old.cells), old)
    unfolding ImprovedRight improve_makes no_better root_now book_root root_penalty book_cells
    stays h = (inr (record { none = h; values-right = refl }), record { spells = refl; enough = l; within = w; penalties = refl })

    module _ (m : Move) (ms : List Move) (e : book_best P k kinds ≡ m ∷ ms) where
      first : Memᴰ m (candidates P kinds k) × ((n : Move) → Memᴰ n (candidates P kinds k) → book_root P (book_made P m k) ≤ book_root P (book_made P n k))
      unfolding book_best
      first = best-is (λ x. book_root P (book_made P x k)) (candidates P kinds k) m (subst (Memᴰ m) (sym e) (Memᴰ.head refl))

      one : Candidate P kinds k m
      one = in-candidate P kinds k m first.0

      least : NoneBelow (Candidate P kinds k) (λ x. book_root P (book_made P x k)) (book_root P (book_made P m k))
      least n c = first.1 n (candidate-in P kinds k n c)

      by_first : (b : Bool) → ltb (root_after P m own old.cells) (root_now old.cells) ≡ b
          → ImproveHolds (cond b (improve_made m (moves_own m P old).0, (moves_own m P old).1) (no_better (root_now old.cells), old))
      unfolding ImprovedRight improve_makes improve_made moves_own move_answer move_accepted root_now root_after FirstOf
      by_first true q =
          let n = made-numbers m own one.is-legal (omega arith) in (
            inl record {
              accepted = refl;
              found = refl;
              candidate = one;
              lowers = let h = ltb-true (root_after P m own old.cells) (root_now old.cells) q in omega (arith, h, n.after-right, n.before-right);
              least = least;
              first = subst (λ (ks : List Move). FirstOf ks m) (sym e) refl;
              numbers = n;
            },
            made_kept m own one.is-legal l w,
          )
      by_first false q = stays (λ n c.
          let h = ltb-false (root_after P m own old.cells) (root_now old.cells) q in
          let r = made-numbers m own one.is-legal (omega arith) in
          omega (arith, h, least n c, r.after-right, r.before-right))

    by-best : (ms : List Move) → book_best P k kinds ≡ ms → ImproveHolds (improves_by ms P old)
    unfolding improves_by book_best
    by-best [] e =
        stays (λ n c. absurd (Memᴰ.not-nil
        (subst (Memᴰ n) (best_none (λ x. book_root P (book_made P x k)) (candidates P kinds k) e) (candidate-in P kinds k n c))))
    by-best (m ∷ ms) e = by_first m ms e (ltb (root_after P m own old.cells) (root_now old.cells)) refl

    -- whether the first of the best lowers the root
    lowers-by : (ms : List Move) → book_best P k kinds ≡ ms
        → first_lowers (λ m. root_after P m own old.cells) (book_root P k) ms ≡ first_lowers (λ m. book_root P (book_made P m k)) (book_root P k) ms
    unfolding first_lowers
    lowers-by [] e = refl
    lowers-by (m ∷ ms) e = ap (λ (root : ℕ). ltb root (book_root P k)) (root-made m own (one m ms e).is-legal (omega arith))

    lowers_at : would_make P kinds old ≡ book_lowers P k kinds
    unfolding would_make book_lowers root_now book_root root_penalty book_cells
    lowers_at =
        ap (first_lowers (λ m. root_after P m own old.cells) (book_root P k)) (best-book kinds own l) ∙ lowers-by (book_best P k kinds) refl

    improve-at : ImproveHolds (improves_own kinds P old)
    unfolding improves_own
    improve-at = subst (λ (ms : List Move). ImproveHolds (improves_by ms P old)) (sym (best-book kinds own l)) (by-best (book_best P k kinds) refl)

  -- An accepted improve, over the plan's own parts.
  pub improve-own : (kinds : ℕ) (k : Sets) (own : State) → OwnKept P k own
      → ImprovedRight 0 P k kinds (improves_own kinds P own).0 × OwnKept P (chosen_sets P k (improves_own kinds P own).0) (improves_own kinds P own).1
  improve-own kinds k own o =
      of-book k own
      (λ j s. ImprovedRight 0 P j kinds (improves_own kinds P s).0 × OwnKept P (chosen_sets P j (improves_own kinds P s).0) (improves_own kinds P s).1)
      o (improve-at kinds own.masks o.enough o.within)

  -- The best moves, over the plan's own parts.
  pub best-own : (kinds : ℕ) (k : Sets) (own : State) → OwnKept P k own → best_moves P kinds own ≡ book_best P k kinds
  best-own kinds k own o = of-book k own (λ j s. best_moves P kinds s ≡ book_best P j kinds) o (best-book kinds own.masks o.enough)

  -- Whether improve would make a move, over the plan's own parts.
  pub lowers-own : (kinds : ℕ) (k : Sets) (own : State) → OwnKept P k own → would_make P kinds own ≡ book_lowers P k kinds
  lowers-own kinds k own o = of-book k own (λ j s. would_make P kinds s ≡ book_lowers P j kinds) o (lowers_at kinds own.masks o.enough o.within)

-- An accepted improve makes a move exactly where it would.
makes_one : (b : Bool) (m : Move) (v : MoveValues) (root : ℕ) (s s' : State) → improve_makes (cond {A = ImproveValues × State} b (improve_made m v, s) (no_better root, s')).0 ≡ b
unfolding improve_makes improve_made no_better
makes_one true m v root s s' = refl
makes_one false m v root s s' = refl

makes-by : (P : Plan) (own : State) (ms : List Move)
    → improve_makes (improves_by ms P own).0 ≡ first_lowers (λ m. root_after P m own.masks own.cells) (root_now own.cells) ms
unfolding improves_by first_lowers improve_makes no_better
makes-by P own [] = refl
makes-by P own (m ∷ ms) =
    makes_one (ltb (root_after P m own.masks own.cells) (root_now own.cells)) m (moves_own m P own).0 (root_now own.cells) (moves_own m P own).1 own

makes-would : (P : Plan) (kinds : ℕ) (own : State) → improve_makes (improves_own kinds P own).0 ≡ would_make P kinds own
unfolding improves_own would_make
makes-would P kinds own = makes-by P own (best_moves P kinds own)

-- What stands before and after each call of a list: masks, cells and journal are the book's, no mask has a port of u or more, and the
-- record count is past neither the journal's length nor 1,024.
pub record StateHolds (P : Plan) (b : Book) (tail-masks tail-cells : List ℕ) (x : Journaled) : Type 0 where
  pub kept : AsBook P b tail-masks tail-cells x
  pub within : all_within P.ports (take (own_masks P) x.tables.masks) ≡ true
  pub enough-cells : own_cells P ≤ length x.tables.cells
  pub in-room : b.journal.count ≤ room_of b.journal
  pub few : b.journal.count ≤ most_records

length-book : (P : Plan) (k : Sets) → length (book_cells P k) ≡ own_cells P
unfolding book_cells
length-book P k = length-cells P (configuration P k)

long-enough : (own rest : List ℕ) (n : ℕ) → length own ≡ n → n ≤ length (own ++ rest)
long-enough own rest n l = rw (length-append own rest) (omega arith)

module _ (P : Plan) (b : Book) (tail-masks tail-cells : List ℕ) (x : Journaled) where
  -- the plan's own parts of tables that hold what they must
  pub holds-own : StateHolds P b tail-masks tail-cells x → OwnKept P b.sets (own_tables P x.tables)
  unfolding own_tables
  holds-own h = record {
    spells = h.kept.masks-are;
    enough = length-take-le (own_masks P) x.tables.masks h.kept.enough-masks;
    within = h.within;
    penalties =
        ap (take (own_cells P)) h.kept.cells_are ∙ take_at (book_cells P b.sets) tail-cells (own_cells P) (length-book P b.sets);
  }

  -- and the rest of the cell table
  holds-rest : StateHolds P b tail-masks tail-cells x → drop (own_cells P) x.tables.cells ≡ tail-cells
  holds-rest h =
      ap (drop (own_cells P)) h.kept.cells_are ∙ drop_at (book_cells P b.sets) tail-cells (own_cells P) (length-book P b.sets)

  -- the plan's own part written anew has the same behind it
  pub rest-is : StateHolds P b tail-masks tail-cells x → (own : State)
      → with_rest P own x.tables ≡ tables (own.masks ++ tail-masks) (own.cells ++ tail-cells)
  unfolding with_rest
  rest-is h own = λ i. tables (own.masks ++ h.kept.masks-tail i) (own.cells ++ holds-rest h i)

  pub own-holds : (own : State) → OwnKept P b.sets own → x.tables ≡ tables (own.masks ++ tail-masks) (own.cells ++ tail-cells)
      → JournalHolds b.journal x.journal → StateHolds P b tail-masks tail-cells x
  own-holds own o e j = record {
    kept = record {
      enough-masks = rw m (long-enough own.masks tail-masks (own_masks P) o.enough);
      masks-are = ap in_masks front ∙ o.spells;
      masks-tail = ap (drop (own_masks P)) m ∙ drop_at own.masks tail-masks (own_masks P) o.enough;
      cells_are = c ∙ ap (λ (l : List ℕ). l ++ tail-cells) o.penalties;
      journal-is = j.same;
    };
    within = rw front o.within;
    enough-cells = rw (c, o.penalties) (long-enough (book_cells P b.sets) tail-cells (own_cells P) (length-book P b.sets));
    in-room = j.in-room;
    few = j.few;
  }
    where
      m : x.tables.masks ≡ own.masks ++ tail-masks
      m = ap (λ (t : State). t.masks) e

      c : x.tables.cells ≡ own.cells ++ tail-cells
      c = ap (λ (t : State). t.cells) e

      front : take (own_masks P) x.tables.masks ≡ own.masks
      front = ap (take (own_masks P)) m ∙ take_at own.masks tail-masks (own_masks P) o.enough

module _ (P : Plan) (facts : PlanFacts P) (b : Book) (tail-masks tail-cells : List ℕ) (x : Journaled) (h : StateHolds P b tail-masks tail-cells x) where
  abbrev s : State
  s = x.tables

  -- the journal as the book and as the caller has it
  abbrev book_journal : Journal
  book_journal = b.journal

  abbrev lent_journal : Journal
  lent_journal = x.journal

  -- the plan's own parts, and what follows of them for the tables and the journal afterwards
  abbrev own : State
  own = own_tables P s

  abbrev Holds : Book → Journaled → Type 0
  Holds b' y = StateHolds P b' tail-masks tail-cells y

  kept : OwnKept P b.sets own
  kept = holds-own P b tail-masks tail-cells x h

  counted : JournalHolds book_journal lent_journal
  counted = record { same = h.kept.journal-is; in-room = h.in-room; few = h.few }

  lent : LentEnough P s
  lent = record { masks-enough = h.kept.enough-masks; cells-enough = h.enough-cells; within = h.within }

  after : (b' : Book) (own' : State) (j' : Journal) → OwnKept P b'.sets own' → JournalHolds b'.journal j'
      → Holds b' (record { tables = with_rest P own' s; journal = j' })
  after b' own' j' o c =
      own-holds P b' tail-masks tail-cells (record { tables = with_rest P own' s; journal = j' }) own' o (rest-is P b tail-masks tail-cells x h own') c

  -- a call that makes a move or not, with its record
  made_holds : (made : Bool) (m : Move) (own' : State) → OwnKept P (cond made (book_made P m b.sets) b.sets) own'
      → (made ≡ true → full (room_of book_journal) book_journal.count ≡ false)
      → Holds (cond made (moved_book P m b) b) (record { tables = with_rest P own' s; journal = journal_after made m lent_journal })
  unfolding moved_book journal_after
  made_holds true m own' o f = after (moved_book P m b) own' (appended m lent_journal) o (appended-holds m book_journal lent_journal counted (f refl))
  made_holds false m own' o f = after b own' lent_journal o counted

  -- 12 of the count never applies
  counted-passes : (lengths : List ℕ) (more : Plan → Sets → List Ground)
      → refusal (journal_grounds (sound P) s (room_of lent_journal) lent_journal.count lengths more) ≡ refusal (call_grounds (sound P) s lengths more)
  counted-passes lengths more =
      count-within (sound P) s (room_of lent_journal) lent_journal.count lengths more (never-past book_journal lent_journal counted)

  -- a move by the first ground that applies to it
  move_at : (m : Move) (g : ℕ) → refusal (book_grounds P b m) ≡ g
      → (let r = call_or move_refused g (sound P) (moves_own m) s in
      MovedRight g P b.sets m r.0
      × Holds (cond (eqb g 0) (moved_book P m b) b) (record { tables = r.1; journal = journal_after (move_made r.0) m lent_journal }))
  unfolding call_or moves_own move_answer move_accepted move_refused move_made ChangedRight root_now root_after book_grounds
  move_at m zero q =
      let f = made-free P b.sets (room_of book_journal) book_journal.count m q in
      let o = move-own P facts m b.sets own kept f.0 in
      ((refl, o.0), made_holds true m (tables_after P m own) o.1 (λ z. f.1))
  move_at m (suc g) q = (refl, unfold journal_after in rw (ne_eqb (suc g) 0 (λ z. omega arith)) h)

  move_step : (m : Move) → (let r = moves_journaled (sound P) m x in
      MovedRight (refusal (book_grounds P b m)) P b.sets m r.0 × Holds (book_step P b (fed_move m)) r.1)
  unfolding moves_journaled moves move_call_grounds call book_step some_of refusal book_grounds
  move_step m =
      let more : Plan → Sets → List Ground = λ Q k. made_grounds Q k (room_of lent_journal) lent_journal.count m in
      let g : refusal (journal_grounds (sound P) s (room_of lent_journal) lent_journal.count [] more) ≡ refusal (book_grounds P b m) =
      counted-passes [] more ∙ tables-pass P s [] more lent
      ∙ (λ i. refusal (made_grounds P (h.kept.masks-are i) (counted.same.same-room i) (counted.same.same_count i) m)) in
      subst (λ (i : ℕ). (let r = call_or move_refused i (sound P) (moves_own m) s in
      MovedRight (refusal (book_grounds P b m)) P b.sets m r.0
      × Holds (cond (eqb (refusal (book_grounds P b m)) 0) (moved_book P m b) b) (record { tables = r.1; journal = journal_after (move_made r.0) m lent_journal }))) (sym g)
      (move_at m (refusal (book_grounds P b m)) refl)

  -- an undo by the first ground that applies to it, and by the record that it takes back
  abbrev UndoHolds : ℕ → Move → Type 0
  UndoHolds g m = (let r = call_or move_refused g (sound P) (moves_own (opposite m)) s in
      MovedRight g P b.sets (opposite (newest book_journal)) r.0
      × Holds (cond (eqb g 0) (undone_book P b) b) (record { tables = r.1; journal = journal_taken (move_made r.0) lent_journal }))

  undo-at : (g : ℕ) → refusal (book_taken P b) ≡ g → (m : Move) → (book_journal.count ≢ 0 → m ≡ newest book_journal) → UndoHolds g m
  unfolding call_or moves_own move_answer move_accepted move_refused move_made journal_taken ChangedRight root_now root_after book_taken undone_book
  undo-at zero q m e =
      let f = taken_free P b.sets book_journal.count (newest book_journal) q in
      let o = move-own P facts (opposite (newest book_journal)) b.sets own kept f.1 in
      subst (UndoHolds 0) (sym (e f.0))
      ((refl, o.0), after (undone_book P b) (tables_after P (opposite (newest book_journal)) own) (removed lent_journal) o.1 (removed-holds book_journal lent_journal counted))
  undo-at (suc g) q m e = (refl, rw (ne_eqb (suc g) 0 (λ z. omega arith)) h)

  undo-step : (let r = undoes_journaled (sound P) x in
      MovedRight (refusal (book_taken P b)) P b.sets (opposite (newest book_journal)) r.0 × Holds (book_step P b fed_undo) r.1)
  unfolding undoes_journaled undoes undo_grounds call book_step some_of refusal book_taken
  undo-step =
      let m = newest lent_journal in
      let same : book_journal.count ≢ 0 → m ≡ newest book_journal = same-newest lent_journal book_journal counted.same in
      let more : Plan → Sets → List Ground = λ Q k. taken_grounds Q k lent_journal.count m in
      let g : refusal (journal_grounds (sound P) s (room_of lent_journal) lent_journal.count [] more) ≡ refusal (book_taken P b) =
      counted-passes [] more ∙ tables-pass P s [] more lent
      ∙ (λ i. refusal (taken_grounds P (h.kept.masks-are i) (counted.same.same_count i) m))
      ∙ taken-same P b.sets book_journal.count m (newest book_journal) same in
      subst (λ (i : ℕ). (let r = call_or move_refused i (sound P) (moves_own (opposite m)) s in
      MovedRight (refusal (book_taken P b)) P b.sets (opposite (newest book_journal)) r.0
      × Holds (cond (eqb (refusal (book_taken P b)) 0) (undone_book P b) b) (record { tables = r.1; journal = journal_taken (move_made r.0) lent_journal }))) (sym g)
      (undo-at (refusal (book_taken P b)) refl m same)

  -- a port that goes into test or out of it, by the first ground that applies
  abbrev TestHolds : Bool → ℕ → ℕ → ℕ → Type 0
  TestHolds into p g i = (let r = call_or move_refused i (sound P) (tests_own into p) s in
      TestedRight g P b.sets p r.0
      × Holds (cond (eqb g 0) (tested_book P p b) b) (record { tables = r.1; journal = lent_journal }))

  test_at : (into : Bool) (p : ℕ) (g : ℕ) → refusal (test_grounds P b.sets into p) ≡ g → TestHolds into p g g
  unfolding call_or tested_book ChangedRight
  test_at into p zero q =
      let f = test-free P b.sets into p q in
      let o = test-own P facts into p b.sets own kept f.0 f.1 in
      (o.0, after (tested_book P p b) (tests_own into p P own).1 lent_journal o.1 counted)
  test_at into p (suc g) q = (refl, rw (ne_eqb (suc g) 0 (λ z. omega arith)) h)

  test-step : (into : Bool) (p : ℕ) → (let r = tests_journaled (sound P) into p x in
      TestedRight (refusal (test_grounds P b.sets into p)) P b.sets p r.0 × Holds (book_step P b (fed_test into p)) r.1)
  unfolding tests_journaled tests test_call_grounds call book_step refusal some_of
  test-step into p =
      let g : refusal (call_grounds (sound P) s [] (λ Q k. test_grounds Q k into p)) ≡ refusal (test_grounds P b.sets into p) =
      tables-pass P s [] (λ Q k. test_grounds Q k into p) lent ∙ ap (λ (k : Sets). refusal (test_grounds P k into p)) h.kept.masks-are in
      subst (TestHolds into p (refusal (test_grounds P b.sets into p))) (sym g) (test_at into p (refusal (test_grounds P b.sets into p)) refl)

  trial-at : (m : Move) (g : ℕ) → (g ≡ 0 → legal P b.sets m ≡ true) → MovedRight g P b.sets m (call_or move_refused g (sound P) (trials_own m) s).0
  unfolding call_or trials_own move_answer move_accepted ChangedRight root_now root_after
  trial-at m zero H = (refl, (move-own P facts m b.sets own kept (H refl)).0)
  trial-at m (suc g) H = refl

  trial-step : (m : Move) (scratch : List ℕ)
      → MovedRight (refusal (scratch_ground P scratch ∷ move_grounds P b.sets m)) P b.sets m (trials (sound P) m s (length scratch))
  unfolding trials trial_grounds call scratch_ground
  trial-step m scratch =
      let gs = scratch_ground P scratch ∷ move_grounds P b.sets m in
      let g = scratch-passes P s scratch (λ Q k. move_grounds Q k m) lent
      ∙ ap (λ (k : Sets). refusal (scratch_ground P scratch ∷ move_grounds P k m)) h.kept.masks-are in
      subst (λ (i : ℕ). MovedRight (refusal gs) P b.sets m (call_or move_refused i (sound P) (trials_own m) s).0) (sym g)
      (trial-at m (refusal gs)
      (λ z. grounds-legal P b.sets m (after-scratch P scratch (move_grounds P b.sets m) z)))

  improve-case : (kinds : ℕ) (g : ℕ) → (g ≡ 0 → (book_lowers P b.sets kinds && full (room_of book_journal) book_journal.count) ≡ false)
      → (let r = call_or improve_refused g (sound P) (improves_own kinds) s in
      ImprovedRight g P b.sets kinds r.0
      × Holds (chosen_step P b r.0) (record { tables = r.1; journal = journal_after (improve_makes r.0) r.0.chosen lent_journal }))
  unfolding call_or chosen_step
  improve-case kinds zero H =
      let q = improve-own P facts kinds b.sets own kept in
      let v = (improves_own kinds P own).0 in (
        q.0,
        made_holds (improve_makes v) v.chosen (improves_own kinds P own).1 q.1
            (λ z. and_at (book_lowers P b.sets kinds) _ (H refl) (sym (lowers-own P facts kinds b.sets own kept) ∙ sym (makes-would P kinds own) ∙ z)),
      )
  improve-case kinds (suc g) H = unfold ImprovedRight improve_makes improve_refused journal_after in (refl, h)

  improve-step : (kinds : ℕ) (scratch : List ℕ) → (let r = improves_journaled (sound P) kinds x (length scratch) in
      ImprovedRight (refusal (scratch_ground P scratch ∷ chosen_grounds kinds (book_lowers P b.sets kinds) (room_of book_journal) book_journal.count)) P b.sets kinds r.0
      × Holds (chosen_step P b r.0) r.1)
  unfolding improves_journaled improves improve_grounds call
  improve-step kinds scratch =
      let gs : Bool → ℕ → ℕ → List Ground = λ lowers room count. scratch_ground P scratch ∷ chosen_grounds kinds lowers room count in
      let book = gs (book_lowers P b.sets kinds) (room_of book_journal) book_journal.count in
      let more : Plan → Sets → List Ground = λ Q k. chosen_grounds kinds (would_make Q kinds (own_tables Q s)) (room_of lent_journal) lent_journal.count in
      let g : refusal (journal_grounds (sound P) s (room_of lent_journal) lent_journal.count (length scratch ∷ []) more) ≡ refusal book =
      counted-passes (length scratch ∷ []) more ∙ scratch-passes P s scratch more lent
      ∙ (λ i. refusal (gs (lowers-own P facts kinds b.sets own kept i) (counted.same.same-room i) (counted.same.same_count i))) in
      subst (λ (i : ℕ). (let r = call_or improve_refused i (sound P) (improves_own kinds) s in
      ImprovedRight (refusal book) P b.sets kinds r.0
      × Holds (chosen_step P b r.0) (record { tables = r.1; journal = journal_after (improve_makes r.0) r.0.chosen lent_journal }))) (sym g)
      (improve-case kinds (refusal book) (λ z. chosen-free kinds (book_lowers P b.sets kinds) (room_of book_journal) book_journal.count (after-scratch P scratch _ z)))

  list-case : (kinds : ℕ) (g : ℕ) → ListedRight g P b.sets kinds (call_or list_refused g (sound P) (lists_own kinds) s).0
  unfolding call_or lists_own ListedRight
  list-case kinds zero = ap (λ (ms : List Move). (count_accepted (length ms), ms)) (best-own P facts kinds b.sets own kept)
  list-case kinds (suc g) = refl

  list-step : (kinds : ℕ) (scratch : List ℕ) (room : ℕ)
      → ListedRight (refusal (scratch_ground P scratch ∷ (14, not (kinds_known kinds)) ∷ (16, ltb room (length (book_best P b.sets kinds))) ∷ [])) P b.sets kinds
      (lists (sound P) kinds s (length scratch) room)
  unfolding lists best_grounds call
  list-step kinds scratch room =
      let gs : List Move → List Ground = λ ms. (14, not (kinds_known kinds)) ∷ (16, ltb room (length ms)) ∷ [] in
      let g = scratch-passes P s scratch (λ Q k. gs (best_moves Q kinds (own_tables Q s))) lent
      ∙ ap (λ (ms : List Move). refusal (scratch_ground P scratch ∷ gs ms)) (best-own P facts kinds b.sets own kept) in
      subst (λ (i : ℕ). ListedRight (refusal (scratch_ground P scratch ∷ gs (book_best P b.sets kinds))) P b.sets kinds (call_or list_refused i (sound P) (lists_own kinds) s).0)
      (sym g) (list-case kinds (refusal (scratch_ground P scratch ∷ gs (book_best P b.sets kinds))))

  -- a call of each kind
  step-at : (c : Asked) → (let r = step (sound P) x c in Right P b r.0 × Holds (book_step P b (feed r.0)) r.1)
  unfolding step Right feed book_step
  step-at (ask_move m) = move_step m
  step-at (ask_trial m scratch) = (trial-step m scratch, h)
  step-at (ask_improve kinds scratch) = improve-step kinds scratch
  step-at (ask_best kinds scratch room) = (list-step kinds scratch room, h)
  step-at ask_undo = undo-step
  step-at (ask_test into p) = test-step into p

-- One call over a plan that has a table: its answer is right under the book before it, and afterwards masks, cells and journal are those
-- of the next book.
pub step_right : (bytes : List ℕ) (P : Plan) → decode bytes ≡ sound P → (b : Book) (tail-masks tail-cells : List ℕ) (x : Journaled)
    → StateHolds P b tail-masks tail-cells x → (c : Asked)
    → (let r = step (sound P) x c in Right P b r.0 × StateHolds P (book_step P b (feed r.0)) tail-masks tail-cells r.1)
step_right bytes P d b tail-masks tail-cells x h = step-at P (plan-facts P (decode-sound bytes P d).rules) b tail-masks tail-cells x h
