-- One call of a list, from what the call promises. Assumes nothing.
use mathlib.Core.Path.{◌≡◌, refl, sym, ap, ◌∙◌, subst}
use mathlib.Core.Bool.{Bool, false}
use mathlib.Core.List.{List, ◌++◌}
use Prim.Native.Nat.{ℕ, ◌≤◌}
use native.Mathlib.Omega.{arith}
use lib.ListN.{length, take, drop, set}
use Rattle.std.specs.Prelude.{Result, Option, Some, None}
use Rattle.logic.specs.declared.Move.{Move}
use Rattle.logic.specs.declared.refusal.Refusal.{Refusal}
use Rattle.table_format.specs.Decode.{decode}
use Rattle.contracts.specs.State.{State}
use Rattle.contracts.specs.Journal.{newest as newestOf, count_after, count_taken}
use Rattle.contracts.specs.declared.Moved.{Moved}
use Rattle.contracts.specs.declared.Improved.{Improved}
use Rattle.contracts.specs.MoveCall.{MoveValues, move_values, move_made, MovedAs, MadeAs, moves, moves_journaled, MovePromise}
use Rattle.contracts.specs.TrialCall.{trials, ScratchAfter}
use Rattle.contracts.specs.ImproveCall.{ImproveValues, improve_values, improves, improves_journaled, ImprovePromise}
use Rattle.contracts.specs.UndoCall.{undoes, undoes_journaled}
use Rattle.contracts.specs.TestCall.{tests, tests_journaled}
use Rattle.contracts.specs.Counting.{CountValues, count_values}
use Rattle.contracts.specs.BestCall.{lists, ListPromise}
use Rattle.contracts.specs.Lists.{ask_move, ask_trial, ask_improve, ask_best, ask_undo, ask_test, move_call, trial_call, improve_call, best_call, undo_call, test_call, step}
use Rattle.journal_rules.specs.inner.Counting.{place_of}
use Rattle.journal_rules.proofs.Writing.{taken-fewer}
use Rattle.journal_rules.proofs.Promised.{held, put-none, move-held, improve-held, undo-held}
use Rattle.call_numbers.specs.Encoding.{Unknown, tag, move_of, kinds_of, cells_lent, records_lent, test_tag, Encodes, moved_numbers, improved_numbers, counted_numbers, answer_numbers, list_one}
use Rattle.call_one.specs.Scratch.{lent_to, answer_number}
use Rattle.call_one.specs.Lending.{Lent, lends}
use Rattle.call_one.specs.inner.Steps.{OneWorked, JournalIs, OneOver}
use Rattle.call_one.proofs.Lending.{none_lent, front-lent, list_back}

-- of an unknown tag nothing is written
pub none_over : (bytes call : List ℕ) (room : ℕ) (newest : Move) (count : ℕ) (s : State) (scratch : List ℕ) (list : List (List ℕ)) (answer : List ℕ)
    → Unknown call → (let held_by : List Move → Lent = λ records. lends (held s records count) scratch list answer in
    OneOver None bytes call room newest count held_by count held_by)
unfolding OneOver
none_over bytes call room newest count s scratch list answer u = λ records j. record { unknown = u; kept = refl }

module _ (bytes call : List ℕ) (room : ℕ) (newest : Move) (count : ℕ) (s : State) (scratch : List ℕ) (list : List (List ℕ)) (answer answer' : List ℕ) (r : Option Move) where
  abbrev before : List Move → Lent
  before records = lends (held s records count) scratch list answer

  -- a call that was worked, over every journal
  worked-over : (m : Move) (count' : ℕ) (after : List Move → Lent) → r ≡ Some m
      → ((records : List Move) → JournalIs records room count newest → OneWorked bytes call (before records) (after (set records (place_of count count' room) m)))
      → OneOver r bytes call room newest count before count' after
  unfolding OneOver
  worked-over m count' after e f = subst (λ (x : Option Move). OneOver x bytes call room newest count before count' after) (sym e) f

  pub one-move : (m : Move) (a : Result Moved Refusal) (s' : State) (count' : ℕ) → r ≡ Some m → tag call ≡ 1 → m ≡ move_of call
      → MovePromise count_after (moves (decode bytes) m s room count) count a s' count' → answer' ≡ moved_numbers (move_values a) ++ drop 10 answer
      → OneOver r bytes call room newest count before count' (λ records. lends (held s' records count') scratch list answer')
  unfolding Encodes step list_one answer_numbers lent_to
  one-move m a s' count' e t f p told =
      worked-over m count' (λ records. lends (held s' records count') scratch list answer') e
      (λ records j.
      let q = move-held (decode bytes) s s' records room count count' j.room-is m a p in
      record {
        asked = ask_move m;
        says = (t, f);
        tables-are = q.1;
        scratch-step = none_lent (decode bytes) (move_call m (moves_journaled (decode bytes) m (held s records count)).0) scratch refl;
        list-is = refl;
        answer-is = told ∙ ap (λ (v : MoveValues). moved_numbers v ++ drop 10 answer) q.0;
      })

  pub one-undo : (m : Move) (a : Result Moved Refusal) (s' : State) (count' : ℕ) → r ≡ Some m → tag call ≡ 5
      → MovePromise count_taken (undoes (decode bytes) newest s room count) count a s' count' → answer' ≡ moved_numbers (move_values a) ++ drop 10 answer
      → OneOver r bytes call room newest count before count' (λ records. lends (held s' records count') scratch list answer')
  unfolding Encodes step list_one answer_numbers lent_to
  one-undo m a s' count' e t p told =
      worked-over m count' (λ records. lends (held s' records count') scratch list answer') e
      (λ records j.
      let q = undo-held (decode bytes) s s' records room count count' j.room-is newest a (unfold newestOf in j.newest-is) p in
      let none = put-none (decode bytes) s s' records room count count' j.room-is m (taken-fewer (move_made (undoes (decode bytes) newest s room count).0) count count' p.count-is) in
      record {
        asked = ask_undo;
        says = t;
        tables-are = ap (λ (xs : List Move). held s' xs count') none ∙ q.1;
        scratch-step = none_lent (decode bytes) (undo_call (undoes_journaled (decode bytes) (held s records count)).0) scratch refl;
        list-is = refl;
        answer-is = told ∙ ap (λ (v : MoveValues). moved_numbers v ++ drop 10 answer) q.0;
      })

  pub one-test : (m : Move) (into : Bool) (p : ℕ) (a : Result Moved Refusal) (s' : State) → r ≡ Some m → tag call ≡ test_tag into → p ≡ (move_of call).p
      → MadeAs (tests (decode bytes) into p s) a s' → answer' ≡ moved_numbers (move_values a) ++ drop 10 answer
      → OneOver r bytes call room newest count before count (λ records. lends (held s' records count) scratch list answer')
  unfolding Encodes step list_one answer_numbers lent_to tests_journaled
  one-test m into p a s' e t f w told =
      worked-over m count (λ records. lends (held s' records count) scratch list answer') e
      (λ records j. record {
        asked = ask_test into p;
        says = (t, f);
        tables-are = ap (λ (xs : List Move). held s' xs count) (put-none (decode bytes) s s' records room count count j.room-is m (omega arith))
            ∙ ap (λ (x : State). held x records count) w.tables-are;
        scratch-step = none_lent (decode bytes) (test_call into p (tests (decode bytes) into p s).0) scratch refl;
        list-is = refl;
        answer-is = told ∙ ap (λ (v : MoveValues). moved_numbers v ++ drop 10 answer) w.answers.values-are;
      })

  -- a call that is lent the first l cells of scratch, and gives them back
  module _ (l : ℕ) (lent-so : length (take l scratch) ≡ cells_lent call (length scratch)) (part : List ℕ) where
    pub one-trial : (x m : Move) (a : Result Moved Refusal) → r ≡ Some x → tag call ≡ 2 → m ≡ move_of call → MovedAs (trials (decode bytes) m s (length (take l scratch))) a
        → ScratchAfter (decode bytes) (move_values a).number (take l scratch) part → answer' ≡ moved_numbers (move_values a) ++ drop 10 answer
        → OneOver r bytes call room newest count before count (λ records. lends (held s records count) (part ++ drop l scratch) list answer')
    unfolding Encodes step list_one answer_numbers lent_to answer_number
    one-trial x m a e t f p w told =
        worked-over x count (λ records. lends (held s records count) (part ++ drop l scratch) list answer') e
        (λ records j. record {
          asked = ask_trial m (take l scratch);
          says = (t, f, lent-so);
          tables-are = ap (λ (xs : List Move). held s xs count) (put-none (decode bytes) s s records room count count j.room-is x (omega arith));
          scratch-step = front-lent (decode bytes) scratch part l (trial_call m (take l scratch) (trials (decode bytes) m s (length (take l scratch)))) refl
              (subst (λ (v : MoveValues). ScratchAfter (decode bytes) v.number (take l scratch) part) p.values-are w);
          list-is = refl;
          answer-is = told ∙ ap (λ (v : MoveValues). moved_numbers v ++ drop 10 answer) p.values-are;
        })

    module _ (kinds : ℕ) (kinds-are : kinds ≡ kinds_of call) where
      pub one-improve : (a : Result Improved Refusal) (s' : State) (count' : ℕ) (m : Move) → m ≡ (improve_values a).chosen → r ≡ Some m → tag call ≡ 3
          → ImprovePromise (improves (decode bytes) kinds s (length (take l scratch)) room count) count a s' count'
          → ScratchAfter (decode bytes) (improve_values a).number (take l scratch) part → answer' ≡ improved_numbers (improve_values a) ++ drop 10 answer
          → OneOver r bytes call room newest count before count' (λ records. lends (held s' records count') (part ++ drop l scratch) list answer')
      unfolding Encodes step list_one answer_numbers lent_to answer_number
      one-improve a s' count' m c e t p w told =
          worked-over m count' (λ records. lends (held s' records count') (part ++ drop l scratch) list answer') e
          (λ records j.
          let n = length (take l scratch) in
          let q = improve-held (decode bytes) s s' records room count count' j.room-is kinds n m a c p in
          record {
            asked = ask_improve kinds (take l scratch);
            says = (t, kinds-are, lent-so);
            tables-are = q.1;
            scratch-step = front-lent (decode bytes) scratch part l (improve_call kinds (take l scratch) (improves_journaled (decode bytes) kinds (held s records count) n).0) refl
                (subst (λ (v : ImproveValues). ScratchAfter (decode bytes) v.number (take l scratch) part) q.0 w);
            list-is = refl;
            answer-is = told ∙ ap (λ (v : ImproveValues). improved_numbers v ++ drop 10 answer) q.0;
          })

      -- and the first records of the list
      pub one-best : (x : Move) (n : ℕ) → length (take n list) ≡ records_lent call (length list) → n ≤ length list → (listed : List (List ℕ)) → length listed ≡ length (take n list)
          → (a : Result ℕ Refusal) → r ≡ Some x → tag call ≡ 4
          → ListPromise (lists (decode bytes) kinds s (length (take l scratch)) (length (take n list))) a (take n list) listed
          → ScratchAfter (decode bytes) (count_values a).number (take l scratch) part → answer' ≡ counted_numbers (count_values a) ++ drop 10 answer
          → OneOver r bytes call room newest count before count (λ records. lends (held s records count) (part ++ drop l scratch) (listed ++ drop n list) answer')
      unfolding Encodes step list_one answer_numbers lent_to answer_number
      one-best x n n-is fits listed long a e t p w told =
          worked-over x count (λ records. lends (held s records count) (part ++ drop l scratch) (listed ++ drop n list) answer') e
          (λ records j.
          let k = length (take n list) in
          let given = lists (decode bytes) kinds s (length (take l scratch)) k in
          record {
            asked = ask_best kinds (take l scratch) k;
            says = (t, kinds-are, lent-so, n-is);
            tables-are = ap (λ (xs : List Move). held s xs count) (put-none (decode bytes) s s records room count count j.room-is x (omega arith));
            scratch-step = front-lent (decode bytes) scratch part l (best_call kinds (take l scratch) k given) refl
                (subst (λ (v : CountValues). ScratchAfter (decode bytes) v.number (take l scratch) part) p.values-are w);
            list-is = list_back given.1 list listed n fits long p.list-is;
            answer-is = told ∙ ap (λ (v : CountValues). counted_numbers v ++ drop 10 answer) p.values-are;
          })
