-- One call more at the end of a run. Assumes nothing.
use mathlib.Core.Path.{◌≡◌, refl, sym, ap, ap₂, ◌∙◌, subst}
use mathlib.Core.Bool.{Bool, true, false}
use mathlib.Core.List.{List, [], ◌∷◌, ◌++◌, append_assoc, append-nil}
use Prim.Native.Nat.{ℕ, suc, ◌+◌, ◌-◌, ◌*◌, ◌≤◌, ◌<◌}
use native.Mathlib.Nat.{lt_of_not-le}
use native.Mathlib.Decide.{dec_le}
use native.Mathlib.Omega.{arith}
use lib.ListN.{length, get_or, set, drop, length-append, length-drop}
use lib.Seq.{take_all, drop-drop}
use Rattle.std.specs.Prelude.{Option, Some, None}
use Rattle.logic.specs.declared.Move.{Move}
use Rattle.logic.specs.Moves.{no_move}
use Rattle.logic.proofs.Lent.{lent, back, lent_is, back_is}
use Rattle.table_format.specs.Decode.{Decoded, decode}
use Rattle.contracts.specs.State.{State}
use Rattle.contracts.specs.Journal.{Journaled}
use Rattle.contracts.specs.Lists.{Asked, Exchange, move_call, trial_call, improve_call, best_call, undo_call, test_call, step, run}
use Rattle.journal_rules.specs.inner.Counting.{place_of}
use Rattle.call_numbers.specs.Encoding.{Encodes, Unknown, SayAll, ten_numbers, moved_numbers, improved_numbers, counted_numbers, answer_numbers, all_numbers, list_one, list_after}
use Rattle.call_one.specs.Scratch.{ScratchRun, kept}
use Rattle.call_one.specs.Lending.{Lent, lends}
use Rattle.call_one.specs.inner.Steps.{OneWorked, NoneWorked, JournalIs, OneOver}
use Rattle.journal_rules.proofs.Promised.{held}
use Rattle.call_list.specs.Working.{Worked, Stopped, at_end, not_whole, unknown_tag}
use Rattle.call_list.specs.inner.Next.{NextFits}
use Rattle.call_list.proofs.Scratch.{scratch-snoc, scratch-length}

-- a run and a step after it
run-snoc : (d : Decoded) (s : Journaled) (cs : List Asked) (c : Asked) → (let r = run d s cs in let x = step d r.1 c in
    run d s (cs ++ c ∷ []) ≡ (r.0 ++ x.0 ∷ [], x.1))
unfolding run
run-snoc d s [] c = refl
run-snoc d s (first ∷ cs) c =
    ap (λ (q : List Exchange × Journaled). ((step d s first).0 ∷ q.0, q.1)) (run-snoc d (step d s first).1 cs c)

-- a call said behind others
say-snoc : (n k : ℕ) (numbers : List ℕ) (cs : List Asked) (c : Asked) → SayAll n k numbers cs → Encodes n k (drop (7 * length cs) numbers) c
    → SayAll n k numbers (cs ++ c ∷ [])
unfolding SayAll
say-snoc n k numbers [] c h e = (e, tt)
say-snoc n k numbers (first ∷ cs) c h e =
    let more : 7 * suc (length cs) ≡ 7 + 7 * length cs = omega arith in
    let q : drop (7 * suc (length cs)) numbers ≡ drop (7 * length cs) (drop 7 numbers) =
    ap (λ (j : ℕ). drop j numbers) more ∙ sym (drop-drop (7 * length cs) 7 numbers) in
    (h.0, say-snoc n k (drop 7 numbers) cs c h.1 (subst (λ (ys : List ℕ). Encodes n k ys c) q e))

-- the list after one call more
list-snoc : (l : List (List ℕ)) (xs : List Exchange) (x : Exchange) → list_after l (xs ++ x ∷ []) ≡ list_one (list_after l xs) x
unfolding list_after
list-snoc l [] x = refl
list-snoc l (first ∷ xs) x = list-snoc (list_one l first) xs x

length-numbers : (x : Exchange) → length (answer_numbers x) ≡ 10
unfolding answer_numbers moved_numbers improved_numbers counted_numbers ten_numbers
length-numbers (move_call m r) = refl
length-numbers (trial_call m scratch r) = refl
length-numbers (improve_call kinds scratch r) = refl
length-numbers (best_call kinds scratch room r) = refl
length-numbers (undo_call r) = refl
length-numbers (test_call into p r) = refl

length-all : (xs : List Exchange) → length (all_numbers xs) ≡ 10 * length xs
unfolding all_numbers
length-all [] = refl
length-all (x ∷ xs) =
    length-append (answer_numbers x) (all_numbers xs) ∙ ap₂ ◌+◌ (length-numbers x) (length-all xs) ∙ omega arith

all_snoc : (xs : List Exchange) (x : Exchange) → all_numbers (xs ++ x ∷ []) ≡ all_numbers xs ++ answer_numbers x
unfolding all_numbers
all_snoc [] x = append-nil (answer_numbers x)
all_snoc (first ∷ xs) x =
    ap (λ (ys : List ℕ). answer_numbers first ++ ys) (all_snoc xs x)
    ∙ sym (append_assoc (answer_numbers first) (all_numbers xs) (answer_numbers x))

-- as many answers as calls
run_length : (d : Decoded) (s : Journaled) (cs : List Asked) → length (run d s cs).0 ≡ length cs
unfolding run
run_length d s [] = refl
run_length d s (c ∷ cs) = ap suc (run_length d (step d s c).1 cs)

-- a part lent up to the end
lent-all : (at : ℕ) (xs : List ℕ) → lent at xs ≡ drop at xs
lent-all at xs = take_all (length xs - at) (drop at xs) (omega (arith, length-drop at xs))

-- before the first call
pub none_yet : (bytes calls : List ℕ) (b : Lent) → Worked bytes calls b 0 b
unfolding SayAll all_numbers run list_after
none_yet bytes calls b = record {
  asked = [];
  whole = omega arith;
  room = omega arith;
  worked = refl;
  says = tt;
  tables-are = refl;
  scratch-run = kept;
  list-is = refl;
  answers-are = refl;
}

-- what is lent to the next call: the room for its own answer
abbrev pub lent_on : ℕ → Lent → Lent
lent_on count a = lends a.tables a.scratch a.list (lent (10 * count) a.answers)

-- and what it gives back
abbrev pub back_on : ℕ → Lent → Lent → Lent
back_on count a x = lends x.tables x.scratch x.list (back (10 * count) a.answers x.answers)

module _ (bytes calls : List ℕ) (b : Lent) (count : ℕ) (a : Lent) (w : Worked bytes calls b count a) where
  abbrev told : List ℕ
  told = all_numbers (run (decode bytes) b.tables w.asked).0

  told-length : length told ≡ 10 * count
  told-length =
      length-all (run (decode bytes) b.tables w.asked).0
      ∙ ap (λ (j : ℕ). 10 * j) (run_length (decode bytes) b.tables w.asked ∙ w.worked)

  pub answers-length : length a.answers ≡ length b.answers
  answers-length =
      ap length w.answers-are ∙ length-append told (drop (10 * count) b.answers)
      ∙ omega (arith, told-length, length-drop (10 * count) b.answers, w.room)

  pub as_long : length a.scratch ≡ length b.scratch
  as_long = scratch-length (decode bytes) b.scratch a.scratch (run (decode bytes) b.tables w.asked).0 w.scratch-run

  -- the part of the answers that is lent, and the answers when it is given back
  part-is : lent (10 * count) a.answers ≡ drop (10 * count) b.answers
  part-is = ap (lent (10 * count)) w.answers-are ∙ lent_is (10 * count) told (drop (10 * count) b.answers) told-length

  given_back : (ys : List ℕ) → back (10 * count) a.answers ys ≡ told ++ ys
  given_back ys =
      ap (λ (xs : List ℕ). back (10 * count) xs ys) w.answers-are
      ∙ back_is (10 * count) told (drop (10 * count) b.answers) ys told-length

  module _ (x : Lent) where
    pub one_more : length a.list ≡ length b.list → OneWorked bytes (lent (7 * count) calls) (lent_on count a) x
        → 7 * count + 7 ≤ length calls → 10 * count + 10 ≤ length b.answers → Worked bytes calls b (count + 1) (back_on count a x)
    one_more long o whole room =
        let next : 10 * count + 10 ≡ 10 * (count + 1) = omega arith in
        let old = run (decode bytes) b.tables w.asked in
        let y = step (decode bytes) a.tables o.asked in
        let z : step (decode bytes) old.1 o.asked ≡ y = ap (λ (t : Journaled). step (decode bytes) t o.asked) (sym w.tables-are) in
        let r : run (decode bytes) b.tables (w.asked ++ o.asked ∷ []) ≡ (old.0 ++ y.0 ∷ [], y.1) =
        run-snoc (decode bytes) b.tables w.asked o.asked ∙ ap (λ (q : Exchange × Journaled). (old.0 ++ q.0 ∷ [], q.1)) z in
        let xs = ap (λ (q : List Exchange × Journaled). q.0) r in
        record {
          asked = w.asked ++ o.asked ∷ [];
          whole = omega arith;
          room = omega arith;
          worked = length-append w.asked (o.asked ∷ []) ∙ ap (λ (j : ℕ). j + 1) w.worked;
          says = say-snoc (length b.scratch) (length b.list) calls w.asked o.asked w.says
              (subst (λ (ys : List ℕ). Encodes (length b.scratch) (length b.list) ys o.asked)
              (lent-all (7 * count) calls ∙ ap (λ (j : ℕ). drop (7 * j) calls) (sym w.worked))
              (subst (λ (n : ℕ). Encodes n (length b.list) (lent (7 * count) calls) o.asked) as_long
              (subst (λ (n : ℕ). Encodes (length a.scratch) n (lent (7 * count) calls) o.asked) long o.says)));
          tables-are = o.tables-are ∙ sym (ap (λ (q : List Exchange × Journaled). q.1) r);
          scratch-run =
              subst (λ (es : List Exchange). ScratchRun (decode bytes) b.scratch es x.scratch) (sym xs)
              (scratch-snoc (decode bytes) b.scratch a.scratch x.scratch old.0 y.0 w.scratch-run o.scratch-step);
          list-is =
              o.list-is ∙ ap (λ (l : List (List ℕ)). list_one l y.0) w.list-is ∙ sym (list-snoc b.list old.0 y.0)
              ∙ ap (list_after b.list) (sym xs);
          answers-are =
              given_back x.answers
              ∙ ap (λ (ys : List ℕ). told ++ ys)
              (o.answer-is ∙ ap (λ (ys : List ℕ). answer_numbers y.0 ++ drop 10 ys) part-is
              ∙ ap (λ (ys : List ℕ). answer_numbers y.0 ++ ys) (drop-drop 10 (10 * count) b.answers ∙ ap (λ (j : ℕ). drop j b.answers) next))
              ∙ sym (append_assoc told (answer_numbers y.0) (drop (10 * (count + 1)) b.answers))
              ∙ ap (λ (ys : List ℕ). ys ++ drop (10 * (count + 1)) b.answers) (sym (all_snoc old.0 y.0) ∙ ap all_numbers (sym xs));
        }

    module _ (o : NoneWorked (lent (7 * count) calls) (lent_on count a) x) where
      pub none_more : Worked bytes calls b count (back_on count a x)
      none_more =
          subst (λ (l : Lent). Worked bytes calls b count (back_on count a l)) (sym o.kept)
          record {
            asked = w.asked;
            whole = w.whole;
            room = w.room;
            worked = w.worked;
            says = w.says;
            tables-are = w.tables-are;
            scratch-run = w.scratch-run;
            list-is = w.list-is;
            answers-are = given_back (lent (10 * count) a.answers) ∙ ap (λ (ys : List ℕ). told ++ ys) part-is;
          }

      pub stopped-there : 7 * count + 7 ≤ length calls → 10 * count + 10 ≤ length b.answers → Stopped calls (length b.answers) count
      stopped-there whole room = unknown_tag whole room (subst Unknown (lent-all (7 * count) calls) o.unknown)

-- one call over the journal that is lent, of which it saw the length and the newest record
module _ (bytes call : List ℕ) (room : ℕ) (newest : Move) (n : ℕ) (s : State) (scratch : List ℕ) (list : List (List ℕ)) (answer : List ℕ)
    (n' : ℕ) (s' : State) (scratch' : List ℕ) (list' : List (List ℕ)) (answer' : List ℕ) (records : List Move) (place : ℕ)
    (room-is : length records ≡ room) (newest-is : newest ≡ get_or records place no_move) (place_is : place ≡ n - 1) where
  abbrev before : Lent
  before = lends (held s records n) scratch list answer

  abbrev after : List Move → Lent
  after xs = lends (held s' xs n') scratch' list' answer'

  abbrev Over : Option Move → Type 0
  Over r = OneOver r bytes call room newest n (λ xs. lends (held s xs n) scratch list answer) n' (λ xs. lends (held s' xs n') scratch' list' answer')

  lent-so : JournalIs records room n newest
  lent-so = record { room-is = room-is; newest-is = sym (newest-is ∙ ap (λ (k : ℕ). get_or records k no_move) place_is) }

  -- its record was put where it belongs
  pub worked-at : (m : Move) → Over (Some m) → (to : ℕ) (records' : List Move) → to ≡ place_of n n' room → records' ≡ set records to m
      → OneWorked bytes call before (after records')
  unfolding OneOver
  worked-at m o to records' t q =
      subst (λ (xs : List Move). OneWorked bytes call before (after xs)) (sym (q ∙ ap (λ (k : ℕ). set records k m) t)) (o records lent-so)

  -- its tag was unknown, and no record is put
  pub none-at : Over None → NoneWorked call before (after records)
  unfolding OneOver
  none-at o = o records lent-so

pub fits-true : (r : Bool) (calls answers : List ℕ) (count : ℕ) → r ≡ true → NextFits r calls answers count
    → (7 * count + 7 ≤ length calls) × (10 * count + 10 ≤ length answers)
unfolding NextFits
fits-true r calls answers count e h = subst (λ (x : Bool). NextFits x calls answers count) e h

pub fits-false : (r : Bool) (calls answers : List ℕ) (count : ℕ) → r ≡ false → NextFits r calls answers count → Stopped calls (length answers) count
unfolding NextFits
fits-false r calls answers count e h = subst (λ (x : Bool). NextFits x calls answers count) e h

-- fewer than seven numbers are left: none, or a call that is not whole
pub too_few : (calls : List ℕ) (room count : ℕ) → 7 * count ≤ length calls → length calls - 7 * count < 7 → Stopped calls room count
too_few calls room count h l = go (dec_le (length calls) (7 * count))
  where
    go : Dec (length calls ≤ 7 * count) → Stopped calls room count
    go (yes k) = at_end (omega arith)
    go (no f) = not_whole (lt_of_not-le f) (omega arith)

-- What holds before each call: the calls so far were worked, and masks, cells, the journal and the list are as long as at the outset.
pub record Going (bytes calls : List ℕ) (b : Lent) (count : ℕ) (a : Lent) : Type 0 where
  pub so_far : Worked bytes calls b count a
  pub masks-length : length a.tables.tables.masks ≡ length b.tables.tables.masks
  pub cells-length : length a.tables.tables.cells ≡ length b.tables.tables.cells
  pub journal-length : length a.tables.journal.records ≡ length b.tables.journal.records
  pub list_length : length a.list ≡ length b.list

pub outset : (bytes calls : List ℕ) (b : Lent) → Going bytes calls b 0 b
outset bytes calls b = record { so_far = none_yet bytes calls b; masks-length = refl; cells-length = refl; journal-length = refl; list_length = refl }

module _ (bytes calls : List ℕ) (b : Lent) (count : ℕ) (a : Lent) (g : Going bytes calls b count a) where
  pub same-answers : length a.answers ≡ length b.answers
  same-answers = answers-length bytes calls b count a g.so_far

  pub same-scratch : length a.scratch ≡ length b.scratch
  same-scratch = as_long bytes calls b count a g.so_far

  -- what was worked stands within both tables
  pub within : (7 * count ≤ length calls) × (10 * count ≤ length a.answers)
  within = (g.so_far.whole, omega (arith, same-answers, g.so_far.room))

  -- the next call and the room for its answer, where they are there
  pub one-ready : 7 * count + 7 ≤ length calls → 10 * count + 10 ≤ length a.answers
      → (7 ≤ length (lent (7 * count) calls)) × (10 ≤ length (lent (10 * count) a.answers))
  one-ready h k = (
    rw (lent-all (7 * count) calls) (rw (length-drop (7 * count) calls) (omega arith)),
    rw (lent-all (10 * count) a.answers) (rw (length-drop (10 * count) a.answers) (omega arith)),
  )

  module _ (x : Lent) (fits : (7 * count + 7 ≤ length calls) × (10 * count + 10 ≤ length a.answers)) where
    pub goes_on : OneWorked bytes (lent (7 * count) calls) (lent_on count a) x
        → length x.tables.tables.masks ≡ length a.tables.tables.masks → length x.tables.tables.cells ≡ length a.tables.tables.cells
        → length x.tables.journal.records ≡ length a.tables.journal.records → length x.list ≡ length a.list
        → Going bytes calls b (count + 1) (back_on count a x)
    goes_on o lm lc lj ll = record {
      so_far = one_more bytes calls b count a g.so_far x g.list_length o fits.0 (omega (arith, fits.1, same-answers));
      masks-length = lm ∙ g.masks-length;
      cells-length = lc ∙ g.cells-length;
      journal-length = lj ∙ g.journal-length;
      list_length = ll ∙ g.list_length;
    }

    module _ (o : NoneWorked (lent (7 * count) calls) (lent_on count a) x) where
      pub worked-there : Worked bytes calls b count (back_on count a x)
      worked-there = none_more bytes calls b count a g.so_far x o

      pub unknown-there : Stopped calls (length b.answers) count
      unknown-there = stopped-there bytes calls b count a g.so_far x o fits.0 (omega (arith, fits.1, same-answers))

      pub answers-there : length (back_on count a x).answers ≡ length b.answers
      answers-there = answers-length bytes calls b count (back_on count a x) worked-there

  pub ends_there : (r : Bool) → r ≡ false → NextFits r calls a.answers count → Stopped calls (length b.answers) count
  ends_there r e h = subst (λ (n : ℕ). Stopped calls n count) same-answers (fits-false r calls a.answers count e h)
