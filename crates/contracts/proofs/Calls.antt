-- Laws of any call over a plan's tables: what it leaves past the plan's own parts, and that it reads nothing there. Assumes nothing.
use mathlib.Core.Path.{◌≡◌, refl, sym, ap, ◌∙◌}
use mathlib.Core.Bool.{true, false, cond, not, ◌||◌}
use mathlib.Core.List.{List, ◌∷◌, ◌++◌, append-nil}
use Prim.Native.Nat.{ℕ, zero, suc, ◌≤◌}
use native.Mathlib.Decide.{dec_le}
use native.Mathlib.Omega.{arith}
use lib.Dec.{ltb}
use lib.ListN.{length, take, drop, length-take, drop_of_length-le, take-append-drop}
use lib.Seq.{take_at, drop_at, take_all, length-take-le, length_front}
use borrow.Author.Tests.{ltb-false, le-ltb, not-false}
use Rattle.logic.specs.Formula.{Plan}
use Rattle.logic.specs.Configuration.{Sets, in_masks, own_masks, all_within}
use Rattle.logic.specs.Cells.{own_cells}
use Rattle.logic.specs.Moves.{Ground, refusal}
use Rattle.logic.specs.declared.refusal.Refusal.{Refusal}
use Rattle.logic.specs.Refusal.{refusal_number}
use Rattle.logic.proofs.Refusals.{number-some}
use Rattle.logic.specs.Change.{some_of}
use Rattle.logic.proofs.Lists.{or_left, or_right}
use Rattle.table_format.specs.Decode.{Decoded, broken, sound}
use Rattle.contracts.specs.State.{State, tables, own_tables, with_rest}
use Rattle.contracts.specs.Journal.{count_past}
use Rattle.contracts.specs.Call.{plan_grounds, table_grounds, tables_then, call_grounds, journal_grounds, call_or, call}
use Rattle.contracts.specs.OwnParts.{SameTables}
use Rattle.contracts.proofs.Grounds.{passes}

-- 12 is tried before 13: where the mask table is too short, 12 is answered, whatever ports the masks have.
pub short-first : (P : Plan) (s : State) (lengths : List ℕ) (more : Plan → Sets → List Ground)
    → ltb (length s.masks) (own_masks P) ≡ true → refusal (call_grounds (sound P) s lengths more) ≡ 12
unfolding call_grounds tables_then plan_grounds table_grounds refusal
short-first P s lengths more h = rw (h)

-- What no ground of 11 to 13 leaves of a plan's tables: they are long enough, and no own mask has a port of u or more.
pub record LentEnough (P : Plan) (s : State) : Type 0 where
  pub masks-enough : own_masks P ≤ length s.masks
  pub cells-enough : own_cells P ≤ length s.cells
  pub within : all_within P.ports (take (own_masks P) s.masks) ≡ true

pub lent-enough : (P : Plan) (s : State) (lengths : List ℕ) (more : Plan → Sets → List Ground)
    → refusal (call_grounds (sound P) s lengths more) ≡ 0 → LentEnough P s
unfolding call_grounds tables_then plan_grounds table_grounds refusal some_of
lent-enough P s lengths more e =
    let few = ltb (length s.masks) (own_masks P) in
    let short = ltb (length s.cells) (own_cells P) in
    let g = passes (few || (short || some_of (λ l. ltb l (own_cells P)) lengths)) 11 _ e in
    let w = passes (not (all_within P.ports (take (own_masks P) s.masks))) 12 _ g.1 in
    record {
      masks-enough = ltb-false (length s.masks) (own_masks P) (or_left few _ g.0);
      cells-enough = ltb-false (length s.cells) (own_cells P) (or_left short _ (or_right few _ g.0));
      within = not-false _ w.0;
    }

-- Where the tables that the load accepted are lent, 12 applies only if another table, as scratch, is too short, and 11 and 13 never.
pub tables-pass : (P : Plan) (s : State) (lengths : List ℕ) (more : Plan → Sets → List Ground) → LentEnough P s
    → refusal (call_grounds (sound P) s lengths more)
    ≡ refusal ((12, some_of (λ l. ltb l (own_cells P)) lengths) ∷ more P (in_masks (take (own_masks P) s.masks)))
unfolding call_grounds tables_then plan_grounds table_grounds refusal some_of
tables-pass P s lengths more l =
    rw (le-ltb (length s.masks) (own_masks P) l.masks-enough, le-ltb (length s.cells) (own_cells P) l.cells-enough, l.within)

-- 12 of a record count that is past; of any other, the grounds are those of a call without a journal.
pub count-past : (P : Plan) (s : State) (room count : ℕ) (lengths : List ℕ) (more : Plan → Sets → List Ground) → count_past room count ≡ true
    → refusal (journal_grounds (sound P) s room count lengths more) ≡ 12
unfolding journal_grounds plan_grounds refusal
count-past P s room count lengths more h = rw (h)

pub count-within : (d : Decoded) (s : State) (room count : ℕ) (lengths : List ℕ) (more : Plan → Sets → List Ground) → count_past room count ≡ false
    → refusal (journal_grounds d s room count lengths more) ≡ refusal (call_grounds d s lengths more)
unfolding journal_grounds call_grounds plan_grounds refusal
count-within broken s room count lengths more h = refl
count-within (sound P) s room count lengths more h = rw (h)

-- A call with a journal that no ground stops is stopped by none of its tables; and to two calls with the same count and room the same
-- grounds apply if those of their tables do.
pub journal-tables : (P : Plan) (s : State) (room count : ℕ) (lengths : List ℕ) (more : Plan → Sets → List Ground)
    → refusal (journal_grounds (sound P) s room count lengths more) ≡ 0 → refusal (call_grounds (sound P) s lengths more) ≡ 0
unfolding journal_grounds call_grounds plan_grounds refusal
journal-tables P s room count lengths more e = (passes (count_past room count) 11 _ e).1

pub same-counted : (P : Plan) (s s' : State) (room count : ℕ) (lengths lengths' : List ℕ) (more more' : Plan → Sets → List Ground)
    → refusal (call_grounds (sound P) s lengths more) ≡ refusal (call_grounds (sound P) s' lengths' more')
    → refusal (journal_grounds (sound P) s room count lengths more) ≡ refusal (journal_grounds (sound P) s' room count lengths' more')
unfolding journal_grounds call_grounds plan_grounds refusal
same-counted P s s' room count lengths lengths' more more' e = ap (cond (count_past room count) 12) e

-- A table of which the first part, so long as it was, is written anew: that part, what is past it, and the length.
front : (n : ℕ) (ys l : List ℕ) → length ys ≡ length (take n l) → take n (ys ++ drop n l) ≡ ys
front n ys l e = go (dec_le n (length l))
  where
    go : Dec (n ≤ length l) → take n (ys ++ drop n l) ≡ ys
    go (yes h) = take_at ys (drop n l) n (e ∙ length-take-le n l h)
    go (no h) =
        ap (λ (r : List ℕ). take n (ys ++ r)) (drop_of_length-le l {i = n} (omega arith)) ∙ ap (take n) (append-nil ys)
        ∙ take_all n ys (omega (arith, length-take n l))

past : (n : ℕ) (ys l : List ℕ) → length ys ≡ length (take n l) → drop n (ys ++ drop n l) ≡ drop n l
past n ys l e = go (dec_le n (length l))
  where
    go : Dec (n ≤ length l) → drop n (ys ++ drop n l) ≡ drop n l
    go (yes h) = drop_at ys (drop n l) n (e ∙ length-take-le n l h)
    go (no h) =
        drop_of_length-le (ys ++ drop n l) {i = n} (omega (arith, length_front l ys n e)) ∙ sym (drop_of_length-le l {i = n} (omega arith))

-- tables of which the plan's own part is as long as that of others
pub record AsLong (P : Plan) (own : State) (s : State) : Type 0 where
  pub masks-long : length own.masks ≡ length (take (own_masks P) s.masks)
  pub cells-long : length own.cells ≡ length (take (own_cells P) s.cells)

pub own-long : (P : Plan) (s : State) → AsLong P (own_tables P s) s
unfolding own_tables
own-long P s = record { masks-long = refl; cells-long = refl }

-- the plan's own part and what is past it are the tables
pub own-whole : (P : Plan) (s : State) → s ≡ with_rest P (own_tables P s) s
unfolding with_rest own_tables
own-whole P s = λ i. tables (sym (take-append-drop (own_masks P) s.masks) i) (sym (take-append-drop (own_cells P) s.cells) i)

-- what is past the plan's own masks and cells is the same in both
pub record SamePast (P : Plan) (s s' : State) : Type 0 where
  pub masks-past : drop (own_masks P) s'.masks ≡ drop (own_masks P) s.masks
  pub masks-length : length s'.masks ≡ length s.masks
  pub cells-past : drop (own_cells P) s'.cells ≡ drop (own_cells P) s.cells
  pub cells-length : length s'.cells ≡ length s.cells

pub same-past : (P : Plan) (s : State) → SamePast P s s
same-past P s = record { masks-past = refl; masks-length = refl; cells-past = refl; cells-length = refl }

module _ (P : Plan) (own s : State) (f : AsLong P own s) where
  pub rest-past : SamePast P s (with_rest P own s)
  unfolding with_rest
  rest-past = record {
    masks-past = past (own_masks P) own.masks s.masks f.masks-long;
    masks-length = length_front s.masks own.masks (own_masks P) f.masks-long;
    cells-past = past (own_cells P) own.cells s.cells f.cells-long;
    cells-length = length_front s.cells own.cells (own_cells P) f.cells-long;
  }

  pub rest-own : own_tables P (with_rest P own s) ≡ own
  unfolding with_rest own_tables
  rest-own = λ i. record {
    masks = front (own_masks P) own.masks s.masks f.masks-long i;
    cells = front (own_cells P) own.cells s.cells f.cells-long i;
  }

-- the plan's own tables of two calls that agree on them, and their grounds
pub same-own : (P : Plan) (s s' : State) → SameTables P s s' → own_tables P s ≡ own_tables P s'
unfolding own_tables
same-own P s s' t = λ i. record { masks = t.same-masks.entries i; cells = t.same-cells.entries i }

pub same-grounds : (P : Plan) (s s' : State) (lengths lengths' : List ℕ) (more : Plan → Sets → List Ground) → SameTables P s s'
    → some_of (λ l. ltb l (own_cells P)) lengths ≡ some_of (λ l. ltb l (own_cells P)) lengths'
    → refusal (call_grounds (sound P) s lengths more) ≡ refusal (call_grounds (sound P) s' lengths' more)
unfolding call_grounds tables_then plan_grounds table_grounds some_of refusal
same-grounds P s s' lengths lengths' more t e = λ i.
    refusal ((12, t.same-masks.enough i || (t.same-cells.enough i || e i)) ∷ (13, not (all_within P.ports (t.same-masks.entries i)))
    ∷ more P (in_masks (t.same-masks.entries i)))

-- the own tables that a call leaves, by the first ground that applies: those that it made, or those that were there
leaves : ℕ → State → State → State
leaves zero made own = made
leaves (suc g) made own = own

module _ {A : Type 0} (refused : ℕ → A) (act : Plan → State → A × State) where
  -- "A refused call returns the first number in 01's order that applies [..] and writes nothing."
  pub call-refused : (gs : List Ground) (d : Decoded) (s : State) (g : ℕ) → refusal gs ≡ suc g → call refused gs d act s ≡ (refused (suc g), s)
  unfolding call call_or
  call-refused gs d s g e = ap (λ (n : ℕ). call_or refused n d act s) e

  -- the same of a ground as the code names it
  pub call-refuses : (gs : List Ground) (d : Decoded) (s : State) (g : Refusal) → refusal gs ≡ refusal_number g
      → call refused gs d act s ≡ (refused (refusal_number g), s)
  call-refuses gs d s g e = go (refusal_number g) refl
    where
      go : (n : ℕ) → refusal_number g ≡ n → call refused gs d act s ≡ (refused (refusal_number g), s)
      go zero h = absurd (number-some g h)
      go (suc j) h = call-refused gs d s j (e ∙ h) ∙ ap (λ (n : ℕ). (refused n, s)) (sym h)

  -- a call that no ground stops does what it does to the plan's own tables
  pub call-accepted : (gs : List Ground) (P : Plan) (s : State) → refusal gs ≡ 0
      → call refused gs (sound P) act s ≡ ((act P (own_tables P s)).0, with_rest P (act P (own_tables P s)).1 s)
  unfolding call call_or
  call-accepted gs P s e = ap (λ (n : ℕ). call_or refused n (sound P) act s) e

  module _ (P : Plan) where
    abbrev Fits : List Ground → State → Type 0
    Fits gs s = refusal gs ≡ 0 → AsLong P (act P (own_tables P s)).1 s

    -- "Bytes, masks and cells past a plan's own are never written": accepted or not, if an accepted call keeps the own parts' lengths.
    pub call-past : (gs : List Ground) (s : State) → Fits gs s → SamePast P s (call refused gs (sound P) act s).1
    unfolding call call_or
    call-past gs s = go (refusal gs)
      where
        go : (g : ℕ) → (g ≡ 0 → AsLong P (act P (own_tables P s)).1 s) → SamePast P s (call_or refused g (sound P) act s).1
        go zero f = rest-past P (act P (own_tables P s)).1 s (f refl)
        go (suc g) f = same-past P s

    -- the plan's own tables afterwards
    own-after : (g : ℕ) (s : State) → (g ≡ 0 → AsLong P (act P (own_tables P s)).1 s)
        → own_tables P (call_or refused g (sound P) act s).1 ≡ leaves g (act P (own_tables P s)).1 (own_tables P s)
    unfolding call_or leaves
    own-after zero s f = rest-own P (act P (own_tables P s)).1 s (f refl)
    own-after (suc g) s f = refl

    -- ".. or read": two calls whose tables agree on the plan's own parts, and to which the same grounds apply, answer the same and leave
    -- the same own parts.
    pub call_same : (gs gs' : List Ground) (s s' : State) → SameTables P s s' → refusal gs ≡ refusal gs' → Fits gs s → Fits gs' s'
        → ((call refused gs (sound P) act s).0 ≡ (call refused gs' (sound P) act s').0)
        × (own_tables P (call refused gs (sound P) act s).1 ≡ own_tables P (call refused gs' (sound P) act s').1)
    unfolding call call_or
    call_same gs gs' s s' t e f f' =
        let o = same-own P s s' t in (
          answer (refusal gs) o ∙ ap (λ (g : ℕ). (call_or refused g (sound P) act s').0) e,
          own-after (refusal gs) s f
              ∙ (λ i. leaves (e i) (act P (o i)).1 (o i))
              ∙ sym (own-after (refusal gs') s' f'),
        )
      where
        answer : (g : ℕ) → own_tables P s ≡ own_tables P s' → (call_or refused g (sound P) act s).0 ≡ (call_or refused g (sound P) act s').0
        answer zero o = ap (λ (x : State). (act P x).0) o
        answer (suc g) o = refl
