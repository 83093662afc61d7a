-- The two passes over the tables: their state at each candidate, for the plan that the bytes spell. Assumes nothing.
use mathlib.Core.Path.{◌≡◌, refl, sym, ◌∙◌, subst}
use mathlib.Core.List.{List}
use Prim.Native.Nat.{ℕ, suc, ◌-◌, ◌≤◌, ◌<◌}
use native.Mathlib.Omega.{arith}
use lib.ListN.{length, take}
use Rattle.logic.specs.Formula.{Plan}
use Rattle.std.specs.Prelude.{Option, Some, None}
use Rattle.logic.specs.declared.Move.{Move}
use Rattle.logic.specs.Configuration.{in_masks, mask_count, own_masks}
use Rattle.table_format.specs.Decode.{sound, decode}
use Rattle.contracts.specs.State.{State, tables, own_tables}
use Rattle.contracts.specs.MoveOrder.{Candidate}
use Rattle.call_open.specs.inner.Opening.{OpenTables}
use Rattle.move_order.specs.inner.Stepping.{place, outset, BeginsOver, NextOr, GivesNext}
use Rattle.move_order.proofs.Listing.{candidate-high}
use Rattle.move_list.specs.inner.Records.{RoomFor, Put}
use Rattle.move_rank.specs.declared.Choice.{Choice}
use Rattle.move_rank.specs.inner.Ranking.{choice_of, ranked_by}
use Rattle.move_tables.specs.declared.Left.{Left}
use Rattle.move_root.specs.inner.Telling.{Told, RootAsked, RootLeft}
use Rattle.move_best.specs.inner.Choosing.{Chooses, Lists}
use Rattle.move_best.proofs.Candidates.{sized_of, gives-here, begins-over}
use Rattle.move_best.proofs.Passing.{Passed, here-candidate}
use Rattle.move_best.proofs.Choosing.{Sought, few-counted, sought-first, sought-next, sought-end}
use Rattle.move_best.proofs.Writing.{Written, written-first, written-room, written_next, written-end}

-- how much of the order is left
unfoldable pub ahead : Option Move → ℕ
ahead (Some m) = suc (6291456 - place m)
ahead None = 0

-- The state of the search, with the length of the table that it writes.
pub record Searching (bytes masks cells : List ℕ) (kinds sets : ℕ) (work : List ℕ) (best : Choice) (at : Option Move) : Type 0 where
  pub work-long : length work ≡ mask_count sets
  pub sought : (P : Plan) → decode bytes ≡ sound P → Sought P kinds (own_tables P (tables masks cells)) best at

-- The state of the writing.
pub record Writing (bytes masks cells : List ℕ) (kinds sets : ℕ) (list : List (List ℕ)) (work : List ℕ) (list' : List (List ℕ)) (i : ℕ) (at : Option Move) : Type 0 where
  pub work-long : length work ≡ mask_count sets
  pub list-long : length list' ≡ length list
  pub written : (P : Plan) → decode bytes ≡ sound P → Written P kinds (own_tables P (tables masks cells)) list list' i at

-- The same states, where it is known what they stand at.
pub searching-at : {bytes masks cells : List ℕ} {kinds sets : ℕ} {work : List ℕ} {best : Choice} {at at' : Option Move}
    → Searching bytes masks cells kinds sets work best at → at ≡ at' → Searching bytes masks cells kinds sets work best at'
searching-at {bytes} {masks} {cells} {kinds} {sets} {work} {best} S e = subst (Searching bytes masks cells kinds sets work best) e S

pub writing-at : {bytes masks cells : List ℕ} {kinds sets : ℕ} {list : List (List ℕ)} {work : List ℕ} {list' : List (List ℕ)} {i : ℕ} {at at' : Option Move}
    → Writing bytes masks cells kinds sets list work list' i at → at ≡ at' → Writing bytes masks cells kinds sets list work list' i at'
writing-at {bytes} {masks} {cells} {kinds} {sets} {list} {work} {list'} {i} S e = subst (Writing bytes masks cells kinds sets list work list' i) e S

module _ {ports sets : ℕ} {bytes firsts ends uses masks cells : List ℕ} (ready : OpenTables ports sets bytes firsts ends uses masks cells)
    (kinds u n : ℕ) (ports-is : u ≡ ports) (sets-is : n ≡ sets) where
  abbrev P : Plan
  P = ready.opened.plan

  abbrev own : State
  own = own_tables P (tables masks cells)

  -- at a candidate
  module _ (m : Move) (passed : List Move) (W : Passed P kinds own.masks (Some m) passed) where
    candidate : Candidate P kinds (in_masks own.masks) m
    candidate = here-candidate P (sized_of bytes P ready.opened.decodes) kinds own.masks m passed W

    pub here-asks : (one still joint lists : List ℕ) (left : Left) → Told ports sets bytes firsts ends uses masks cells kinds one still joint lists left
        → (work : List ℕ) → length work ≡ mask_count sets → RootAsked ports sets bytes firsts ends uses masks cells one still joint lists left m work
    unfolding own_tables
    here-asks one still joint lists left told work l = record {
      kinds = kinds;
      tables-told = told;
      move-ready = record { legal-move = record { tables-open = ready; is-legal = candidate.is-legal }; work-long = l };
      of-kinds = candidate.of-kinds;
    }

    pub here-begins : BeginsOver u n m masks
    unfolding own_tables
    here-begins = begins-over ready.opened u n ports-is sets-is m candidate.is-legal

    later : (r : Option Move) → NextOr P kinds (take (own_masks P) masks) m r → place m < 6291456 → ahead r < ahead (Some m)
    unfolding NextOr ahead
    later (Some x) F h = let l = F.later in omega (arith, l, h)
    later None N h = omega arith

    pub here-less : (at next : Option Move) → at ≡ Some m → GivesNext u n kinds masks m next → ahead next < ahead at
    here-less at next t g =
        subst (λ (r : Option Move). ahead next < ahead r) (sym t)
        (later next (gives-here ready.opened u n ports-is sets-is kinds m next g P ready.opened.decodes)
        (candidate-high P (sized_of bytes P ready.opened.decodes) (in_masks own.masks) m candidate.is-legal))

  -- the search
  pub search-starts : (work : List ℕ) (best : Choice) (at : Option Move) → length work ≡ mask_count sets → best ≡ choice_of 0 outset 0
      → GivesNext u n kinds masks outset at → Searching bytes masks cells kinds sets work best at
  unfolding own_tables
  search-starts work best at l b g = record {
    work-long = l;
    sought = λ Q d.
        subst (λ (x : Choice). Sought Q kinds (own_tables Q (tables masks cells)) x at) (sym b)
        (sought-first Q (sized_of bytes Q d) kinds (own_tables Q (tables masks cells)) at (gives-here ready.opened u n ports-is sets-is kinds outset at g Q d));
  }

  pub search-few : (work : List ℕ) (best : Choice) (at : Option Move) → Searching bytes masks cells kinds sets work best at → best.count < 4294967295
  search-few work best at S = omega (arith, few-counted P (sized_of bytes P ready.opened.decodes) kinds own best at (S.sought P ready.opened.decodes))

  pub search-goes-on : (work : List ℕ) (best : Choice) (m : Move) → Searching bytes masks cells kinds sets work best (Some m)
      → (work' : List ℕ) (new : Choice) (next : Option Move) (value : ℕ) → length work' ≡ length work → RootLeft bytes masks cells m value
      → new ≡ ranked_by best m value → GivesNext u n kinds masks m next → Searching bytes masks cells kinds sets work' new next
  unfolding RootLeft own_tables
  search-goes-on work best m S work' new next value l r b g = record {
    work-long = l ∙ S.work-long;
    sought = λ Q d.
        sought-next Q (sized_of bytes Q d) kinds (own_tables Q (tables masks cells)) best m (S.sought Q d) value new next (r Q d) b
        (gives-here ready.opened u n ports-is sets-is kinds m next g Q d);
  }

  -- the writing
  pub write-starts : (work : List ℕ) (list : List (List ℕ)) (at : Option Move) → length work ≡ mask_count sets → GivesNext u n kinds masks outset at
      → Writing bytes masks cells kinds sets list work list 0 at
  unfolding own_tables
  write-starts work list at l g = record {
    work-long = l;
    list-long = refl;
    written = λ Q d. written-first Q kinds (own_tables Q (tables masks cells)) (sized_of bytes Q d) list at (gives-here ready.opened u n ports-is sets-is kinds outset at g Q d);
  }

  module _ (list : List (List ℕ)) (work : List ℕ) (list' : List (List ℕ)) (i : ℕ) (m : Move) (S : Writing bytes masks cells kinds sets list work list' i (Some m))
      (best : Choice) (chooses : Chooses bytes masks cells kinds best) (room : best.count ≤ length list) (value : ℕ) (r : RootLeft bytes masks cells m value) where
    pub write-room : RoomFor value best.value i list'
    unfolding RootLeft Chooses own_tables
    write-room =
        let d = ready.opened.decodes in
        written-room P kinds own (sized_of bytes P d) list list' i m (S.written P d) best (chooses P d) value (r P d) room S.list-long

    pub write-goes-on : (work' : List ℕ) (list'' : List (List ℕ)) (j : ℕ) (next : Option Move) → length work' ≡ length work → length list'' ≡ length list'
        → Put m value best.value i list' list'' j → GivesNext u n kinds masks m next → Writing bytes masks cells kinds sets list work' list'' j next
    unfolding RootLeft Chooses own_tables
    write-goes-on work' list'' j next l k p g = record {
      work-long = l ∙ S.work-long;
      list-long = k ∙ S.list-long;
      written = λ Q d.
          written_next Q kinds (own_tables Q (tables masks cells)) (sized_of bytes Q d) list list' i m (S.written Q d) best (chooses Q d) value (r Q d) room S.list-long list'' j next p
          (gives-here ready.opened u n ports-is sets-is kinds m next g Q d);
    }

pub search-ends : (bytes masks cells : List ℕ) (kinds sets : ℕ) (work : List ℕ) (best : Choice)
    → Searching bytes masks cells kinds sets work best None → Chooses bytes masks cells kinds best
unfolding Chooses
search-ends bytes masks cells kinds sets work best S = λ Q d.
    sought-end Q (sized_of bytes Q d) kinds (own_tables Q (tables masks cells)) best (S.sought Q d)

pub write-ends : (bytes masks cells : List ℕ) (kinds sets : ℕ) (list : List (List ℕ)) (work : List ℕ) (list' : List (List ℕ)) (i : ℕ)
    → Writing bytes masks cells kinds sets list work list' i None → Lists bytes masks cells kinds list list'
unfolding Lists
write-ends bytes masks cells kinds sets list work list' i S = λ Q d.
    written-end Q kinds (own_tables Q (tables masks cells)) (sized_of bytes Q d) list list' i (S.written Q d)
