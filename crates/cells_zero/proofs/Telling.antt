-- A child of 0 that is not touched decides a minimum: what the loop over the children asks at each step, and what follows. Assumes nothing.
use mathlib.Core.Path.{◌≡◌, refl, sym, ap, ap₂, ◌∙◌, subst}
use mathlib.Core.Bool.{Bool, true, false, cond, not, ◌&&◌, false≢true}
use mathlib.Core.List.{List, [], ◌∷◌}
use Prim.Native.Nat.{ℕ, suc, ◌+◌, ◌*◌, ◌^◌, ◌≤◌, ◌<◌}
use native.Mathlib.Nat.{pow-zero}
use native.Mathlib.Numerals.{add-one}
use native.Mathlib.Omega.{arith}
use lib.Bits.{bit_or}
use lib.Dec.{eqb}
use lib.ListN.{length, get_or}
use borrow.Author.Tests.{eqb-true, not-true}
use Rattle.logic.specs.Formula.{Node, root, all, any, and, or, lit, Forest, none, tree, kind_number, node_count, child_depth}
use Rattle.logic.specs.inner.Literals.{Every}
use Rattle.logic.specs.Configuration.{Configuration}
use Rattle.logic.specs.Truth.{Tuple}
use Rattle.logic.specs.Penalty.{least, combine, below}
use Rattle.logic.specs.Cells.{place_of, cell_count, sibling_first}
use Rattle.logic.specs.Change.{Change, touched, Renewal, new_numbers, cell_of, renew, renewals, new_cell}
use Rattle.logic.proofs.Lists.{TupleOf, empty, more, and_left, and_right}
use Rattle.logic.proofs.Relations.{test-kind-range}
use Rattle.logic.proofs.Tables.{place-lt}
use Rattle.table_format.specs.Bytes.{record_length, kind_field, records_of, record_at}
use Rattle.table_format.specs.inner.Index.{node_uses, forest_uses}
use Rattle.cells_touch.specs.inner.Hits.{meets}
use Rattle.cells_walk.specs.inner.Nodes.{NodeIs, IndexHolds, NodeFits, Fitting}
use Rattle.cells_walk.proofs.Visits.{all-marked}
use Rattle.cells_zero.specs.inner.Zero.{HitFor, CellStands, ZeroReady, ZeroTells, TreesStand, TreesReady, TreesTell}
use Rattle.cells_zero.proofs.Hitting.{hit-left, hit-right, touched-told}

-- the least of numbers of which one is 0
least_first : (x : Renewal) (xs : List Renewal) → x.new ≡ 0 → least (new_numbers (x ∷ xs)) ≡ 0
unfolding new_numbers least
least_first x [] h = h
least_first x (y ∷ ys) h = omega arith

least-later : (x : Renewal) (xs : List Renewal) → least (new_numbers xs) ≡ 0 → least (new_numbers (x ∷ xs)) ≡ 0
unfolding new_numbers least
least-later x [] h = absurd (omega arith)
least-later x (y ∷ ys) h = omega arith

-- a tuple's place is below the number of tuples: with no port there is only the empty one
pub tuple-place : {u d : ℕ} {e : Tuple} → TupleOf u d e → place_of u e < u ^ d
unfolding place_of
tuple-place empty = rw pow-zero (omega arith)
tuple-place {u = u} (more h t) = place-lt u (omega arith) (more h t)

or-of : (n : Node) (kind : ℕ) → kind ≡ kind_number n → kind ≡ 4 → n ≡ or
unfolding kind_number
or-of root kind h q = absurd (omega arith)
or-of all kind h q = absurd (omega arith)
or-of any kind h q = absurd (omega arith)
or-of and kind h q = absurd (omega arith)
or-of or kind h q = refl
or-of (lit l) kind h q = absurd (omega (arith, test-kind-range l.test))

kept_new : (hit : Bool) (x y : ℕ) → hit ≡ false → y ≡ 0 → cond hit x y ≡ 0
kept_new hit x y h z = ap (λ (a : Bool). cond a x y) h ∙ z

module _ (firsts ends uses cells : List ℕ) where
  abbrev Stand : ℕ → ℕ → List ℕ → ℕ → ℕ → Forest → ℕ → ℕ → Tuple → ℕ → Type 0
  Stand u sets bytes i until f b d e place = TreesStand u sets bytes firsts ends uses cells i until f b d e place

  -- the first of some trees
  module _ (u sets : ℕ) (bytes : List ℕ) (i until : ℕ) (n : Node) (c s : Forest) (b d : ℕ) (e : Tuple) (place : ℕ)
      (v : Stand u sets bytes i until (tree n c s) b d e place) where
    node-is : NodeIs bytes firsts ends uses i n c b
    unfolding IndexHolds
    node-is = v.holds.0

    cell_in : (i < 512) × (get_or firsts i 0 + place < length cells)
    unfolding node_count cell_count
    cell_in = (omega (arith, v.nodes), omega (arith, v.room, node-is.first-is, v.place_is, tuple-place v.tuple))

    -- the later ones
    later-stand : (next : ℕ) → next ≡ get_or ends i 0 → (i < next) × Stand u sets bytes next until s (sibling_first u n c b d) d e place
    unfolding IndexHolds Fitting Every node_count cell_count sibling_first
    later-stand next h =
        let q : next ≡ i + suc (node_count c) = h ∙ node-is.end_is in (
          omega arith,
          record {
            holds = rw q v.holds.2;
            fitting = v.fitting.2;
            sets16 = v.sets16;
            room = omega (arith, v.room);
            nodes = omega (arith, v.nodes);
            tuple = v.tuple;
            place_is = v.place_is;
            ends_at = omega (arith, v.ends_at);
          },
        )

    -- its cell keeps its number where the word does not meet its uses
    kept-zero : (k : Configuration) (ch : Change) (word : ℕ) → HitFor (forest_uses (tree n c s)) ch e word
        → meets (get_or uses i 0) word ≡ false → get_or cells (get_or firsts i 0 + place) 0 ≡ 0 → new_cell u k ch (cell_of u cells) n c b d e ≡ 0
    unfolding forest_uses new_cell cell_of
    kept-zero k ch word told m z =
        kept_new (touched ch n c e) _ _
        (touched-told ch e word n c s d (all-marked sets v.sets16 (tree n c s) d v.fitting) (hit-left (bit_or (node_uses n) (forest_uses c)) (forest_uses s) ch e word told)
        ∙ ap (λ (x : ℕ). meets x word) (sym node-is.uses-are) ∙ m)
        (ap₂ (λ (x y : ℕ). get_or cells (x + y) 0) (sym node-is.first-is) (sym v.place_is) ∙ z)

  -- what the loop asks at a tree
  module _ (i until place : ℕ) where
    pub tree-in : TreesReady firsts ends uses cells i until place → i < until → (i < 512) × (get_or firsts i 0 + place < length cells)
    unfolding node_count
    tree-in r h = go r.forest r.visit
      where
        go : (f : Forest) → Stand r.ports r.sets r.bytes i until f r.first r.depth r.tuple place → (i < 512) × (get_or firsts i 0 + place < length cells)
        go none v = absurd (omega (arith, v.ends_at))
        go (tree n c s) v = cell_in r.ports r.sets r.bytes i until n c s r.first r.depth r.tuple place v

    pub next-in : (next : ℕ) → next ≡ get_or ends i 0 → TreesReady firsts ends uses cells i until place → i < until
        → (i < next) × TreesReady firsts ends uses cells next until place
    unfolding node_count
    next-in next q r h = go r.forest r.visit
      where
        go : (f : Forest) → Stand r.ports r.sets r.bytes i until f r.first r.depth r.tuple place
            → (i < next) × TreesReady firsts ends uses cells next until place
        go none v = absurd (omega (arith, v.ends_at))
        go (tree n c s) v =
            let l = later-stand r.ports r.sets r.bytes i until n c s r.first r.depth r.tuple place v next q in (
              l.0,
              record {
                ports = r.ports;
                sets = r.sets;
                bytes = r.bytes;
                forest = s;
                first = sibling_first r.ports n c r.first r.depth;
                depth = r.depth;
                tuple = r.tuple;
                visit = l.1;
              },
            )

    -- a tree that is 0 and not touched, and what the later ones say
    tells_first : (word : ℕ) → i < until → meets (get_or uses i 0) word ≡ false → get_or cells (get_or firsts i 0 + place) 0 ≡ 0
        → TreesTell firsts ends uses cells i until place word true
    unfolding TreesTell node_count renewals forest_uses new_cell
    tells_first word h m z said u sets bytes none b d e v k ch told = absurd (omega (arith, v.ends_at))
    tells_first word h m z said u sets bytes (tree n c s) b d e v k ch told =
        least_first _ (renewals u k ch (cell_of u cells) s (sibling_first u n c b d) d e) (kept-zero u sets bytes i until n c s b d e place v k ch word told m z)

    tells-later : (word next : ℕ) (r : Bool) → next ≡ get_or ends i 0 → i < until → TreesTell firsts ends uses cells next until place word r
        → TreesTell firsts ends uses cells i until place word r
    unfolding TreesTell node_count renewals forest_uses
    tells-later word next r q h so said u sets bytes none b d e v k ch told = absurd (omega (arith, v.ends_at))
    tells-later word next r q h so said u sets bytes (tree n c s) b d e v k ch told =
        least-later _ (renewals u k ch (cell_of u cells) s (sibling_first u n c b d) d e)
        (so said u sets bytes s (sibling_first u n c b d) d e (later-stand u sets bytes i until n c s b d e place v next q).1 k ch
        (hit-right (bit_or (node_uses n) (forest_uses c)) (forest_uses s) ch e word told))

  -- The loop began before node i and stands before node j: what it tells there, it tells of all.
  pub record Onward (i until place word j : ℕ) : Type 0 where
    pub ready : TreesReady firsts ends uses cells j until place
    pub so : (r : Bool) → TreesTell firsts ends uses cells j until place word r → TreesTell firsts ends uses cells i until place word r

  module _ (i until place word : ℕ) where
    pub onward-first : TreesReady firsts ends uses cells i until place → Onward i until place word i
    onward-first r = record { ready = r; so = λ b h. h }

    pub onward-next : (j next : ℕ) → Onward i until place word j → j < until → next ≡ get_or ends j 0 → (j < next) × Onward i until place word next
    onward-next j next o l q =
        let n = next-in j until place next q o.ready l in
        (n.0, record { ready = n.1; so = λ b h. o.so b (tells-later j until place word next b q l h) })

    pub onward-found : (j : ℕ) (kept : Bool) → Onward i until place word j → j < until
        → kept ≡ (not (meets (get_or uses j 0) word) && eqb (get_or cells (get_or firsts j 0 + place) 0) 0) → kept ≡ true
        → TreesTell firsts ends uses cells i until place word true
    onward-found j kept o l q h =
        let both = sym q ∙ h in
        o.so true (tells_first j until place word l (not-true _ (and_left (not (meets (get_or uses j 0) word)) _ both))
        (eqb-true _ 0 (and_right (not (meets (get_or uses j 0) word)) _ both)))

    pub found_none : TreesTell firsts ends uses cells i until place word false
    unfolding TreesTell
    found_none h = absurd (false≢true h)

-- a minimum of which the least child is 0
zero_or : (u : ℕ) (k : Configuration) (ch : Change) (t : ℕ → Tuple → ℕ) (c : Forest) (b d : ℕ) (e : Tuple) → touched ch or c e ≡ true
    → least (new_numbers (renewals u k ch t c (b + u ^ d) d e)) ≡ 0 → new_cell u k ch t or c b d e ≡ 0
unfolding new_cell renew combine below child_depth
zero_or u k ch t c b d e hot z = ap (λ (x : Bool). cond x (least (new_numbers (renewals u k ch t c (b + u ^ d) d e))) (t b e)) hot ∙ z

module _ (bytes firsts ends uses cells : List ℕ) (i place : ℕ) where
  module _ (u sets : ℕ) (n : Node) (c s : Forest) (b d : ℕ) (e : Tuple) (v : CellStands u sets bytes firsts ends uses cells i n c s b d e place) where
    here : NodeIs bytes firsts ends uses i n c b
    unfolding IndexHolds
    here = v.stands.holds.0

    low : i < 512
    unfolding node_count
    low = omega (arith, v.stands.nodes)

    children-stand : (end : ℕ) → end ≡ get_or ends i 0 → child_depth n d ≡ d → TreesStand u sets bytes firsts ends uses cells (i + 1) end c (b + u ^ d) d e place
    unfolding IndexHolds Fitting Every node_count cell_count
    children-stand end en q = record {
      holds = rw (add-one i) (subst (λ (x : ℕ). IndexHolds u bytes firsts ends uses (suc i) c (b + u ^ d) x) q v.stands.holds.1);
      fitting = subst (λ (x : ℕ). Every (NodeFits sets) c x) q v.stands.fitting.1;
      sets16 = v.stands.sets16;
      room = omega (arith, v.stands.room, ap (cell_count u c) q);
      nodes = omega (arith, v.stands.nodes);
      tuple = v.tuple;
      place_is = v.place_is;
      ends_at = omega (arith, en, here.end_is);
    }

  module _ (r : ZeroReady bytes firsts ends uses cells i place) where
    pub node-low : i < 512
    node-low = low r.ports r.sets r.node r.children r.siblings r.first r.depth r.tuple r.visit

    pub record-room : record_length * i + record_length ≤ length (records_of bytes)
    record-room = (here r.ports r.sets r.node r.children r.siblings r.first r.depth r.tuple r.visit).whole

    pub children-ready : (kind end : ℕ) → kind ≡ kind_field (record_at bytes i) → kind ≡ 4 → end ≡ get_or ends i 0 → TreesReady firsts ends uses cells (i + 1) end place
    unfolding child_depth
    children-ready kind end kd h en =
        let own = here r.ports r.sets r.node r.children r.siblings r.first r.depth r.tuple r.visit in
        let q = or-of r.node kind (kd ∙ own.kind-is) h in
        record {
          ports = r.ports;
          sets = r.sets;
          bytes = bytes;
          forest = r.children;
          first = r.first + r.ports ^ r.depth;
          depth = r.depth;
          tuple = r.tuple;
          visit = children-stand r.ports r.sets r.node r.children r.siblings r.first r.depth r.tuple r.visit end en
              (ap (λ (x : Node). child_depth x r.depth) q);
        }

  -- the answer no says nothing
  pub not-told : (word : ℕ) → ZeroTells bytes firsts ends uses cells i place word false
  unfolding ZeroTells
  not-told word h = absurd (false≢true h)

  pub told : (word kind end : ℕ) (r : Bool) → kind ≡ kind_field (record_at bytes i) → kind ≡ 4 → end ≡ get_or ends i 0
      → TreesTell firsts ends uses cells (i + 1) end place word r → ZeroTells bytes firsts ends uses cells i place word r
  unfolding ZeroTells TreesTell child_depth
  told word kind end r kd h en so said u sets n c s b d e v k ch word-is hot =
      let own = here u sets n c s b d e v in
      let q = or-of n kind (kd ∙ own.kind-is) h in
      let used : HitFor (bit_or (node_uses n) (forest_uses c)) ch e word = subst (λ (x : ℕ). HitFor x ch e word) own.uses-are word-is in
      let z = so said u sets bytes c (b + u ^ d) d e (children-stand u sets n c s b d e v end en (ap (λ (x : Node). child_depth x d) q)) k ch (hit-right (node_uses n) (forest_uses c) ch e word used) in
      subst (λ (x : Node). new_cell u k ch (cell_of u cells) x c b d e ≡ 0) (sym q) (zero_or u k ch (cell_of u cells) c b d e (ap (λ (x : Node). touched ch x c e) (sym q) ∙ hot) z)
