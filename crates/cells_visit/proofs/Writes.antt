-- What the walk asks of the table that it writes as it goes, and what it leaves there, beside what it finds. Assumes nothing.
use mathlib.Core.Path.{◌≡◌, refl, sym, ap, ap₂, ◌∙◌, subst}
use mathlib.Core.Logic.{◌≢◌}
use mathlib.Core.Bool.{Bool, true, false, cond, ◌&&◌}
use mathlib.Core.List.{List, ◌∷◌, ◌++◌}
use Prim.Native.Nat.{ℕ, zero, suc, ◌+◌, ◌-◌, ◌*◌, ◌^◌, ◌%◌, ◌≤◌, ◌<◌}
use native.Mathlib.Nat.{add-zero}
use native.Mathlib.Numerals.{add-one}
use native.Mathlib.Omega.{arith}
use lib.Dec.{leb, ltb}
use lib.ListN.{length, get_or, set, take, drop}
use Rattle.logic.specs.Formula.{Literal, Node, lit, Forest, none, tree, kind_number, node_count, child_depth}
use Rattle.logic.specs.Configuration.{Configuration, configured, in_masks}
use Rattle.logic.specs.Truth.{Tuple}
use Rattle.logic.specs.Cells.{place_of, cell_count, sibling_first, tabulate}
use Rattle.logic.specs.Change.{Change, forest_hit, touched, modulus, cell_of}
use Rattle.logic.proofs.Lists.{or-false}
use Rattle.table_format.specs.Bytes.{kind_field, record_at}
use Rattle.table_format.specs.Rules.{tree_count}
use Rattle.cells_touch.specs.declared.Changed.{Changed}
use Rattle.cells_touch.specs.inner.Hits.{meets, rest_word, port_word}
use Rattle.cells_sum.specs.inner.Walk.{Joined}
use Rattle.cells_sum.specs.declared.After.{After}
use Rattle.cells_sum.specs.declared.Sum.{Sum}
use Rattle.cells_walk.specs.inner.Below.{Only, only, Row, at-port, Wrote}
use Rattle.cells_walk.specs.inner.Visit.{Visit, CellsFit, RowVisit}
use Rattle.cells_walk.proofs.KindOf.{quantifier-of, joint-of, literal-of}
use Rattle.cells_walk.proofs.Visits.{visit-next, row-node, row_next, row-children, row_fits, none-touched}
use Rattle.cells_walk.proofs.Ports.{Reached, reached-first, reached-next, reached-all}
use Rattle.cells_walk.proofs.Outcomes.{trees-more}
use Rattle.cells_walk.proofs.Remaining.{Remaining, remains-first, remains-next}
use Rattle.cells_walk.proofs.Rows.{rows_more}
use Rattle.cells_walk.proofs.Wrote.{wrote-untouched, wrote_none, wrote-empty, later-agree, wrote-tree, wrote-joint, wrote-quantifier, wrote-literal, wrote-row, wrote-no-port, port-agree, only-tuple, row-tuple, wrote-port, wrote-skip, cell-before, trees-before, rows_before}
use Rattle.cells_visit.specs.inner.Walking.{WalkReady, CellReady, CellGives, TreesReady, TreesGive, PairReady, RowGives, RowCellsReady, RowJoins, RowTreesReady, RowTreesGive}
use Rattle.cells_visit.proofs.Walking.{no-children, here, fits, touched-is, one-here, ports-here, trees-here, end-here, rest-few, none_left, next-ready}
use Rattle.cells_visit.proofs.Rowing.{after-node, port-stands, untouched-between, PortGives, first-low, second-low, rows-ready, rows_left}
use Rattle.cells_visit.specs.inner.Writing.{CellWrites, TreesWrite, PortsWrite, RowWrites, RowTreesWrite}

pub room-kept : (x : ℕ) (old new : List ℕ) → length new ≡ length old → x < length old → x < length new
room-kept x old new h l = rw h l

pub all_fit : (cells : List ℕ) → ((j : ℕ) → get_or cells j 0 < 4294967296) → CellsFit cells
unfolding CellsFit modulus
all_fit cells h = h

-- a node of a literal's kind binds no variable
literal-level : (n : Node) (l : Literal) → n ≡ lit l → (i : ℕ) → child_depth n i ≡ i
unfolding child_depth
literal-level n l q i = ap (λ (x : Node). child_depth x i) q

module _ (u sets : ℕ) (c : Changed) (bytes firsts ends uses masks : List ℕ) where
  abbrev after : Configuration
  after = configured u sets (in_masks masks)

  -- What is asked of a table holds of one that is as long and whose numbers fit.
  module _ (old new : List ℕ) (fit : CellsFit new) (long : length new ≡ length old) where
    ready-kept : (ch : Change) → WalkReady u sets c masks old ch → WalkReady u sets c masks new ch
    ready-kept ch r = record { says = r.says; masks-settled = r.masks-settled; cells_fit = fit }

    visit-kept : (ch : Change) (i : ℕ) (f : Forest) (b d : ℕ) (e : Tuple) (place digits word : ℕ)
        → Visit u sets ch bytes firsts ends uses old i f b d e place digits word → Visit u sets ch bytes firsts ends uses new i f b d e place digits word
    visit-kept ch i f b d e place digits word v = record {
      holds = v.holds;
      fitting = v.fitting;
      tuple = v.tuple;
      place_is = v.place_is;
      digits_are = v.digits_are;
      word-is = v.word-is;
      room = rw long v.room;
      nodes = v.nodes;
    }

    row-visit-kept : (ch : Change) (i : ℕ) (f : Forest) (b d : ℕ) (e : Tuple) (row digits word : ℕ)
        → RowVisit u sets ch bytes firsts ends uses old i f b d e row digits word → RowVisit u sets ch bytes firsts ends uses new i f b d e row digits word
    row-visit-kept ch i f b d e row digits word v = record {
      holds = v.holds;
      fitting = v.fitting;
      tuple = v.tuple;
      row_is = v.row_is;
      digits_are = v.digits_are;
      word-is = v.word-is;
      room = rw long v.room;
      nodes = v.nodes;
      depth = v.depth;
    }

    pub cell-kept : (i d place digits word : ℕ) → CellReady u sets c bytes firsts ends uses masks old i d place digits word
        → CellReady u sets c bytes firsts ends uses masks new i d place digits word
    cell-kept i d place digits word r = record {
      change = r.change;
      node = r.node;
      children = r.children;
      siblings = r.siblings;
      first = r.first;
      tuple = r.tuple;
      ready = ready-kept r.change r.ready;
      visit = visit-kept r.change i (tree r.node r.children r.siblings) r.first d r.tuple place digits word r.visit;
    }

    trees-kept : (i until d place digits word : ℕ) (acc : Sum) → TreesReady u sets c bytes firsts ends uses masks old i until d place digits word acc
        → TreesReady u sets c bytes firsts ends uses masks new i until d place digits word acc
    trees-kept i until d place digits word acc r = record {
      change = r.change;
      forest = r.forest;
      first = r.first;
      tuple = r.tuple;
      ready = ready-kept r.change r.ready;
      visit = visit-kept r.change i r.forest r.first d r.tuple place digits word r.visit;
      ends_at = r.ends_at;
      few = r.few;
    }

    rows-kept : (i until d row digits word : ℕ) (out : List ℕ) (before : ℕ) → RowTreesReady u sets c bytes firsts ends uses masks old i until d row digits word out before
        → RowTreesReady u sets c bytes firsts ends uses masks new i until d row digits word out before
    rows-kept i until d row digits word out before r = record {
      change = r.change;
      forest = r.forest;
      first = r.first;
      tuple = r.tuple;
      ready = ready-kept r.change r.ready;
      visit = row-visit-kept r.change i r.forest r.first d r.tuple row digits word r.visit;
      ends_at = r.ends_at;
      room = r.room;
      low = r.low;
      few = r.few;
    }

  -- a cell's outcome has gone into the sum or minimum so far, and its touched cells into the table
  pub record Moved (cells : List ℕ) (i d place digits word : ℕ) (add : Bool) (acc sum : Sum) (mid : List ℕ) : Type 0 where
    pub found : After
    pub gives : CellGives u sets c bytes firsts ends uses masks cells i d place digits word found
    pub joined : Joined add acc found sum
    pub writes : CellWrites u sets c bytes firsts ends uses masks cells i d place digits word mid
    pub fit : CellsFit mid
    pub long : length mid ≡ length cells

  pub moved_as : (cells : List ℕ) (i d place digits word : ℕ) (add : Bool) (acc sum sum' : Sum) (mid mid' : List ℕ) → mid' ≡ mid → sum' ≡ sum
      → Moved cells i d place digits word add acc sum mid → Moved cells i d place digits word add acc sum' mid'
  moved_as cells i d place digits word add acc sum sum' mid mid' m e w =
      subst (λ (x : Sum). Moved cells i d place digits word add acc x mid') (sym e)
      (subst (λ (x : List ℕ). Moved cells i d place digits word add acc sum x) (sym m) w)

  module _ (cells : List ℕ) where
    -- a cell
    module _ (i d place digits word : ℕ) where
      abbrev Gives : After → Type 0
      Gives r = CellGives u sets c bytes firsts ends uses masks cells i d place digits word r

      abbrev Writes : List ℕ → Type 0
      Writes new = CellWrites u sets c bytes firsts ends uses masks cells i d place digits word new

      module _ (used : ℕ) (us : used ≡ get_or uses i 0) where
        pub untouched-moved : meets used word ≡ false → (r : After) → Gives r → Gives r × Writes cells
        unfolding CellWrites forest_hit touched
        untouched-moved m r gives = (
          gives,
          λ ch n f s b e ready v. wrote-untouched u ready.masks-settled.ports1 after ch (tree n f none) b d (Only e) cells
              (λ x q. subst (λ (y : Tuple). forest_hit ch (tree n f none) y ≡ false) (only-is e x q)
              (or-false (touched ch n f e) false (touched-is u sets c bytes firsts ends uses masks cells i d place digits word ch n f s b e ready v used false us m) refl)),
        )
          where
            only-is : (e x : Tuple) → Only e x → e ≡ x
            only-is e x only = refl

        -- a touched cell gets its number after the cells below it have got theirs
        module _ (kind : ℕ) (kd : kind ≡ kind_field (record_at bytes i)) (r : After) (gives : Gives r) (value : ℕ) (is : r.value ≡ value)
            (mid new : List ℕ) (put : new ≡ set mid (get_or firsts i 0 + place) value) where
          module _ (ch : Change) (n : Node) (f s : Forest) (b : ℕ) (e : Tuple) (ready : WalkReady u sets c masks cells ch)
              (v : Visit u sets ch bytes firsts ends uses cells i (tree n f s) b d e place digits word) where
            kind-here : kind ≡ kind_number n
            kind-here = kd ∙ (here u sets c bytes firsts ends uses masks cells i d place digits word ch n f s b e ready v).kind-is

            put-here : new ≡ set mid (b + place_of u e) value
            put-here = put ∙ ap (λ (x : ℕ). set mid x value) (ap₂ ◌+◌ (here u sets c bytes firsts ends uses masks cells i d place digits word ch n f s b e ready v).first-is v.place_is)

            own_room : b + u ^ d ≤ length cells
            unfolding cell_count
            own_room = omega (arith, v.room)

          pub literal-moved : 5 ≤ kind → mid ≡ cells → Gives r × Writes new
          unfolding CellWrites CellGives
          literal-moved h same = (
            gives,
            λ ch n f s b e ready v. let l = literal-of n kind (kind-here ch n f s b e ready v) h in
                wrote-literal u ready.masks-settled.ports1 after ch n f b d e cells new value
                (no-children n f l.0 l.1 (fits u sets c bytes firsts ends uses masks cells i d place digits word ch n f s b e ready v).children) v.tuple (own_room ch n f s b e ready v)
                (put-here ch n f s b e ready v ∙ ap (λ (ys : List ℕ). set ys (b + place_of u e) value) same) (sym is ∙ (gives ch n f s b e ready v).new_is),
          )

          pub ports-moved : (leb 1 kind && leb kind 2) ≡ true → PortsWrite u sets c bytes firsts ends uses masks cells (i + 1) d (place * u) digits word mid → Gives r × Writes new
          unfolding CellWrites CellGives PortsWrite
          ports-moved h so = (
            gives,
            λ ch n f s b e ready v. let q = quantifier-of n kind (kind-here ch n f s b e ready v) h in
                wrote-quantifier u ready.masks-settled.ports1 after ch n f b d e cells mid new value q v.tuple (own_room ch n f s b e ready v)
                (so ch f (b + u ^ d) e ready (ports-here u sets c bytes firsts ends uses masks cells i d place digits word ch n f s b e ready v q)
                (one-here u sets c bytes firsts ends uses masks cells i d place digits word ch n f s b e ready v q))
                (put-here ch n f s b e ready v) (sym is ∙ (gives ch n f s b e ready v).new_is),
          )

          pub trees-moved : (end : ℕ) → end ≡ get_or ends i 0 → kind < 5 → (leb 1 kind && leb kind 2) ≡ false
              → TreesWrite u sets c bytes firsts ends uses masks cells (i + 1) end d place digits word mid → Gives r × Writes new
          unfolding CellWrites CellGives TreesWrite
          trees-moved end en l h so = (
            gives,
            λ ch n f s b e ready v. let q = joint-of n kind (kind-here ch n f s b e ready v) l h in
                wrote-joint u ready.masks-settled.ports1 after ch n f b d e cells mid new value q v.tuple (own_room ch n f s b e ready v)
                (so ch f (b + u ^ d) e ready (trees-here u sets c bytes firsts ends uses masks cells i d place digits word ch n f s b e ready v q)
                (end-here u sets c bytes firsts ends uses masks cells i d place digits word ch n f s b e ready v end en))
                (put-here ch n f s b e ready v) (sym is ∙ (gives ch n f s b e ready v).new_is),
          )

    -- the trees of a forest: the first has been written when the later ones are read
    module _ (i until d place digits word : ℕ) where
      none_written : until ≤ i → TreesWrite u sets c bytes firsts ends uses masks cells i until d place digits word cells
      unfolding TreesWrite node_count
      none_written h ch none b e ready v q = wrote_none u ready.masks-settled.ports1 after ch b d (Only e) cells
      none_written h ch (tree n f s) b e ready v q = absurd (omega arith)

      module _ (next : ℕ) (nx : next ≡ get_or ends i 0) (mid : List ℕ) (fit : CellsFit mid) (long : length mid ≡ length cells)
          (first : CellWrites u sets c bytes firsts ends uses masks cells i d place digits word mid) (more_left : i < until) where
        module _ (ch : Change) (n : Node) (f s : Forest) (b : ℕ) (e : Tuple) (ready : WalkReady u sets c masks cells ch)
            (v : Visit u sets ch bytes firsts ends uses cells i (tree n f s) b d e place digits word) where
          visit-later : Visit u sets ch bytes firsts ends uses mid next s (sibling_first u n f b d) d e place digits word
          visit-later =
              let at = (here u sets c bytes firsts ends uses masks cells i d place digits word ch n f s b e ready v).end_is in
              visit-kept cells mid fit long ch next s (sibling_first u n f b d) d e place digits word
              (rw (nx ∙ at) (visit-next u sets ch bytes firsts ends uses cells i n f s b d e place digits word v))

          until-later : until ≡ i + node_count (tree n f s) → until ≡ next + node_count s
          unfolding node_count
          until-later q =
              let at = (here u sets c bytes firsts ends uses masks cells i d place digits word ch n f s b e ready v).end_is in
              omega (arith, nx, at, q)

          first-written : Wrote u after ch (tree n f none) b d (Only e) cells mid
          unfolding CellWrites
          first-written = first ch n f s b e ready v

        trees-follow : (add : Bool) (acc sum r : Sum) (x : After) → CellGives u sets c bytes firsts ends uses masks cells i d place digits word x
            → Joined add acc x sum → TreesGive u sets c bytes firsts ends uses masks mid next until d place digits word add sum r
            → TreesGive u sets c bytes firsts ends uses masks cells i until d place digits word add acc r
        unfolding TreesGive CellGives node_count
        trees-follow add acc sum r x cell joined rest ch none b e ready v q = absurd (omega arith)
        trees-follow add acc sum r x cell joined rest ch (tree n f s) b e ready v q =
            let A = later-agree u ready.masks-settled.ports1 after ch n f s b d (Only e) cells mid (λ y o. only-tuple u d e y v.tuple o) (first-written ch n f s b e ready v) e only in
            trees-more u after ch (cell_of u cells) add n f s b d e acc sum r x (cell ch n f s b e ready v) joined
            (trees-before u ready.masks-settled.ports1 after ch add s (sibling_first u n f b d) d e cells mid sum r A
            (rest ch s (sibling_first u n f b d) e (ready-kept cells mid fit long ch ready) (visit-later ch n f s b e ready v) (until-later ch n f s b e ready v q)))

        trees-write-on : (new : List ℕ) → TreesWrite u sets c bytes firsts ends uses masks mid next until d place digits word new
            → TreesWrite u sets c bytes firsts ends uses masks cells i until d place digits word new
        unfolding TreesWrite node_count
        trees-write-on new rest ch none b e ready v q = absurd (omega arith)
        trees-write-on new rest ch (tree n f s) b e ready v q =
            wrote-tree u ready.masks-settled.ports1 after ch n f s b d (Only e) cells mid new (λ y o. only-tuple u d e y v.tuple o) (first-written ch n f s b e ready v)
            (rest ch s (sibling_first u n f b d) e (ready-kept cells mid fit long ch ready) (visit-later ch n f s b e ready v) (until-later ch n f s b e ready v q))

    -- the cells of a row one by one: those below port m have been written when m is read
    module _ (i d row digits word : ℕ) where
      abbrev Standing : Change → Node → Forest → Forest → ℕ → Tuple → Type 0
      Standing ch n f s b e = RowVisit u sets ch bytes firsts ends uses cells i (tree n f s) b d e row digits word

      unfoldable pub RowTo : ℕ → List ℕ → Type 0
      RowTo m new =
          (ch : Change) (n : Node) (f s : Forest) (b : ℕ) (e : Tuple) → WalkReady u sets c masks cells ch → Standing ch n f s b e
          → Wrote u after ch (tree n f none) b (suc d) (Row m e) cells new

      pub row-to-none : RowTo 0 cells
      unfolding RowTo
      row-to-none ch n f s b e ready v = wrote-no-port u ready.masks-settled.ports1 after ch (tree n f none) b (suc d) e cells

      module _ (x digits' word' : ℕ) (low : x < u) (dg : digits' ≡ digits + x * 256 ^ d) (wd : word' ≡ port_word c word d x) (mid : List ℕ) (fit : CellsFit mid)
          (long : length mid ≡ length cells) (so : RowTo x mid) where
        module _ (ch : Change) (n : Node) (f s : Forest) (b : ℕ) (e : Tuple) (ready : WalkReady u sets c masks cells ch) (v : Standing ch n f s b e) where
          visit-port : Visit u sets ch bytes firsts ends uses mid i (tree n f s) b (d + 1) (x ∷ e) (row + x) digits' word'
          visit-port =
              visit-kept cells mid fit long ch i (tree n f s) b (d + 1) (x ∷ e) (row + x) digits' word'
              (port-stands u sets c bytes firsts ends uses masks cells i d row digits word ch n f s b e ready v x digits' word' low dg wd)

        -- what is found in the table that is written is what stood there before
        pub port-gives-later : (a : After) → CellGives u sets c bytes firsts ends uses masks mid i (d + 1) (row + x) digits' word' a
            → PortGives u sets c bytes firsts ends uses masks cells i d row digits word x a
        unfolding PortGives CellGives RowTo
        port-gives-later a cell ch n f s b e ready v =
            cell-before u ready.masks-settled.ports1 after ch n f b (suc d) (x ∷ e) cells mid a
            (port-agree u ready.masks-settled.ports1 after ch (tree n f none) b d e x cells mid v.tuple low (so ch n f s b e ready v))
            (rw (add-one d) at (cell ch n f s b (x ∷ e) (ready-kept cells mid fit long ch ready) (visit-port ch n f s b e ready v)))

        pub row-to-next : (new : List ℕ) → CellWrites u sets c bytes firsts ends uses masks mid i (d + 1) (row + x) digits' word' new → RowTo (suc x) new
        unfolding RowTo CellWrites
        row-to-next new one ch n f s b e ready v =
            wrote-port u ready.masks-settled.ports1 after ch (tree n f none) b d e x cells mid new v.tuple low (so ch n f s b e ready v)
            (rw (add-one d) at (one ch n f s b (x ∷ e) (ready-kept cells mid fit long ch ready) (visit-port ch n f s b e ready v)))

      row-to-pass : (mid : List ℕ) → meets (get_or uses i 0) (rest_word word d) ≡ false → (m x : ℕ) → x + m ≤ u → ((y : ℕ) → x ≤ y → y < x + m → (y ≢ c.p) × (y ≢ c.q))
          → RowTo x mid → RowTo (x + m) mid
      unfolding RowTo forest_hit touched
      row-to-pass mid h zero x l apart so ch n f s b e ready v =
          subst (λ (y : ℕ). Wrote u after ch (tree n f none) b (suc d) (Row y e) cells mid) (sym (add-zero x)) (so ch n f s b e ready v)
      row-to-pass mid h (suc m) x l apart so ch n f s b e ready v =
          let before = row-to-pass mid h m x (omega arith) (λ y g k. apart y g (omega arith)) so ch n f s b e ready v in
          let a = apart (x + m) (omega arith) (omega arith) in
          subst (λ (y : ℕ). Wrote u after ch (tree n f none) b (suc d) (Row y e) cells mid) (let w : suc (x + m) ≡ x + suc m = omega arith in w)
          (wrote-skip u ready.masks-settled.ports1 after ch (tree n f none) b d e (x + m) cells mid v.tuple (omega arith)
          (or-false (touched ch n f ((x + m) ∷ e)) false
          (untouched-between u sets c bytes firsts ends uses masks cells i d row digits word ch n f s b e ready v h (x + m) (omega arith) a.0 a.1) refl) before)

      pub row-to : (mid : List ℕ) → meets (get_or uses i 0) (rest_word word d) ≡ false → (x x' : ℕ) → x ≤ x' → x' ≤ u → ((y : ℕ) → x ≤ y → y < x' → (y ≢ c.p) × (y ≢ c.q))
          → RowTo x mid → RowTo x' mid
      row-to mid h x x' l k apart so =
          let w : x + (x' - x) ≡ x' = omega arith in
          subst (λ (m : ℕ). RowTo m mid) w (row-to-pass mid h (x' - x) x (omega arith) (λ y g j. apart y g (omega arith)) so)

      pub row-to-all : (mid : List ℕ) → RowTo u mid → RowWrites u sets c bytes firsts ends uses masks cells i d row digits word mid
      unfolding RowTo RowWrites
      row-to-all mid so = so

      -- a row is all that stands below a quantifier
      pub row_below : (mid : List ℕ) → RowWrites u sets c bytes firsts ends uses masks cells i d row digits word mid
          → PortsWrite u sets c bytes firsts ends uses masks cells i d row digits word mid
      unfolding RowWrites PortsWrite tree_count
      row_below mid so ch none b e ready v o = absurd (omega arith)
      row_below mid so ch (tree n f none) b e ready v o = so ch n f none b e ready v
      row_below mid so ch (tree n f (tree n' f' s)) b e ready v o = absurd (omega arith)

      -- the ports of the change alone: the first written, and the second after it
      module _ (acc : Sum) (r : PairReady u sets c bytes firsts ends uses masks cells i d row digits word acc) (p q : ℕ) (pe : p ≡ c.p) (qe : q ≡ c.q)
          (digits' word' : ℕ) (dg : digits' ≡ digits + p * 256 ^ d) (wd : word' ≡ port_word c word d p)
          (mid : List ℕ) (one : CellWrites u sets c bytes firsts ends uses masks cells i (d + 1) (row + p) digits' word' mid) where
        first-wrote : RowTo (suc p) mid
        first-wrote =
            let order = r.ports.ready.says.order in
            let low = first-low u sets c bytes firsts ends uses masks cells i d row digits word acc r p q pe qe in
            row-to-next p digits' word' low dg wd cells r.ports.ready.cells_fit refl
            (row-to cells r.few 0 p (omega arith) (omega arith) (λ y g l. (λ e. omega (arith, pe), λ e. omega (arith, pe))) row-to-none) mid one

        pub pair-wrote-one : q ≤ p → PortsWrite u sets c bytes firsts ends uses masks cells i d row digits word mid
        pair-wrote-one h =
            row_below mid (row-to-all mid (row-to mid r.few (suc p) u (first-low u sets c bytes firsts ends uses masks cells i d row digits word acc r p q pe qe) (omega arith)
            (λ y g l. (λ e. omega (arith, pe), λ e. omega (arith, qe))) first-wrote))

        pub second-next : p < q → RowTo q mid
        second-next h = row-to mid r.few (suc p) q (omega arith) (omega (arith, qe, r.ports.ready.says.below)) (λ y g l. (λ e. omega (arith, pe), λ e. omega (arith, qe))) first-wrote

        pub pair-wrote-two : p < q → (digits'' word'' : ℕ) → digits'' ≡ digits + q * 256 ^ d → word'' ≡ port_word c word d q → CellsFit mid → length mid ≡ length cells
            → (new : List ℕ) → CellWrites u sets c bytes firsts ends uses masks mid i (d + 1) (row + q) digits'' word'' new
            → PortsWrite u sets c bytes firsts ends uses masks cells i d row digits word new
        pair-wrote-two h digits'' word'' dg'' wd'' fit long new two =
            let high = second-low u sets c bytes firsts ends uses masks cells i d row digits word acc r p q pe qe in
            row_below new (row-to-all new (row-to new r.few (suc q) u high (omega arith) (λ y g l. (λ e. omega (arith, pe), λ e. omega (arith, qe)))
            (row-to-next q digits'' word'' high dg'' wd'' mid fit long (second-next h) new two)))

      -- The invariant of the loop, beside what the reading walk has passed.
      pub record RowCarried (every : Bool) (x : ℕ) (mid : List ℕ) : Type 0 where
        pub reached : Reached u c every (λ m. RowTo m mid) x
        pub fit : CellsFit mid
        pub long : length mid ≡ length cells

      module _ (every : Bool) (out₀ : List ℕ) (r : RowCellsReady u sets c bytes firsts ends uses masks cells i d row digits word every out₀) where
        pass : (mid : List ℕ) → every ≡ false → (x x' : ℕ) → x ≤ x' → x' ≤ u → ((y : ℕ) → x ≤ y → y < x' → (y ≢ c.p) × (y ≢ c.q)) → RowTo x mid → RowTo x' mid
        pass mid h = row-to mid (r.few h)

        pub row-carried-start : (x : ℕ) → x ≡ cond every 0 c.p → RowCarried every x cells
        row-carried-start x q = record {
          reached = reached-first u c r.begins.ready.says.order r.begins.ready.says.below every (λ m. RowTo m cells) (pass cells) x q row-to-none;
          fit = r.begins.ready.cells_fit;
          long = refl;
        }

        pub row-carried-step : (x x' digits' word' : ℕ) (mid new : List ℕ) → RowCarried every x mid → x < u → digits' ≡ digits + x * 256 ^ d → word' ≡ port_word c word d x
            → CellWrites u sets c bytes firsts ends uses masks mid i (d + 1) (row + x) digits' word' new → CellsFit new → length new ≡ length mid
            → x' ≡ cond every (x + 1) (cond (ltb x c.q) c.q u) → RowCarried every x' new
        row-carried-step x x' digits' word' mid new at l dg wd one fit long q =
            let n = reached-next u c r.begins.ready.says.order r.begins.ready.says.below every (λ m. RowTo m new) (pass new) x x' at.reached.late l
            (row-to-next x digits' word' l dg wd mid at.fit at.long at.reached.so new one) q in
            record { reached = n.1; fit = fit; long = long ∙ at.long }

      pub row-carried-all : (every : Bool) (x : ℕ) (mid : List ℕ) → RowCarried every x mid → u ≤ x → RowWrites u sets c bytes firsts ends uses masks cells i d row digits word mid
      row-carried-all every x mid at h = row-to-all mid (reached-all u c every (λ m. RowTo m mid) x at.reached h)

      -- the row of a node, stored when the rows below it are written
      module _ (kind at : ℕ) (out mid new : List ℕ) (changed : ℕ) (kd : kind ≡ kind_field (record_at bytes i)) (aq : at ≡ get_or firsts i 0 + row)
          (gives : RowGives u sets c bytes firsts ends uses masks cells i d row digits word out changed)
          (put : new ≡ take at mid ++ (tabulate u (λ x. get_or out x 0) ++ drop (at + u) mid)) where
        module _ (ch : Change) (n : Node) (f s : Forest) (b : ℕ) (e : Tuple) (ready : WalkReady u sets c masks cells ch) (v : Standing ch n f s b e) where
          row-kind : kind ≡ kind_number n
          row-kind = kd ∙ (row-node u sets ch bytes firsts ends uses cells i n f s b d e row digits word v).kind-is

          stored : ((j : ℕ) → child_depth n j ≡ j) → Wrote u after ch f (b + u ^ suc d) (suc d) (Row u e) cells mid → Wrote u after ch (tree n f none) b (suc d) (Row u e) cells new
          unfolding RowGives cell_count
          stored level below =
              wrote-row u ready.masks-settled.ports1 after ch n f b d e at out cells mid new level v.tuple
              (aq ∙ ap₂ ◌+◌ (row-node u sets ch bytes firsts ends uses cells i n f s b d e row digits word v).first-is v.row_is)
              (omega (arith, v.room)) below put (gives ch n f s b e ready v).numbers

        pub literal-row-moved : 5 ≤ kind → mid ≡ cells
            → RowGives u sets c bytes firsts ends uses masks cells i d row digits word out changed × RowWrites u sets c bytes firsts ends uses masks cells i d row digits word new
        unfolding RowWrites
        literal-row-moved h same = (
          gives,
          λ ch n f s b e ready v. let l = literal-of n kind (row-kind ch n f s b e ready v) h in
              let z = no-children n f l.0 l.1 (row_fits u sets ch bytes firsts ends uses cells i n f s b d e row digits word v).children in
              stored ch n f s b e ready v (literal-level n l.0 l.1)
              (subst (λ (ys : List ℕ). Wrote u after ch f (b + u ^ suc d) (suc d) (Row u e) cells ys) (sym same)
              (wrote-empty u ready.masks-settled.ports1 after ch f (b + u ^ suc d) (suc d) (Row u e) cells z)),
        )

        pub joint-row-moved : (end : ℕ) → end ≡ get_or ends i 0 → kind < 5 → (leb 1 kind && leb kind 2) ≡ false
            → RowTreesWrite u sets c bytes firsts ends uses masks cells (i + 1) end d row digits word mid
            → RowGives u sets c bytes firsts ends uses masks cells i d row digits word out changed × RowWrites u sets c bytes firsts ends uses masks cells i d row digits word new
        unfolding RowWrites RowTreesWrite
        joint-row-moved end en l h so = (
          gives,
          λ ch n f s b e ready v. let q = joint-of n kind (row-kind ch n f s b e ready v) l h in
              stored ch n f s b e ready v q.level
              (so ch f (b + u ^ suc d) e ready (rw (add-one i) (row-children u sets ch bytes firsts ends uses cells i n f s b d e row digits word v (q.level (suc d))))
              (en ∙ (row-node u sets ch bytes firsts ends uses cells i n f s b d e row digits word v).end_is ∙ after-node i (node_count f))),
        )

      -- a row that is not touched
      pub row-unmoved : (used : ℕ) → used ≡ get_or uses i 0 → meets used word ≡ false → RowWrites u sets c bytes firsts ends uses masks cells i d row digits word cells
      unfolding RowWrites forest_hit touched
      row-unmoved used us m ch n f s b e ready v =
          wrote-untouched u ready.masks-settled.ports1 after ch (tree n f none) b (suc d) (Row u e) cells (λ x o. untouched x o)
        where
          untouched : (x : Tuple) → Row u e x → forest_hit ch (tree n f none) x ≡ false
          untouched x (at-port {p = p} l) =
              or-false (touched ch n f (p ∷ e)) false
              (none-touched u sets ch bytes firsts ends uses cells i n f s b d e row digits word v ready.masks-settled.sets16 (ap (λ (y : ℕ). meets y word) (sym us) ∙ m) p) refl

    -- the rows of a forest's trees: the first has been written when the later ones are read
    module _ (i until d row digits word : ℕ) where
      no-row-written : until ≤ i → RowTreesWrite u sets c bytes firsts ends uses masks cells i until d row digits word cells
      unfolding RowTreesWrite node_count
      no-row-written h ch none b e ready v q = wrote_none u ready.masks-settled.ports1 after ch b (suc d) (Row u e) cells
      no-row-written h ch (tree n f s) b e ready v q = absurd (omega arith)

      module _ (next : ℕ) (nx : next ≡ get_or ends i 0) (mid : List ℕ) (fit : CellsFit mid) (long : length mid ≡ length cells)
          (first : RowWrites u sets c bytes firsts ends uses masks cells i d row digits word mid) (more_left : i < until) where
        module _ (ch : Change) (n : Node) (f s : Forest) (b : ℕ) (e : Tuple) (ready : WalkReady u sets c masks cells ch)
            (v : RowVisit u sets ch bytes firsts ends uses cells i (tree n f s) b d e row digits word) where
          row-later : RowVisit u sets ch bytes firsts ends uses mid next s (sibling_first u n f b (suc d)) d e row digits word
          row-later =
              let at = (row-node u sets ch bytes firsts ends uses cells i n f s b d e row digits word v).end_is in
              row-visit-kept cells mid fit long ch next s (sibling_first u n f b (suc d)) d e row digits word
              (rw (nx ∙ at) (row_next u sets ch bytes firsts ends uses cells i n f s b d e row digits word v))

          row-until-later : until ≡ i + node_count (tree n f s) → until ≡ next + node_count s
          unfolding node_count
          row-until-later q =
              let at = (row-node u sets ch bytes firsts ends uses cells i n f s b d e row digits word v).end_is in
              omega (arith, nx, at, q)

          first-row : Wrote u after ch (tree n f none) b (suc d) (Row u e) cells mid
          unfolding RowWrites
          first-row = first ch n f s b e ready v

        rows-follow : (add : Bool) (acc out new : List ℕ) (before more m r : ℕ) → RowJoins u sets c bytes firsts ends uses masks cells i d row digits word add acc out more
            → m ≡ (before + more) % 4294967296 → RowTreesGive u sets c bytes firsts ends uses masks mid next until d row digits word add out m new r
            → RowTreesGive u sets c bytes firsts ends uses masks cells i until d row digits word add acc before new r
        unfolding RowTreesGive RowJoins node_count modulus
        rows-follow add acc out new before more m r joins mq rest ch none b e ready v q = absurd (omega arith)
        rows-follow add acc out new before more m r joins mq rest ch (tree n f s) b e ready v q =
            rows_more u after ch (cell_of u cells) add n f s b d e acc out new before more m r (joins ch n f s b e ready v) mq
            (rows_before u ready.masks-settled.ports1 after ch add s (sibling_first u n f b (suc d)) d e cells mid out new m r
            (λ x l. later-agree u ready.masks-settled.ports1 after ch n f s b (suc d) (Row u e) cells mid (λ y o. row-tuple u d u e y (omega arith) v.tuple o) (first-row ch n f s b e ready v) (x ∷ e) (at-port l))
            (rest ch s (sibling_first u n f b (suc d)) e (ready-kept cells mid fit long ch ready) (row-later ch n f s b e ready v) (row-until-later ch n f s b e ready v q)))

        rows-write-on : (new : List ℕ) → RowTreesWrite u sets c bytes firsts ends uses masks mid next until d row digits word new
            → RowTreesWrite u sets c bytes firsts ends uses masks cells i until d row digits word new
        unfolding RowTreesWrite node_count
        rows-write-on new rest ch none b e ready v q = absurd (omega arith)
        rows-write-on new rest ch (tree n f s) b e ready v q =
            wrote-tree u ready.masks-settled.ports1 after ch n f s b (suc d) (Row u e) cells mid new (λ y o. row-tuple u d u e y (omega arith) v.tuple o) (first-row ch n f s b e ready v)
            (rest ch s (sibling_first u n f b (suc d)) e (ready-kept cells mid fit long ch ready) (row-later ch n f s b e ready v) (row-until-later ch n f s b e ready v q))

  -- The walk over a forest's trees stands before node j, with the sum so far and the table as it is by then.
  abbrev pub Ahead : List ℕ → ℕ → ℕ → ℕ → ℕ → ℕ → ℕ → Bool → Sum → ℕ → Sum → List ℕ → Type 0
  Ahead cells i until d place digits word add acc j sum mid =
      Remaining {S = Sum × List ℕ} {R = Sum × List ℕ}
      (λ n s. TreesReady u sets c bytes firsts ends uses masks s.1 n until d place digits word s.0 × (length s.1 ≡ length cells))
      (λ n s r. TreesGive u sets c bytes firsts ends uses masks s.1 n until d place digits word add s.0 r.0
      × TreesWrite u sets c bytes firsts ends uses masks s.1 n until d place digits word r.1)
      i (acc, cells) j (sum, mid)

  module _ (cells : List ℕ) (i until d place digits word : ℕ) (add : Bool) (acc : Sum) where
    pub ahead-first : TreesReady u sets c bytes firsts ends uses masks cells i until d place digits word acc
        → Ahead cells i until d place digits word add acc i acc cells
    ahead-first r = remains-first _ _ i (acc, cells) (r, refl)

    pub ahead-next : (j next : ℕ) (sum sum' : Sum) (mid mid' : List ℕ) → Ahead cells i until d place digits word add acc j sum mid → j < until
        → next ≡ get_or ends j 0 → Moved mid j d place digits word add sum sum' mid'
        → (j < next) × Ahead cells i until d place digits word add acc next sum' mid'
    ahead-next j next sum sum' mid mid' o l nx w =
        let n = next-ready u sets c bytes firsts ends uses masks mid j until d place digits word next nx sum sum' o.ready.0 (rest-few sum'.changed _ w.joined.changed-is) l in (
          n.0,
          remains-next _ _ i (acc, cells) j next (sum, mid) (sum', mid') o n.0
              (trees-kept mid mid' w.fit w.long next until d place digits word sum' n.1, w.long ∙ o.ready.1)
              (λ r h. (
                trees-follow mid j until d place digits word next nx mid' w.fit w.long w.writes l add sum sum' r.0 w.found w.gives w.joined h.0,
                trees-write-on mid j until d place digits word next nx mid' w.fit w.long w.writes l r.1 h.1,
              )),
        )

    pub ahead-last : (j : ℕ) (sum : Sum) (mid : List ℕ) → Ahead cells i until d place digits word add acc j sum mid → until ≤ j
        → TreesGive u sets c bytes firsts ends uses masks cells i until d place digits word add acc sum
        × TreesWrite u sets c bytes firsts ends uses masks cells i until d place digits word mid
    ahead-last j sum mid o h =
        o.so (sum, mid) (none_left u sets c bytes firsts ends uses masks mid j until d place digits word add sum o.ready.0 h, none_written mid j until d place digits word h)

  -- The same of the rows of a forest's trees.
  abbrev pub RowsAhead : List ℕ → ℕ → ℕ → ℕ → ℕ → ℕ → ℕ → Bool → List ℕ → ℕ → List ℕ → ℕ → List ℕ → Type 0
  RowsAhead cells i until d row digits word add acc j out m mid =
      Remaining {S = List ℕ × ℕ × List ℕ} {R = List ℕ × ℕ × List ℕ}
      (λ n s. RowTreesReady u sets c bytes firsts ends uses masks s.2 n until d row digits word s.0 s.1 × (length s.2 ≡ length cells) × (length s.0 ≡ length acc))
      (λ n s r. RowTreesGive u sets c bytes firsts ends uses masks s.2 n until d row digits word add s.0 s.1 r.0 r.1
      × RowTreesWrite u sets c bytes firsts ends uses masks s.2 n until d row digits word r.2)
      i (acc, 0, cells) j (out, m, mid)

  module _ (cells : List ℕ) (i until d row digits word : ℕ) (add : Bool) (acc : List ℕ) where
    pub rows-ahead-first : RowTreesReady u sets c bytes firsts ends uses masks cells i until d row digits word acc 0
        → RowsAhead cells i until d row digits word add acc i acc 0 cells
    rows-ahead-first r = remains-first _ _ i (acc, 0, cells) (r, refl, refl)

    pub rows-ahead-next : (j next : ℕ) (out out' : List ℕ) (m more m' : ℕ) (mid mid' : List ℕ) → RowsAhead cells i until d row digits word add acc j out m mid → j < until
        → next ≡ get_or ends j 0 → RowJoins u sets c bytes firsts ends uses masks mid j d row digits word add out out' more
        × RowWrites u sets c bytes firsts ends uses masks mid j d row digits word mid'
        → m' ≡ (m + more) % 4294967296 → length out' ≡ length out → CellsFit mid' → length mid' ≡ length mid
        → (j < next) × RowsAhead cells i until d row digits word add acc next out' m' mid'
    rows-ahead-next j next out out' m more m' mid mid' o l nx both mq same fit long =
        let n = rows-ready u sets c bytes firsts ends uses masks mid j until d row digits word next nx add out out' m more m' l both.0 mq o.ready.0 same in (
          n.0,
          remains-next _ _ i (acc, 0, cells) j next (out, m, mid) (out', m', mid') o n.0
              (rows-kept mid mid' fit long next until d row digits word out' m' n.1, long ∙ o.ready.1, same ∙ o.ready.2)
              (λ r h. (
                rows-follow mid j until d row digits word next nx mid' fit long both.1 l add out out' r.0 m more m' r.1 both.0 mq h.0,
                rows-write-on mid j until d row digits word next nx mid' fit long both.1 l r.2 h.1,
              )),
        )

    pub rows-ahead-last : (j : ℕ) (out : List ℕ) (m : ℕ) (mid : List ℕ) → RowsAhead cells i until d row digits word add acc j out m mid → until ≤ j
        → RowTreesGive u sets c bytes firsts ends uses masks cells i until d row digits word add acc 0 out m
        × RowTreesWrite u sets c bytes firsts ends uses masks cells i until d row digits word mid
    rows-ahead-last j out m mid o h =
        o.so (out, m, mid) (rows_left u sets c bytes firsts ends uses masks mid j until d row digits word add out m o.ready.0 h, no-row-written mid j until d row digits word h)
