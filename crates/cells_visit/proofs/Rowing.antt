-- What the walk asks where it stands before a row, and what follows from what the steps there give. Assumes nothing.
use mathlib.Core.Path.{◌≡◌, refl, sym, ap, ap₂, ◌∙◌, subst}
use mathlib.Core.Logic.{◌≢◌}
use mathlib.Core.Bool.{Bool, true, false, cond, not, ◌&&◌, ◌||◌, true≢false}
use mathlib.Core.List.{List, [], ◌∷◌}
use Prim.Native.Nat.{ℕ, zero, suc, ◌+◌, ◌-◌, ◌*◌, ◌^◌, ◌%◌, ◌≤◌, ◌<◌}
use native.Mathlib.Nat.{add-zero, mul-le-mul, zero-mul}
use native.Mathlib.Numerals.{add-one}
use native.Mathlib.Omega.{arith}
use lib.Dec.{eqb, leb, ltb}
use lib.ListN.{length, get_or, set, drop, length-drop, length-set}
use lib.Seq.{get_or-drop}
use Rattle.logic.specs.Formula.{Node, Forest, none, tree, node_count, child_depth}
use Rattle.logic.specs.inner.Literals.{Every}
use Rattle.logic.specs.Configuration.{Configuration, indicator, configured, in_masks}
use Rattle.logic.specs.Truth.{Tuple}
use Rattle.logic.specs.Penalty.{each_port, sum}
use Rattle.logic.specs.Cells.{place_of, sibling_first, tabulate}
use Rattle.logic.specs.Change.{Change, forest_hit, touched, modulus, cell_of}
use Rattle.logic.proofs.Bound.{LiteralsAtMost, literals-low, sizes-64}
use Rattle.logic.proofs.Lists.{or-false}
use Rattle.logic.proofs.Tables.{place-lt, length-tabulate}
use Rattle.table_format.specs.Bytes.{kind_field, record_at}
use Rattle.table_format.specs.Rules.{tree_count}
use Rattle.cells_touch.specs.declared.Changed.{Changed}
use Rattle.cells_touch.specs.inner.Hits.{meets, rest_word, port_word}
use Rattle.cells_sum.specs.inner.Walk.{begun, Joined}
use Rattle.cells_sum.specs.declared.After.{After}
use Rattle.cells_sum.specs.declared.Sum.{Sum}
use Rattle.cells_sum.proofs.Sums.{taken-same}
use Rattle.cells_row.specs.inner.Row.{row_of, row_gathered, row_changes, row_taken, row_kept, renewal_at}
use Rattle.cells_row.proofs.Rows.{row_at, changes-rows, taken_at, kept_at}
use Rattle.cells_walk.specs.inner.Nodes.{NodeIs, NodeFits, Fitting}
use Rattle.cells_walk.specs.inner.Visit.{Visit, CellsFit, CellAfter, RowVisit, PortsAfter, RowAfter, RowTreesAfter, RecordAfresh, Afresh}
use Rattle.cells_walk.proofs.KindOf.{adds-kind, joint-of, literal-of}
use Rattle.cells_walk.proofs.Steps.{packed_lt}
use Rattle.cells_walk.proofs.Visits.{all-constants, port-visit, row-node, row_fits, row_next, row-children, row_room, every-touched, few-touched, none-touched, one_number}
use Rattle.cells_walk.proofs.Ports.{Reached, reached-first, reached-next, reached-all}
use Rattle.cells_walk.proofs.Outcomes.{begun-fits, taken-fits, one-tree, port-more, port-skipped, ports-none}
use Rattle.cells_walk.proofs.Remaining.{Remaining, remains-first, remains-next}
use Rattle.cells_walk.proofs.Rows.{row-kept, row-literal, row-joint, row-joined, rows_none, rows_more, row-gathered, RowUpTo, up-to-none, up-to-next, up-to-skip, up-to-all}
use Rattle.cells_visit.specs.inner.Walking.{WalkReady, CellReady, QuantifierReady, CellGives, PortsReady, PairReady, PortsSo, OldRow, RowReady, RowGives, RowCellsReady, RowJoinReady, RowJoins, RowTreesReady, RowTreesGive}
use Rattle.cells_visit.proofs.Walking.{cells_low, no-children, width_low, literal-here, ports-ready, quantifier-gives}

first-digits : (digits d : ℕ) → digits ≡ digits + 0 * 256 ^ d
first-digits digits d = rw (zero-mul (256 ^ d)) (omega arith)

pub after-node : (i m : ℕ) → i + suc m ≡ i + 1 + m
after-node i m = omega arith

counted-too : (m x count r : ℕ) → count ≡ x % 4294967296 → r ≡ (m + count) % 4294967296 → r ≡ (m + x) % 4294967296
counted-too m x count r h k = omega arith

count-few : (x y : ℕ) → x ≡ y % 4294967296 → x < modulus
unfolding modulus
count-few x y h = omega arith

-- where a row is not renewed cell by cell
pub by_rows : (every : Bool) (kind : ℕ) (b : Bool) → b ≡ (not every || (leb 1 kind && leb kind 2)) → b ≡ false → (every ≡ true) × ((leb 1 kind && leb kind 2) ≡ false)
by_rows true kind b q h = (refl, sym q ∙ h)
by_rows false kind b q h = absurd (true≢false (sym q ∙ h))

none-few : 0 < modulus
unfolding modulus
none-few = omega arith

-- a part of the table, and a copy of a row
pub part-old : (u : ℕ) (firsts cells : List ℕ) (i row at : ℕ) (part : List ℕ) → at ≡ get_or firsts i 0 + row → part ≡ drop at cells → OldRow u firsts cells i row part
part-old u firsts cells i row at part q p = record {
  is = λ x l. ap (λ (ys : List ℕ). get_or ys x 0) p ∙ get_or-drop at cells x 0 ∙ ap (λ (y : ℕ). get_or cells y 0) (let w : at + x ≡ get_or firsts i 0 + (row + x) = omega (arith, q) in w);
}

pub copy-old : (u : ℕ) (firsts cells : List ℕ) (i row : ℕ) (old out new : List ℕ) → OldRow u firsts cells i row old → new ≡ row_of u (λ x. get_or old x 0) out
    → OldRow u firsts cells i row new
copy-old u firsts cells i row old out new was q =
    record { is = λ x l. ap (λ (ys : List ℕ). get_or ys x 0) q ∙ row_at u (λ y. get_or old y 0) out x l ∙ was.is x l }

module _ (u sets : ℕ) (c : Changed) (bytes firsts ends uses masks cells : List ℕ) where
  abbrev after : Configuration
  after = configured u sets (in_masks masks)

  abbrev Standing : Change → ℕ → Forest → ℕ → ℕ → Tuple → ℕ → ℕ → ℕ → Type 0
  Standing ch i f b d e row digits word = RowVisit u sets ch bytes firsts ends uses cells i f b d e row digits word

  abbrev Walks : Change → Type 0
  Walks ch = WalkReady u sets c masks cells ch

  -- what a visited row says of itself
  module _ (i d row digits word : ℕ) (ch : Change) (n : Node) (f s : Forest) (b : ℕ) (e : Tuple) (ready : Walks ch) (v : Standing ch i (tree n f s) b d e row digits word) where
    at_row : NodeIs bytes firsts ends uses i n f b
    at_row = row-node u sets ch bytes firsts ends uses cells i n f s b d e row digits word v

    fits-row : NodeFits sets n f (suc d)
    fits-row = row_fits u sets ch bytes firsts ends uses cells i n f s b d e row digits word v

    old-cell : (j x : ℕ) → j ≡ get_or firsts i 0 + (row + x) → get_or cells j 0 ≡ cell_of u cells b (x ∷ e)
    unfolding cell_of place_of
    old-cell j x q =
        let w : j ≡ b + (place_of u e * u + x) = omega (arith, q, at_row.first-is, v.row_is) in ap (λ (y : ℕ). get_or cells y 0) w

    pub old_row : (old : List ℕ) → OldRow u firsts cells i row old → (x : ℕ) → x < u → get_or old x 0 ≡ cell_of u cells b (x ∷ e)
    old_row old was x l = was.is x l ∙ old-cell _ x refl

    row-literals : LiteralsAtMost 65 after f (child_depth n (suc d))
    unfolding Fitting Every
    row-literals = literals-low after (sizes-64 u sets (in_masks masks) ready.masks-settled.ports64) f (child_depth n (suc d)) (all-constants sets f (child_depth n (suc d)) v.fitting.1)

    pub port-stands : (x digits' word' : ℕ) → x < u → digits' ≡ digits + x * 256 ^ d → word' ≡ port_word c word d x
        → Visit u sets ch bytes firsts ends uses cells i (tree n f s) b (d + 1) (x ∷ e) (row + x) digits' word'
    port-stands x digits' word' l dg wd =
        rw (add-one d, dg, wd) (port-visit u sets ch bytes firsts ends uses cells c ready.says i (tree n f s) b d e row digits word x v l)

    pub untouched-between : meets (get_or uses i 0) (rest_word word d) ≡ false → (x : ℕ) → x < u → x ≢ c.p → x ≢ c.q → touched ch n f (x ∷ e) ≡ false
    untouched-between m x l np nq =
        few-touched u sets ch bytes firsts ends uses cells i n f s b d e row digits word v ready.masks-settled.sets16 c ready.says m x l np nq

  module _ (i d row digits word : ℕ) where
    abbrev Row : List ℕ → Type 0
    Row out = RowReady u sets c bytes firsts ends uses masks cells i d row digits word out

    -- what the steps at a row ask
    module _ (out : List ℕ) (r : Row out) where
      pub port-ready : (x digits' word' : ℕ) → x < u → digits' ≡ digits + x * 256 ^ d → word' ≡ port_word c word d x
          → CellReady u sets c bytes firsts ends uses masks cells i (d + 1) (row + x) digits' word'
      port-ready x digits' word' l dg wd = record {
        change = r.change;
        node = r.node;
        children = r.children;
        siblings = r.siblings;
        first = r.first;
        tuple = x ∷ r.tuple;
        ready = r.ready;
        visit = port-stands i d row digits word r.change r.node r.children r.siblings r.first r.tuple r.ready r.visit x digits' word' l dg wd;
      }

      pub first-ready : CellReady u sets c bytes firsts ends uses masks cells i (d + 1) (row + 0) digits (port_word c word d 0)
      first-ready = port-ready 0 digits (port_word c word d 0) r.ready.masks-settled.ports1 (first-digits digits d) refl

      pub row_low : row ≤ 16777216
      row_low =
          let m = r.ready.masks-settled in
          let w = width_low u d m.ports64 (omega (arith, r.visit.depth)) in
          let l : place_of u r.tuple ≤ 262144 = omega (arith, place-lt u m.ports1 r.visit.tuple) in
          let p : place_of u r.tuple * u ≤ 262144 * 64 = mul-le-mul l m.ports64 in
          omega (arith, r.visit.row_is)

      pub row-fits-64 : (x : ℕ) → x < u → row + x < 18446744073709551616
      row-fits-64 x l = omega (arith, row_low, r.ready.masks-settled.ports64)

      pub digits-ready : (x : ℕ) → x < u → (d ≤ 2) × (digits < 256 ^ d) × (x < 256)
      digits-ready x l =
          let m = r.ready.masks-settled in
          (omega (arith, r.visit.depth), rw r.visit.digits_are (packed_lt (omega (arith, m.ports64)) r.visit.tuple), omega (arith, m.ports64))

      pub row_within : (at : ℕ) → at ≡ get_or firsts i 0 + row → at + u ≤ length cells
      row_within at q =
          omega (arith, q, row_room u sets r.change bytes firsts ends uses cells i r.node r.children r.siblings r.first d r.tuple row digits word r.visit r.ready.masks-settled.ports1)

      pub part_room : (at : ℕ) (part : List ℕ) → at ≡ get_or firsts i 0 + row → part ≡ drop at cells → u ≤ length part
      part_room at part q p = omega (arith, row_within at q, ap length p, length-drop at cells)

    -- whether every port can be touched
    pub rest-met : (used rest : ℕ) (every : Bool) → used ≡ get_or uses i 0 → rest ≡ rest_word word d → every ≡ meets used rest → (b : Bool) → every ≡ b
        → meets (get_or uses i 0) (rest_word word d) ≡ b
    rest-met used rest every us re ev b h = sym (ap₂ meets us re) ∙ sym ev ∙ h

    -- the same with another row for the numbers
    pub again : (out out' : List ℕ) → Row out → u ≤ length out' → Row out'
    again out out' r room = record {
      change = r.change;
      node = r.node;
      children = r.children;
      siblings = r.siblings;
      first = r.first;
      tuple = r.tuple;
      ready = r.ready;
      visit = r.visit;
      room = room;
    }

    -- what a row of one number, and one of sums or minima, comes to
    module _ (kind used rest : ℕ) (every : Bool) (old new : List ℕ) (was : OldRow u firsts cells i row old) (kd : kind ≡ kind_field (record_at bytes i))
        (us : used ≡ get_or uses i 0) (re : rest ≡ rest_word word d) (ev : every ≡ meets used rest) (hot : every ≡ true) where
      all-hot : (ch : Change) (n : Node) (f s : Forest) (b : ℕ) (e : Tuple) → Walks ch → Standing ch i (tree n f s) b d e row digits word
          → (x : ℕ) → x < u → touched ch n f (x ∷ e) ≡ true
      all-hot ch n f s b e ready v x l =
          every-touched u sets ch bytes firsts ends uses cells i n f s b d e row digits word v ready.masks-settled.sets16 c ready.says (rest-met used rest every us re ev true hot) x l

      counted-row : (ch : Change) (n : Node) (f s : Forest) (b : ℕ) (e : Tuple) → Walks ch → Standing ch i (tree n f s) b d e row digits word
          → row_changes new old u ≡ sum (each_port u (λ x. indicator (not (eqb (get_or new x 0) (cell_of u cells b (x ∷ e)))) ∷ []))
      counted-row ch n f s b e ready v =
          changes-rows u new old (λ x. get_or new x 0) (λ x. cell_of u cells b (x ∷ e)) (λ x l. (refl, old_row i d row digits word ch n f s b e ready v old was x l))

      pub gives-literal-row : (out : List ℕ) (value r : ℕ) → 5 ≤ kind → RecordAfresh u sets (d + 1) bytes i masks digits value → new ≡ row_of u (λ _. value) out
          → r ≡ row_changes new old u % 4294967296 → RowGives u sets c bytes firsts ends uses masks cells i d row digits word new r
      unfolding RowGives RecordAfresh Afresh modulus
      gives-literal-row out value r h fresh nq rq ch n f s b e ready v =
          let l = literal-of n kind (kd ∙ (at_row i d row digits word ch n f s b e ready v).kind-is) h in
          let z = no-children n f l.0 l.1 (fits-row i d row digits word ch n f s b e ready v).children in
          let first = port-stands i d row digits word ch n f s b e ready v 0 digits (port_word c word d 0) ready.masks-settled.ports1 (first-digits digits d) refl in
          subst (λ (y : Node). RowAfter u after ch (cell_of u cells) y f b d e new r) (sym l.1)
          (row-literal u after ch (cell_of u cells) l.0 f b d e new r (λ x j. ap (λ (y : Node). touched ch y f (x ∷ e)) (sym l.1) ∙ all-hot ch n f s b e ready v x j) z
          (λ x j. ap (λ (ys : List ℕ). get_or ys x 0) nq ∙ row_at u (λ _. value) out x j
          ∙ fresh l.0 (0 ∷ e) (literal-here u sets c bytes firsts ends uses masks cells i (d + 1) (row + 0) digits (port_word c word d 0) ch n f s b (0 ∷ e) ready first l.0 l.1)
          ∙ one_number u sets ch bytes firsts ends uses cells i n f s b d e row digits word v ready.masks-settled.sets16 l.0 l.1 z (rest-met used rest every us re ev true hot) after 0 x)
          (rq ∙ ap (λ (y : ℕ). y % 4294967296) (counted-row ch n f s b e ready v)))

      pub gives-joint-row : (end : ℕ) (add : Bool) (out acc : List ℕ) (m count r : ℕ) → kind < 5 → (leb 1 kind && leb kind 2) ≡ false → end ≡ get_or ends i 0 → add ≡ eqb (kind % 2) 1
          → acc ≡ row_of u (λ x. begun add (get_or old x 0)) out
          → RowTreesGive u sets c bytes firsts ends uses masks cells (i + 1) end d row digits word add acc 0 new m
          → count ≡ row_changes new old u % 4294967296 → r ≡ (m + count) % 4294967296 → RowGives u sets c bytes firsts ends uses masks cells i d row digits word new r
      unfolding RowGives RowTreesGive modulus
      gives-joint-row end add out acc m count r few h en ad aw rows cq rq ch n f s b e ready v =
          let at-node = at_row i d row digits word ch n f s b e ready v in
          let q = joint-of n kind (kd ∙ at-node.kind-is) few h in
          let an = ad ∙ adds-kind n kind (kd ∙ at-node.kind-is) few in
          let given = rows ch f (b + u ^ suc d) e ready (rw (add-one i) (row-children u sets ch bytes firsts ends uses cells i n f s b d e row digits word v (q.level (suc d))))
          (en ∙ at-node.end_is ∙ after-node i (node_count f)) in
          row-joint u after ch (cell_of u cells) ready.masks-settled.ports1 (cells_low u sets c bytes firsts ends uses masks cells ready.cells_fit) n f b d e acc new m r q
          (row-literals i d row digits word ch n f s b e ready v) (fits-row i d row digits word ch n f s b e ready v).children (all-hot ch n f s b e ready v)
          (λ x l. ap (λ (ys : List ℕ). get_or ys x 0) aw ∙ row_at u (λ y. begun add (get_or old y 0)) out x l
          ∙ ap₂ begun an (old_row i d row digits word ch n f s b e ready v old was x l))
          (subst (λ (a : Bool). RowTreesAfter u after ch (cell_of u cells) a f (b + u ^ suc d) d e acc 0 new m) an given)
          (counted-too m _ count r cq rq ∙ ap (λ (y : ℕ). (m + y) % 4294967296) (counted-row ch n f s b e ready v))

    -- what the visits one by one ask of a row
    module _ (out acc : List ℕ) (r : Row out) (old : List ℕ) (was : OldRow u firsts cells i row old) where
      pub row-cells-ready : (every : Bool) (used rest : ℕ) → used ≡ get_or uses i 0 → rest ≡ rest_word word d → every ≡ meets used rest → u ≤ length acc → acc ≡ row_of u (λ x. get_or old x 0) out
          → RowCellsReady u sets c bytes firsts ends uses masks cells i d row digits word every acc
      row-cells-ready every used rest us re ev room aw = record {
        begins = again out acc r room;
        old_row = copy-old u firsts cells i row old out acc was aw;
        few = λ h. rest-met used rest every us re ev false h;
      }

    -- what the steps at an "and" or "or" ask of its children's rows
    module _ (out acc : List ℕ) (r : Row out) (kind end : ℕ) (add : Bool) (old : List ℕ) (was : OldRow u firsts cells i row old) (kd : kind ≡ kind_field (record_at bytes i)) where
      abbrev node_row : NodeIs bytes firsts ends uses i r.node r.children r.first
      node_row = at_row i d row digits word r.change r.node r.children r.siblings r.first r.tuple r.ready r.visit

      pub row-trees-ready : kind < 5 → (leb 1 kind && leb kind 2) ≡ false → end ≡ get_or ends i 0 → u ≤ length acc → acc ≡ row_of u (λ x. begun add (get_or old x 0)) out
          → RowTreesReady u sets c bytes firsts ends uses masks cells (i + 1) end d row digits word acc 0
      unfolding CellsFit
      row-trees-ready few h en room aw = record {
        change = r.change;
        forest = r.children;
        first = r.first + u ^ suc d;
        tuple = r.tuple;
        ready = r.ready;
        visit = rw (add-one i) (row-children u sets r.change bytes firsts ends uses cells i r.node r.children r.siblings r.first d r.tuple row digits word r.visit
            ((joint-of r.node kind (kd ∙ node_row.kind-is) few h).level (suc d)));
        ends_at = en ∙ node_row.end_is ∙ after-node i (node_count r.children);
        room = room;
        low = λ x l. rw (ap (λ (ys : List ℕ). get_or ys x 0) aw ∙ row_at u (λ y. begun add (get_or old y 0)) out x l
            ∙ ap (begun add) (old_row i d row digits word r.change r.node r.children r.siblings r.first r.tuple r.ready r.visit old was x l))
            (begun-fits add _ (cells_low u sets c bytes firsts ends uses masks cells r.ready.cells_fit r.first (x ∷ r.tuple)));
        few = none-few;
      }

    -- What is found at port x of the row.
    unfoldable pub PortGives : ℕ → After → Type 0
    PortGives x a =
        (ch : Change) (n : Node) (f s : Forest) (b : ℕ) (e : Tuple) → Walks ch → Standing ch i (tree n f s) b d e row digits word
        → CellAfter u after ch (cell_of u cells) n f b (suc d) (x ∷ e) a

    pub port-gives : (x digits' word' : ℕ) (a : After) → x < u → digits' ≡ digits + x * 256 ^ d → word' ≡ port_word c word d x
        → CellGives u sets c bytes firsts ends uses masks cells i (d + 1) (row + x) digits' word' a → PortGives x a
    unfolding PortGives CellGives
    port-gives x digits' word' a l dg wd cell ch n f s b e ready v =
        rw (add-one d) at (cell ch n f s b (x ∷ e) ready (port-stands i d row digits word ch n f s b e ready v x digits' word' l dg wd))

    -- The cells of a row visited one by one: the ports below m are done.
    unfoldable pub RowSo : ℕ → List ℕ → ℕ → Type 0
    RowSo m out changed =
        (ch : Change) (n : Node) (f s : Forest) (b : ℕ) (e : Tuple) → Walks ch → Standing ch i (tree n f s) b d e row digits word
        → RowUpTo u after ch (cell_of u cells) n f b d e m out changed

    -- The invariant of the loop.
    pub record RowPassed (every : Bool) (out₀ : List ℕ) (x : ℕ) (out : List ℕ) (changed : ℕ) : Type 0 where
      pub reached : Reached u c every (λ m. RowSo m out changed) x
      pub same_length : length out ≡ length out₀

    module _ (every : Bool) (out₀ : List ℕ) (r : RowCellsReady u sets c bytes firsts ends uses masks cells i d row digits word every out₀) where
      row-so-none : RowSo 0 out₀ 0
      unfolding RowSo
      row-so-none ch n f s b e ready v =
          up-to-none u after ch (cell_of u cells) n f b d e out₀ (old_row i d row digits word ch n f s b e ready v out₀ r.old_row)

      row-so-skip : (out : List ℕ) (changed : ℕ) → every ≡ false → (m x : ℕ) → x + m ≤ u → ((y : ℕ) → x ≤ y → y < x + m → (y ≢ c.p) × (y ≢ c.q)) → RowSo x out changed → RowSo (x + m) out changed
      unfolding RowSo
      row-so-skip out changed h zero x l apart so ch n f s b e ready v =
          subst (λ (y : ℕ). RowUpTo u after ch (cell_of u cells) n f b d e y out changed) (sym (add-zero x)) (so ch n f s b e ready v)
      row-so-skip out changed h (suc m) x l apart so ch n f s b e ready v =
          let before = row-so-skip out changed h m x (omega arith) (λ y g k. apart y g (omega arith)) so ch n f s b e ready v in
          let a = apart (x + m) (omega arith) (omega arith) in
          subst (λ (y : ℕ). RowUpTo u after ch (cell_of u cells) n f b d e y out changed) (let w : suc (x + m) ≡ x + suc m = omega arith in w)
          (up-to-skip u after ch (cell_of u cells) n f b d e (x + m) out changed before (omega arith)
          (untouched-between i d row digits word ch n f s b e ready v (r.few h) (x + m) (omega arith) a.0 a.1))

      row-skip-to : (out : List ℕ) (changed : ℕ) → every ≡ false → (x x' : ℕ) → x ≤ x' → x' ≤ u → ((y : ℕ) → x ≤ y → y < x' → (y ≢ c.p) × (y ≢ c.q)) → RowSo x out changed → RowSo x' out changed
      row-skip-to out changed h x x' l k apart so =
          let w : x + (x' - x) ≡ x' = omega arith in
          subst (λ (y : ℕ). RowSo y out changed) w (row-so-skip out changed h (x' - x) x (omega arith) (λ y g j. apart y g (omega arith)) so)

      row-so-next : (x : ℕ) (out : List ℕ) (before changed : ℕ) (a : After) → x < u → u ≤ length out → RowSo x out before → PortGives x a
          → changed ≡ (before + a.changed) % 4294967296 → RowSo (suc x) (set out x a.value) changed
      unfolding RowSo PortGives modulus
      row-so-next x out before changed a l room so cell q ch n f s b e ready v =
          up-to-next u after ch (cell_of u cells) n f b d e x out before changed a (so ch n f s b e ready v) l room (cell ch n f s b e ready v) q

      pub row-start : (x : ℕ) → x ≡ cond every 0 c.p → RowPassed every out₀ x out₀ 0
      row-start x q = record {
        reached = reached-first u c r.begins.ready.says.order r.begins.ready.says.below every (λ m. RowSo m out₀ 0) (row-skip-to out₀ 0) x q row-so-none;
        same_length = refl;
      }

      pub row_step : (x x' : ℕ) (out new : List ℕ) (before changed : ℕ) (a : After) → RowPassed every out₀ x out before → x < u → PortGives x a
          → changed ≡ (before + a.changed) % 4294967296 → x' ≡ cond every (x + 1) (cond (ltb x c.q) c.q u) → new ≡ set out x a.value
          → (x < x') × RowPassed every out₀ x' new changed
      row_step x x' out new before changed a s l cell q nx nq =
          let room : u ≤ length out = rw s.same_length r.begins.room in
          let n = reached-next u c r.begins.ready.says.order r.begins.ready.says.below every (λ m. RowSo m new changed)
          (row-skip-to new changed) x x' s.reached.late l
          (subst (λ (ys : List ℕ). RowSo (suc x) ys changed) (sym nq) (row-so-next x out before changed a l room s.reached.so cell q)) nx in
          (n.0, record { reached = n.1; same_length = ap length nq ∙ length-set out x a.value ∙ s.same_length })

      pub row-finished : (x : ℕ) (out : List ℕ) (changed : ℕ) → RowPassed every out₀ x out changed → u ≤ x → RowGives u sets c bytes firsts ends uses masks cells i d row digits word out changed
      unfolding RowGives RowSo
      row-finished x out changed s h ch n f s' b e ready v =
          up-to-all u after ch (cell_of u cells) n f b d e out changed (reached-all u c every (λ m. RowSo m out changed) x s.reached h ch n f s' b e ready v)

    -- a row that goes into a row of sums or minima
    module _ (add : Bool) (old acc : List ℕ) (was : OldRow u firsts cells i row old) where
      pub joins-kept : (out : List ℕ) (used : ℕ) → RowJoinReady u sets c bytes firsts ends uses masks cells i d row digits word acc → used ≡ get_or uses i 0 → meets used word ≡ false
          → out ≡ row_kept add old u acc → RowJoins u sets c bytes firsts ends uses masks cells i d row digits word add acc out 0
      unfolding RowJoins CellsFit renewal_at
      joins-kept out used r us m oq ch n f s b e ready v =
          let is = old_row i d row digits word ch n f s b e ready v old was in
          let low : (x : ℕ) → x < u → get_or old x 0 < modulus = λ x l. rw (is x l) (cells_low u sets c bytes firsts ends uses masks cells ready.cells_fit b (x ∷ e)) in
          row-joined u after ch (cell_of u cells) add n f b d e acc old out 0
          (row-kept u after ch (cell_of u cells) n f b d e old
          (none-touched u sets ch bytes firsts ends uses cells i n f s b d e row digits word v ready.masks-settled.sets16 (ap (λ (y : ℕ). meets y word) (sym us) ∙ m)) is)
          (λ x l. ap (λ (ys : List ℕ). get_or ys x 0) oq ∙ kept_at add u old acc x l (r.low x l) (low x l)
          ∙ taken-same add (get_or acc x 0) (renewal_at old old x) record { hit = true; old = cell_of u cells b (x ∷ e); new = get_or old x 0 } (is x l) refl)

      pub joins-row : (new out : List ℕ) (more : ℕ) → RowGives u sets c bytes firsts ends uses masks cells i d row digits word new more → out ≡ row_taken add new old u acc
          → RowJoins u sets c bytes firsts ends uses masks cells i d row digits word add acc out more
      unfolding RowJoins RowGives renewal_at
      joins-row new out more gives oq ch n f s b e ready v =
          row-joined u after ch (cell_of u cells) add n f b d e acc new out more (gives ch n f s b e ready v)
          (λ x l. ap (λ (ys : List ℕ). get_or ys x 0) oq ∙ taken_at add u new old acc x l
          ∙ taken-same add (get_or acc x 0) (renewal_at new old x) record { hit = true; old = cell_of u cells b (x ∷ e); new = get_or new x 0 }
          (old_row i d row digits word ch n f s b e ready v old was x l) refl)

    -- the ports of a quantifier
    module _ (acc : Sum) (r : PortsReady u sets c bytes firsts ends uses masks cells i d row digits word acc) where
      pub ports-row : (out : List ℕ) → u ≤ length out → Row out
      unfolding tree_count
      ports-row out room = go r.forest r.visit r.one
        where
          go : (f : Forest) → Standing r.change i f r.first d r.tuple row digits word → tree_count f ≡ 1 → Row out
          go none v o = absurd (omega arith)
          go (tree n f s) v o = record {
            change = r.change;
            node = n;
            children = f;
            siblings = s;
            first = r.first;
            tuple = r.tuple;
            ready = r.ready;
            visit = v;
            room = room;
          }

      -- whatever row its numbers will stand in
      pub any-row : Row (tabulate u (λ _. 0))
      any-row = ports-row (tabulate u (λ _. 0)) (rw (length-tabulate u (λ _. 0)) (omega arith))

    abbrev So : Bool → ℕ → Sum → Sum → Type 0
    So add m acc r = PortsSo u sets c bytes firsts ends uses masks cells i d row digits word add m acc r

    pub ports-by-row : (add : Bool) (old new : List ℕ) (more : ℕ) (acc r : Sum) → OldRow u firsts cells i row old
        → RowGives u sets c bytes firsts ends uses masks cells i d row digits word new more → r.value ≡ row_gathered add acc.value new old u
        → r.changed ≡ (acc.changed + more) % 4294967296 → So add u acc r
    unfolding PortsSo RowGives tree_count modulus
    ports-by-row add old new more acc r was gives v m ch none b e ready w o = absurd (omega arith)
    ports-by-row add old new more acc r was gives v m ch (tree n f none) b e ready w o =
        row-gathered u after ch (cell_of u cells) add n f b d e new old more acc r (gives ch n f none b e ready w)
        (old_row i d row digits word ch n f none b e ready w old was) v m
    ports-by-row add old new more acc r was gives v m ch (tree n f (tree n' f' s)) b e ready w o = absurd (omega arith)

    -- the ports of the change alone
    pub pair_of : (acc : Sum) (used rest : ℕ) (every : Bool) → PortsReady u sets c bytes firsts ends uses masks cells i d row digits word acc
        → used ≡ get_or uses i 0 → rest ≡ rest_word word d → every ≡ meets used rest → every ≡ false → PairReady u sets c bytes firsts ends uses masks cells i d row digits word acc
    pair_of acc used rest every r us re ev h = record { ports = r; few = rest-met used rest every us re ev false h }

    pub pair-begin : (acc : Sum) → acc.changed < modulus → So true 0 acc acc
    unfolding PortsSo
    pair-begin acc low ch f b e ready v o = ports-none u after ch (cell_of u cells) true f b d e acc low

    pub pair-next : (x : ℕ) (acc mid r : Sum) (a : After) → So true x acc mid → PortGives x a → Joined true mid a r → So true (suc x) acc r
    unfolding PortsSo PortGives tree_count
    pair-next x acc mid r a so cell joined ch none b e ready v o = absurd (omega arith)
    pair-next x acc mid r a so cell joined ch (tree n f s) b e ready v o =
        port-more u after ch (cell_of u cells) true (tree n f s) b d e x acc mid r (so ch (tree n f s) b e ready v o)
        (one-tree u after ch (cell_of u cells) true n f s b (suc d) (x ∷ e) mid r a o (cell ch n f s b e ready v) joined)

    pair-skip : (acc r : Sum) → acc.value < modulus → meets (get_or uses i 0) (rest_word word d) ≡ false → (m x : ℕ) → x + m ≤ u → ((y : ℕ) → x ≤ y → y < x + m → (y ≢ c.p) × (y ≢ c.q))
        → So true x acc r → So true (x + m) acc r
    unfolding PortsSo tree_count forest_hit touched
    pair-skip acc r low h m x l apart so ch none b e ready v o = absurd (omega arith)
    pair-skip acc r low h m x l apart so ch (tree n f (tree n' f' s)) b e ready v o = absurd (omega arith)
    pair-skip acc r low h zero x l apart so ch (tree n f none) b e ready v o =
        subst (λ (y : ℕ). PortsAfter u after ch (cell_of u cells) true (tree n f none) b d e y acc r) (sym (add-zero x)) (so ch (tree n f none) b e ready v o)
    pair-skip acc r low h (suc m) x l apart so ch (tree n f none) b e ready v o =
        let before = pair-skip acc r low h m x (omega arith) (λ y g k. apart y g (omega arith)) so ch (tree n f none) b e ready v o in
        let a = apart (x + m) (omega arith) (omega arith) in
        subst (λ (y : ℕ). PortsAfter u after ch (cell_of u cells) true (tree n f none) b d e y acc r) (let w : suc (x + m) ≡ x + suc m = omega arith in w)
        (port-skipped u after ch (cell_of u cells) (tree n f none) b d e (x + m) acc r low (cells_low u sets c bytes firsts ends uses masks cells ready.cells_fit)
        (or-false (touched ch n f ((x + m) ∷ e)) false (untouched-between i d row digits word ch n f none b e ready v h (x + m) (omega arith) a.0 a.1) refl) before)

    -- p and q are the ports of the change
    module _ (acc : Sum) (r : PairReady u sets c bytes firsts ends uses masks cells i d row digits word acc) (p q : ℕ) (pe : p ≡ c.p) (qe : q ≡ c.q) where
      pub first-low : p < u
      first-low = omega (arith, pe, r.ports.ready.says.order, r.ports.ready.says.below)

      pub second-low : q < u
      second-low = omega (arith, qe, r.ports.ready.says.below)

      pub pair-to : (s : Sum) (x x' : ℕ) → x ≤ x' → x' ≤ u → ((y : ℕ) → x ≤ y → y < x' → (y ≢ c.p) × (y ≢ c.q)) → So true x acc s → So true x' acc s
      pair-to s x x' l k apart so =
          let w : x + (x' - x) ≡ x' = omega arith in
          subst (λ (y : ℕ). So true y acc s) w (pair-skip acc s r.ports.low r.few (x' - x) x (omega arith) (λ y g j. apart y g (omega arith)) so)

      pub pair-first : So true p acc acc
      pair-first =
          let order = r.ports.ready.says.order in
          pair-to acc 0 p (omega arith) (omega (arith, first-low)) (λ y g l. (λ e. omega (arith, pe), λ e. omega (arith, pe))) (pair-begin acc r.ports.few)

      pub pair-only : (s : Sum) → q ≤ p → So true (suc p) acc s → So true u acc s
      pair-only s h so = pair-to s (suc p) u first-low (omega arith) (λ y g l. (λ e. omega (arith, pe), λ e. omega (arith, qe))) so

      pub pair-second : (s : Sum) → p < q → So true (suc p) acc s → So true q acc s
      pair-second s h so = pair-to s (suc p) q (omega arith) (omega (arith, second-low)) (λ y g l. (λ e. omega (arith, pe), λ e. omega (arith, qe))) so

      pub pair-last : (s : Sum) → p < q → So true (suc q) acc s → So true u acc s
      pair-last s h so = pair-to s (suc q) u second-low (omega arith) (λ y g l. (λ e. omega (arith, pe), λ e. omega (arith, qe))) so

  -- a touched quantifier's cell by the row of its child
  module _ (i d place digits word : ℕ) (q : QuantifierReady u sets c bytes firsts ends uses masks cells i d place digits word) where
    below-ready : PortsReady u sets c bytes firsts ends uses masks cells (i + 1) d (place * u) digits word record { value = begun true (get_or cells (get_or firsts i 0 + place) 0); changed = 0 }
    below-ready =
        ports-ready u sets c bytes firsts ends uses masks cells i d place digits word q (get_or cells (get_or firsts i 0 + place) 0) true
        record { value = begun true (get_or cells (get_or firsts i 0 + place) 0); changed = 0 } refl (refl, refl)

    pub child-row : (out : List ℕ) → u ≤ length out → RowReady u sets c bytes firsts ends uses masks cells (i + 1) d (place * u) digits word out
    child-row = ports-row (i + 1) d (place * u) digits word record { value = begun true (get_or cells (get_or firsts i 0 + place) 0); changed = 0 } below-ready

    pub some-child-row : RowReady u sets c bytes firsts ends uses masks cells (i + 1) d (place * u) digits word (tabulate u (λ _. 0))
    some-child-row = any-row (i + 1) d (place * u) digits word record { value = begun true (get_or cells (get_or firsts i 0 + place) 0); changed = 0 } below-ready

    pub row-quantifier-gives : (old : ℕ) (add : Bool) (before new : List ℕ) (more : ℕ) (r : After) → old ≡ get_or cells (get_or firsts i 0 + place) 0
        → add ≡ eqb (kind_field (record_at bytes i) % 2) 1 → OldRow u firsts cells (i + 1) (place * u) before
        → RowGives u sets c bytes firsts ends uses masks cells (i + 1) d (place * u) digits word new more
        → (r.old ≡ old) × (r.value ≡ row_gathered add (begun add old) new before u) × (r.changed ≡ (indicator (not (eqb r.value old)) + more) % 4294967296)
        → CellGives u sets c bytes firsts ends uses masks cells i d place digits word r
    row-quantifier-gives old add before new more r o ad was gives out =
        let start : Sum = record { value = begun add old; changed = 0 } in
        let sums : Sum = record { value = r.value; changed = (0 + more) % 4294967296 } in
        let differ = indicator (not (eqb r.value old)) in
        let counted : (differ + more) % 4294967296 ≡ (differ + (0 + more) % 4294967296) % 4294967296 = omega arith in
        quantifier-gives u sets c bytes firsts ends uses masks cells i d place digits word q old (kind_field (record_at bytes i)) add start sums r o refl ad (refl, refl)
        (out.0, refl, out.2 ∙ counted) (ports-by-row (i + 1) d (place * u) digits word add before new more start sums was gives out.1 refl)

  -- the rows of a forest's trees
  module _ (i until d row digits word : ℕ) where
    abbrev Rows : List ℕ → ℕ → Type 0
    Rows acc before = RowTreesReady u sets c bytes firsts ends uses masks cells i until d row digits word acc before

    pub rows_left : (add : Bool) (acc : List ℕ) (before : ℕ) → Rows acc before → until ≤ i
        → RowTreesGive u sets c bytes firsts ends uses masks cells i until d row digits word add acc before acc before
    unfolding RowTreesGive node_count
    rows_left add acc before r h ch none b e ready v q = rows_none u after ch (cell_of u cells) add b d e acc before r.few
    rows_left add acc before r h ch (tree n f s) b e ready v q = absurd (omega arith)

    pub row-left : (acc : List ℕ) (before : ℕ) → Rows acc before → i < until → RowJoinReady u sets c bytes firsts ends uses masks cells i d row digits word acc
    unfolding node_count
    row-left acc before r h = go r.forest r.visit r.ends_at
      where
        go : (f : Forest) → Standing r.change i f r.first d r.tuple row digits word → until ≡ i + node_count f → RowJoinReady u sets c bytes firsts ends uses masks cells i d row digits word acc
        go none v q = absurd (omega arith)
        go (tree n f s) v q = record {
          begins = record {
            change = r.change;
            node = n;
            children = f;
            siblings = s;
            first = r.first;
            tuple = r.tuple;
            ready = r.ready;
            visit = v;
            room = r.room;
          };
          low = r.low;
        }

    module _ (next : ℕ) (nx : next ≡ get_or ends i 0) (add : Bool) (acc mid : List ℕ) (before more m : ℕ) (l : i < until)
        (joins : RowJoins u sets c bytes firsts ends uses masks cells i d row digits word add acc mid more) (mq : m ≡ (before + more) % 4294967296) where
      pub rows-ready : Rows acc before → length mid ≡ length acc → (i < next) × RowTreesReady u sets c bytes firsts ends uses masks cells next until d row digits word mid m
      unfolding node_count RowJoins
      rows-ready r same = go r.forest r.visit r.ends_at
        where
          go : (f : Forest) → Standing r.change i f r.first d r.tuple row digits word → until ≡ i + node_count f
              → (i < next) × RowTreesReady u sets c bytes firsts ends uses masks cells next until d row digits word mid m
          go none v q = absurd (omega arith)
          go (tree n f s) v q =
              let at = (at_row i d row digits word r.change n f s r.first r.tuple r.ready v).end_is in
              let j = joins r.change n f s r.first r.tuple r.ready v in (
                omega (arith, nx, at),
                record {
                  change = r.change;
                  forest = s;
                  first = sibling_first u n f r.first (suc d);
                  tuple = r.tuple;
                  ready = r.ready;
                  visit = rw (nx ∙ at) (row_next u sets r.change bytes firsts ends uses cells i n f s r.first d r.tuple row digits word v);
                  ends_at = omega (arith, nx, at, q);
                  room = rw same r.room;
                  low = λ x k. rw (j.numbers x k) (taken-fits add _ _ (r.low x k));
                  few = count-few m _ mq;
                },
              )

      rows-give : (out : List ℕ) (r : ℕ) → RowTreesGive u sets c bytes firsts ends uses masks cells next until d row digits word add mid m out r
          → RowTreesGive u sets c bytes firsts ends uses masks cells i until d row digits word add acc before out r
      unfolding RowTreesGive RowJoins node_count modulus
      rows-give out r rest ch none b e ready v q = absurd (omega arith)
      rows-give out r rest ch (tree n f s) b e ready v q =
          let at = (at_row i d row digits word ch n f s b e ready v).end_is in
          rows_more u after ch (cell_of u cells) add n f s b d e acc mid out before more m r (joins ch n f s b e ready v) mq
          (rest ch s (sibling_first u n f b (suc d)) e ready
          (rw (nx ∙ at) (row_next u sets ch bytes firsts ends uses cells i n f s b d e row digits word v)) (omega (arith, nx, at, q)))

  -- The walk over the rows of a forest's trees stands before node j, with the row and the count so far.
  abbrev pub RowsOnward : ℕ → ℕ → ℕ → ℕ → ℕ → ℕ → Bool → List ℕ → ℕ → List ℕ → ℕ → Type 0
  RowsOnward i until d row digits word add acc j mid m =
      Remaining (λ (n : ℕ) (s : List ℕ × ℕ). RowTreesReady u sets c bytes firsts ends uses masks cells n until d row digits word s.0 s.1 × (length s.0 ≡ length acc))
      (λ (n : ℕ) (s r : List ℕ × ℕ). RowTreesGive u sets c bytes firsts ends uses masks cells n until d row digits word add s.0 s.1 r.0 r.1) i (acc, 0) j (mid, m)

  module _ (i until d row digits word : ℕ) (add : Bool) (acc : List ℕ) where
    pub rows-onward-first : RowTreesReady u sets c bytes firsts ends uses masks cells i until d row digits word acc 0 → RowsOnward i until d row digits word add acc i acc 0
    rows-onward-first r = remains-first _ _ i (acc, 0) (r, refl)

    pub rows-onward-next : (j next : ℕ) (mid mid' : List ℕ) (m more m' : ℕ) → RowsOnward i until d row digits word add acc j mid m → j < until → next ≡ get_or ends j 0
        → RowJoins u sets c bytes firsts ends uses masks cells j d row digits word add mid mid' more → m' ≡ (m + more) % 4294967296 → length mid' ≡ length mid
        → (j < next) × RowsOnward i until d row digits word add acc next mid' m'
    rows-onward-next j next mid mid' m more m' o l nx joins mq same =
        let n = rows-ready j until d row digits word next nx add mid mid' m more m' l joins mq o.ready.0 same in (
          n.0,
          remains-next _ _ i (acc, 0) j next (mid, m) (mid', m') o n.0 (n.1, same ∙ o.ready.1)
              (λ (r : List ℕ × ℕ) h. rows-give j until d row digits word next nx add mid mid' m more m' l joins mq r.0 r.1 h),
        )

    pub rows-onward-last : (j : ℕ) (mid : List ℕ) (m : ℕ) → RowsOnward i until d row digits word add acc j mid m → until ≤ j
        → RowTreesGive u sets c bytes firsts ends uses masks cells i until d row digits word add acc 0 mid m
    rows-onward-last j mid m o h = o.so (mid, m) (rows_left j until d row digits word add mid m o.ready.0 h)
