-- What the walk asks at each of its steps, and what follows from what the steps give. Assumes nothing.
use mathlib.Core.Path.{◌≡◌, refl, sym, ap, ap₂, ◌∙◌, subst}
use mathlib.Core.Bool.{Bool, true, false, not, ◌&&◌}
use mathlib.Core.List.{List, [], ◌∷◌}
use Prim.Native.Nat.{ℕ, suc, ◌+◌, ◌*◌, ◌^◌, ◌%◌, ◌≤◌, ◌<◌}
use native.Mathlib.Nat.{le_trans, pow-le-pow_left, pow-le-pow_right, zero-add, mul-le-mul}
use native.Mathlib.Numerals.{add-one}
use native.Mathlib.Omega.{arith}
use lib.Dec.{eqb, leb}
use lib.ListN.{length, get_or}
use Rattle.logic.specs.Formula.{Literal, Node, lit, Forest, none, tree, kind_number, node_count, child_depth}
use Rattle.logic.specs.inner.Literals.{Every, OfLiteral, OfTest}
use Rattle.logic.specs.Configuration.{Configuration, indicator, configured, in_masks}
use Rattle.logic.specs.Truth.{Tuple}
use Rattle.logic.specs.Penalty.{each_port, sum}
use Rattle.logic.specs.Cells.{place_of, sibling_first}
use Rattle.logic.specs.Change.{Change, touched, modulus, cell_of, renewals}
use Rattle.logic.proofs.Bound.{LiteralsAtMost, literals-low, sizes-64}
use Rattle.logic.proofs.Tables.{place-lt}
use Rattle.table_format.specs.Bytes.{record_length, kind_field, relation_field, a_field, b_field, records_of, record_at, relation_byte, a_byte, b_byte}
use Rattle.table_format.specs.Rules.{tree_count, arity_rule}
use Rattle.table_format.proofs.FieldRules.{literal-children}
use Rattle.cells_touch.specs.declared.Changed.{Changed}
use Rattle.cells_touch.specs.inner.Hits.{meets}
use Rattle.cells_sum.specs.inner.Walk.{adds, begun, gathered, changes, Joined}
use Rattle.cells_sum.specs.declared.After.{After}
use Rattle.cells_sum.specs.declared.Sum.{Sum}
use Rattle.cells_walk.specs.inner.Nodes.{NodeIs, TestFits, NodeFits, Fitting}
use Rattle.cells_walk.specs.inner.Visit.{Visit, CellsFit, CellAfter, RowVisit, TestAt, RecordReady, RecordAfresh, Afresh}
use Rattle.cells_walk.proofs.KindOf.{adds-kind, Quantifier, Joint, quantifier-of, quantifier-few, joint-of, literal-of}
use Rattle.cells_walk.proofs.Visits.{all-constants, node-here, fits-here, node-below, room-here, visit-next, visit-children, visit-ports, touched-here}
use Rattle.cells_walk.proofs.Outcomes.{begun-fits, untouched-after, literal-cell, inner-cell, trees-more, trees-none}
use Rattle.cells_walk.proofs.Remaining.{Remaining, remains-first, remains-next}
use Rattle.cells_visit.specs.inner.Walking.{WalkReady, CellReady, CellTouched, QuantifierReady, CellGives, TreesReady, TreesGive, PortsReady, PortsSo}

pub width_low : (u d : ℕ) → u ≤ 64 → d ≤ 3 → u ^ d ≤ 262144
width_low u d l e = le_trans (pow-le-pow_left l d) (pow-le-pow_right (omega arith) e)

all_fit : (cells : List ℕ) → CellsFit cells → (j : ℕ) → get_or cells j 0 < modulus
unfolding CellsFit
all_fit cells h j = h j

-- a literal has no children
pub no-children : (n : Node) (f : Forest) (l : Literal) → n ≡ lit l → arity_rule (kind_number n) (tree_count f) ≡ true → tree_count f ≡ 0
unfolding kind_number
no-children n f l q h = literal-children l.test (tree_count f) (ap (λ (x : Node). arity_rule (kind_number x) (tree_count f)) (sym q) ∙ h)

zero-few : (x : ℕ) → x ≡ 0 → x < modulus
unfolding modulus
zero-few x h = omega arith

pub rest-few : (x y : ℕ) → x ≡ y % modulus → x < modulus
unfolding modulus
rest-few x y h = omega arith

pub times-fits : (x y : ℕ) → (x < 262144) × (y ≤ 64) → x * y < 18446744073709551616
times-fits x y h =
    let l : x ≤ 262144 = omega (arith, h.0) in
    let p : x * y ≤ 262144 * 64 = mul-le-mul l h.1 in
    omega arith

one-sum : (x : ℕ) → 0 + x ≡ sum (x ∷ [])
unfolding sum
one-sum x = omega arith

first-tree : (f : Forest) (d sets : ℕ) → tree_count f ≡ 1 → Fitting sets f d → d ≤ 3
unfolding tree_count Fitting Every
first-tree none d sets h v = absurd (omega arith)
first-tree (tree n c s) d sets h v = v.0.depth3

some-node : (f : Forest) → tree_count f ≡ 1 → 1 ≤ node_count f
unfolding tree_count node_count
some-node none h = absurd (omega arith)
some-node (tree n c s) h = omega arith

module _ (u sets : ℕ) (c : Changed) (bytes firsts ends uses masks cells : List ℕ) where
  abbrev after : Configuration
  after = configured u sets (in_masks masks)

  abbrev Standing : Change → ℕ → Forest → ℕ → ℕ → Tuple → ℕ → ℕ → ℕ → Type 0
  Standing ch i f b d e place digits word = Visit u sets ch bytes firsts ends uses cells i f b d e place digits word

  pub cells_low : CellsFit cells → (b : ℕ) (e : Tuple) → cell_of u cells b e < modulus
  unfolding cell_of CellsFit
  cells_low h b e = h (b + place_of u e)

  module _ (i d place digits word : ℕ) where
    -- what a visited cell says of itself
    module _ (ch : Change) (n : Node) (f s : Forest) (b : ℕ) (e : Tuple) (ready : WalkReady u sets c masks cells ch)
        (v : Standing ch i (tree n f s) b d e place digits word) where
      pub here : NodeIs bytes firsts ends uses i n f b
      here = node-here u sets ch bytes firsts ends uses cells i n f s b d e place digits word v

      pub fits : NodeFits sets n f d
      fits = fits-here u sets ch bytes firsts ends uses cells i n f s b d e place digits word v

      old-here : (old : ℕ) → old ≡ get_or cells (get_or firsts i 0 + place) 0 → old ≡ cell_of u cells b e
      unfolding cell_of
      old-here old h = h ∙ ap₂ (λ (x y : ℕ). get_or cells (x + y) 0) here.first-is v.place_is

      pub touched-is : (used : ℕ) (x : Bool) → used ≡ get_or uses i 0 → meets used word ≡ x → touched ch n f e ≡ x
      touched-is used x h m =
          touched-here u sets ch bytes firsts ends uses cells i n f s b d e place digits word v ready.masks-settled.sets16 ∙ ap (λ (y : ℕ). meets y word) (sym h) ∙ m

      literals : LiteralsAtMost 65 after f (child_depth n d)
      unfolding Fitting Every
      literals = literals-low after (sizes-64 u sets (in_masks masks) ready.masks-settled.ports64) f (child_depth n d) (all-constants sets f (child_depth n d) v.fitting.1)

      place-fits : place < 262144
      place-fits =
          omega (arith, v.place_is, place-lt u ready.masks-settled.ports1 v.tuple, width_low u d ready.masks-settled.ports64 fits.depth3)

      -- the children of a quantifier, and of another inner node
      pub one-here : Quantifier n → tree_count f ≡ 1
      one-here q = q.one (tree_count f) fits.children

      pub ports-here : Quantifier n → RowVisit u sets ch bytes firsts ends uses cells (i + 1) f (b + u ^ d) d e (place * u) digits word
      unfolding Fitting Every
      ports-here q =
          let low : suc d ≤ 3 = first-tree f (suc d) sets (one-here q) (subst (λ (x : ℕ). Every (NodeFits sets) f x) (q.deeper d) v.fitting.1) in
          rw (add-one i) (visit-ports u sets ch bytes firsts ends uses cells i n f s b d e place digits word v (q.deeper d) low)

      pub trees-here : Joint n → Standing ch (i + 1) f (b + u ^ d) d e place digits word
      trees-here q = rw (add-one i) (visit-children u sets ch bytes firsts ends uses cells i n f s b d e place digits word v (q.level d))

      pub end-here : (end : ℕ) → end ≡ get_or ends i 0 → end ≡ i + 1 + node_count f
      end-here end h = h ∙ here.end_is ∙ (let w : i + suc (node_count f) ≡ i + 1 + node_count f = omega arith in w)

      -- a literal's record
      pub literal-here : (l : Literal) → n ≡ lit l → TestAt u sets d (kind_field (record_at bytes i)) (relation_field (record_at bytes i)) (a_field (record_at bytes i)) (b_field (record_at bytes i)) masks digits l.test e
      unfolding OfLiteral kind_number relation_byte a_byte b_byte
      literal-here l q = record {
        kind-is = here.kind-is ∙ ap kind_number q;
        relation-is = here.relation-is ∙ ap relation_byte q;
        a-is = here.a-is ∙ ap a_byte q;
        b-is = here.b-is ∙ ap b_byte q;
        fits = subst (OfTest (TestFits sets d)) q fits.literal;
        depth3 = fits.depth3;
        tuple = v.tuple;
        digits_are = v.digits_are;
      }

    -- what the steps at a cell ask
    module _ (r : CellReady u sets c bytes firsts ends uses masks cells i d place digits word) where
      abbrev node-ready : NodeIs bytes firsts ends uses i r.node r.children r.first
      node-ready = here r.change r.node r.children r.siblings r.first r.tuple r.ready r.visit

      pub node-low : i < 512
      node-low = node-below u sets r.change bytes firsts ends uses cells i r.node r.children r.siblings r.first d r.tuple place digits word r.visit

      pub cell_room : get_or firsts i 0 + place < length cells
      cell_room = room-here u sets r.change bytes firsts ends uses cells i r.node r.children r.siblings r.first d r.tuple place digits word r.visit r.ready.masks-settled.ports1

      pub record-room : record_length * i + record_length ≤ length (records_of bytes)
      record-room = node-ready.whole

      pub place-low : (place < 262144) × (u ≤ 64)
      place-low = (place-fits r.change r.node r.children r.siblings r.first r.tuple r.ready r.visit, r.ready.masks-settled.ports64)

      pub touched-ready : (used : ℕ) (met : Bool) → used ≡ get_or uses i 0 → met ≡ meets used word → met ≡ true
          → CellTouched u sets c bytes firsts ends uses masks cells i d place digits word
      touched-ready used met us m h = record { begins = r; touched = ap (λ (x : ℕ). meets x word) (sym us) ∙ sym m ∙ h }

      pub literal-ready : (kind : ℕ) → kind ≡ kind_field (record_at bytes i) → 5 ≤ kind → RecordReady u sets d bytes i masks digits
      literal-ready kind q h =
          let l = literal-of r.node kind (q ∙ node-ready.kind-is) h in
          record {
            whole = record-room;
            literal = record {
              literal = l.0;
              ports = r.tuple;
              at = literal-here r.change r.node r.children r.siblings r.first r.tuple r.ready r.visit l.0 l.1;
              settled = r.ready.masks-settled;
            };
          }

      pub quantifier-ready : (used : ℕ) (met : Bool) (kind : ℕ) → used ≡ get_or uses i 0 → met ≡ meets used word → met ≡ true → kind ≡ kind_field (record_at bytes i)
          → (leb 1 kind && leb kind 2) ≡ true → QuantifierReady u sets c bytes firsts ends uses masks cells i d place digits word
      quantifier-ready used met kind us m h kd q =
          record { cell = touched-ready used met us m h; quantifier = ap (λ (x : ℕ). leb 1 x && leb x 2) (sym kd) ∙ q }

      module _ (old kind : ℕ) (add : Bool) (start : Sum) (kd : kind ≡ kind_field (record_at bytes i)) (st : (start.value ≡ begun add old) × (start.changed ≡ 0)) where
        pub trees-ready : (end : ℕ) → end ≡ get_or ends i 0 → kind < 5 → (leb 1 kind && leb kind 2) ≡ false
            → TreesReady u sets c bytes firsts ends uses masks cells (i + 1) end d place digits word start
        trees-ready end en l h = record {
          change = r.change;
          forest = r.children;
          first = r.first + u ^ d;
          tuple = r.tuple;
          ready = r.ready;
          visit = trees-here r.change r.node r.children r.siblings r.first r.tuple r.ready r.visit
              (joint-of r.node kind (kd ∙ node-ready.kind-is) l h);
          ends_at = end-here r.change r.node r.children r.siblings r.first r.tuple r.ready r.visit end en;
          few = zero-few start.changed st.1;
        }

    -- what the steps at a quantifier's cell ask
    module _ (r : QuantifierReady u sets c bytes firsts ends uses masks cells i d place digits word) where
      abbrev at : CellReady u sets c bytes firsts ends uses masks cells i d place digits word
      at = r.cell.begins

      abbrev binds : Quantifier at.node
      binds = quantifier-of at.node (kind_field (record_at bytes i)) (node-ready at).kind-is r.quantifier

      abbrev child-visit : RowVisit u sets at.change bytes firsts ends uses cells (i + 1) at.children (at.first + u ^ d) d at.tuple (place * u) digits word
      child-visit = ports-here at.change at.node at.children at.siblings at.first at.tuple at.ready at.visit binds

      abbrev one-child : tree_count at.children ≡ 1
      one-child = one-here at.change at.node at.children at.siblings at.first at.tuple at.ready at.visit binds

      pub child-low : i + 1 < 512
      child-low = omega (arith, child-visit.nodes, some-node at.children one-child)

      pub ports-ready : (old : ℕ) (add : Bool) (start : Sum) → old ≡ get_or cells (get_or firsts i 0 + place) 0 → (start.value ≡ begun add old) × (start.changed ≡ 0)
          → PortsReady u sets c bytes firsts ends uses masks cells (i + 1) d (place * u) digits word start
      ports-ready old add start o st = record {
        change = at.change;
        forest = at.children;
        first = at.first + u ^ d;
        tuple = at.tuple;
        ready = at.ready;
        visit = child-visit;
        one = one-child;
        few = zero-few start.changed st.1;
        low = rw st.0 (begun-fits add old (rw o (all_fit cells at.ready.cells_fit (get_or firsts i 0 + place))));
      }

    -- what the steps at a cell come to
    module _ (old used : ℕ) (o : old ≡ get_or cells (get_or firsts i 0 + place) 0) (us : used ≡ get_or uses i 0) where
      pub gives-untouched : (r : After) → meets used word ≡ false → r.old ≡ old → r.value ≡ old → r.changed ≡ 0
          → CellGives u sets c bytes firsts ends uses masks cells i d place digits word r
      unfolding CellGives
      gives-untouched r m ro rv rc ch n f s b e ready v =
          untouched-after u after ch (cell_of u cells) n f b d e r (touched-is ch n f s b e ready v used false us m) (ro ∙ old-here ch n f s b e ready v old o) (rv ∙ sym ro) rc

      gives-lit : (used' value : ℕ) (r : After) → used' ≡ get_or uses i 0 → meets used' word ≡ true → RecordAfresh u sets d bytes i masks digits value
          → (r.old ≡ old) × (r.value ≡ value) × (r.changed ≡ (indicator (not (eqb value old)) + 0) % 4294967296)
          → (ch : Change) (n : Node) (f s : Forest) (b : ℕ) (e : Tuple) (ready : WalkReady u sets c masks cells ch)
          (v : Standing ch i (tree n f s) b d e place digits word) (l : Literal) → n ≡ lit l → CellAfter u after ch (cell_of u cells) n f b d e r
      unfolding RecordAfresh Afresh modulus
      gives-lit used' value r us' m fresh cl ch n f s b e ready v l q =
          subst (λ (x : Node). CellAfter u after ch (cell_of u cells) x f b d e r) (sym q)
          (literal-cell u after ch (cell_of u cells) l f b d e r (ap (λ (x : Node). touched ch x f e) (sym q) ∙ touched-is ch n f s b e ready v used' true us' m)
          (no-children n f l q (fits ch n f s b e ready v).children) (cl.0 ∙ old-here ch n f s b e ready v old o)
          (cl.1 ∙ fresh l e (literal-here ch n f s b e ready v l q))
          (cl.2 ∙ ap₂ (λ (x y : ℕ). (indicator (not (eqb x y)) + 0) % 4294967296) (sym cl.1) (sym cl.0)))

      module _ (kind : ℕ) (m : meets used word ≡ true) (kd : kind ≡ kind_field (record_at bytes i)) where
        pub gives-literal : (value : ℕ) (r : After) → 5 ≤ kind → RecordAfresh u sets d bytes i masks digits value
            → (r.old ≡ old) × (r.value ≡ value) × (r.changed ≡ (indicator (not (eqb value old)) + 0) % 4294967296)
            → CellGives u sets c bytes firsts ends uses masks cells i d place digits word r
        unfolding CellGives
        gives-literal value r h fresh cl ch n f s b e ready v =
            let l = literal-of n kind (kd ∙ (here ch n f s b e ready v).kind-is) h in
            gives-lit used value r us m fresh cl ch n f s b e ready v l.0 l.1

        module _ (add : Bool) (start sums : Sum) (r : After) (ad : add ≡ eqb (kind % 2) 1)
            (st : (start.value ≡ begun add old) × (start.changed ≡ 0))
            (cl : (r.old ≡ old) × (r.value ≡ sums.value) × (r.changed ≡ (indicator (not (eqb sums.value old)) + sums.changed) % 4294967296)) where
          pub gives-ports : (leb 1 kind && leb kind 2) ≡ true
              → PortsSo u sets c bytes firsts ends uses masks cells (i + 1) d (place * u) digits word add u start sums
              → CellGives u sets c bytes firsts ends uses masks cells i d place digits word r
          unfolding CellGives PortsSo modulus
          gives-ports h so ch n f s b e ready v =
              let q = quantifier-of n kind (kd ∙ (here ch n f s b e ready v).kind-is) h in
              let p = so ch f (b + u ^ d) e ready (ports-here ch n f s b e ready v q) (one-here ch n f s b e ready v q) in
              let ol = old-here ch n f s b e ready v old o in
              let an = ad ∙ adds-kind n kind (kd ∙ (here ch n f s b e ready v).kind-is) (quantifier-few kind h) in
              inner-cell u after ch (cell_of u cells) ready.masks-settled.ports1 (cells_low ready.cells_fit) n f b d e r sums (literals ch n f s b e ready v) q.inner
              (fits ch n f s b e ready v).children (touched-is ch n f s b e ready v used true us m) (cl.0 ∙ ol)
              (p.value-is ∙ ap₂ (λ (x : Bool) (y : ℕ). gathered x y (each_port u (λ z. renewals u after ch (cell_of u cells) f (b + u ^ d) (suc d) (z ∷ e)))) an (st.0 ∙ ap₂ begun an ol)
              ∙ ap (gathered (adds n) (begun (adds n) (cell_of u cells b e)))
              (sym (q.renewed u e (renewals u after ch (cell_of u cells) f (b + u ^ d) (child_depth n d)) ∙ ap (λ (x : ℕ). each_port u (λ z. renewals u after ch (cell_of u cells) f (b + u ^ d) x (z ∷ e))) (q.deeper d))))
              (p.changed-is ∙ ap (λ (x : ℕ). (x + sum (each_port u (λ z. changes u after ch (cell_of u cells) f (b + u ^ d) (suc d) (z ∷ e) ∷ []))) % 4294967296) st.1
              ∙ ap (λ (x : ℕ). x % 4294967296) (zero-add _
              ∙ ap sum (sym (q.counted u e (λ x. changes u after ch (cell_of u cells) f (b + u ^ d) (child_depth n d) x ∷ [])
              ∙ ap (λ (x : ℕ). each_port u (λ z. changes u after ch (cell_of u cells) f (b + u ^ d) x (z ∷ e) ∷ [])) (q.deeper d)))))
              cl.1 (cl.2 ∙ ap (λ (x : ℕ). (indicator (not (eqb sums.value x)) + sums.changed) % 4294967296) (sym cl.0))

          pub gives-trees : (end : ℕ) → end ≡ get_or ends i 0 → kind < 5 → (leb 1 kind && leb kind 2) ≡ false
              → TreesGive u sets c bytes firsts ends uses masks cells (i + 1) end d place digits word add start sums
              → CellGives u sets c bytes firsts ends uses masks cells i d place digits word r
          unfolding CellGives TreesGive modulus
          gives-trees end en few h so ch n f s b e ready v =
              let q = joint-of n kind (kd ∙ (here ch n f s b e ready v).kind-is) few h in
              let p = so ch f (b + u ^ d) e ready (trees-here ch n f s b e ready v q) (end-here ch n f s b e ready v end en) in
              let ol = old-here ch n f s b e ready v old o in
              let an = ad ∙ adds-kind n kind (kd ∙ (here ch n f s b e ready v).kind-is) few in
              inner-cell u after ch (cell_of u cells) ready.masks-settled.ports1 (cells_low ready.cells_fit) n f b d e r sums (literals ch n f s b e ready v) q.inner
              (fits ch n f s b e ready v).children (touched-is ch n f s b e ready v used true us m) (cl.0 ∙ ol)
              (p.value-is ∙ ap₂ (λ (x : Bool) (y : ℕ). gathered x y (renewals u after ch (cell_of u cells) f (b + u ^ d) d e)) an (st.0 ∙ ap₂ begun an ol)
              ∙ ap (gathered (adds n) (begun (adds n) (cell_of u cells b e)))
              (sym (q.renewed u e (renewals u after ch (cell_of u cells) f (b + u ^ d) (child_depth n d)) ∙ ap (λ (x : ℕ). renewals u after ch (cell_of u cells) f (b + u ^ d) x e) (q.level d))))
              (p.changed-is ∙ ap (λ (x : ℕ). (x + changes u after ch (cell_of u cells) f (b + u ^ d) d e) % 4294967296) st.1
              ∙ ap (λ (x : ℕ). x % 4294967296) (one-sum _
              ∙ ap sum (sym (q.counted u e (λ x. changes u after ch (cell_of u cells) f (b + u ^ d) (child_depth n d) x ∷ [])
              ∙ ap (λ (x : ℕ). changes u after ch (cell_of u cells) f (b + u ^ d) x e ∷ []) (q.level d)))))
              cl.1 (cl.2 ∙ ap (λ (x : ℕ). (indicator (not (eqb sums.value x)) + sums.changed) % 4294967296) (sym cl.0))

    pub quantifier-gives : QuantifierReady u sets c bytes firsts ends uses masks cells i d place digits word → (old kind : ℕ) (add : Bool) (start sums : Sum) (r : After)
        → old ≡ get_or cells (get_or firsts i 0 + place) 0 → kind ≡ kind_field (record_at bytes i) → add ≡ eqb (kind % 2) 1 → (start.value ≡ begun add old) × (start.changed ≡ 0)
        → (r.old ≡ old) × (r.value ≡ sums.value) × (r.changed ≡ (indicator (not (eqb sums.value old)) + sums.changed) % 4294967296)
        → PortsSo u sets c bytes firsts ends uses masks cells (i + 1) d (place * u) digits word add u start sums
        → CellGives u sets c bytes firsts ends uses masks cells i d place digits word r
    quantifier-gives q old kind add start sums r o kd ad st cl so =
        gives-ports old (get_or uses i 0) o refl kind q.cell.touched kd add start sums r ad st cl (ap (λ (x : ℕ). leb 1 x && leb x 2) kd ∙ q.quantifier) so

  -- the trees of a forest
  module _ (i until d place digits word : ℕ) where
    abbrev Trees : Sum → Type 0
    Trees acc = TreesReady u sets c bytes firsts ends uses masks cells i until d place digits word acc

    pub none_left : (add : Bool) (acc : Sum) → Trees acc → until ≤ i → TreesGive u sets c bytes firsts ends uses masks cells i until d place digits word add acc acc
    unfolding TreesGive node_count
    none_left add acc r h ch none b e ready v q = trees-none u after ch (cell_of u cells) add b d e acc r.few
    none_left add acc r h ch (tree n f s) b e ready v q = absurd (omega arith)

    pub some_left : (acc : Sum) → Trees acc → i < until → CellReady u sets c bytes firsts ends uses masks cells i d place digits word
    unfolding node_count
    some_left acc r h = go r.forest r.visit r.ends_at
      where
        go : (f : Forest) → Standing r.change i f r.first d r.tuple place digits word → until ≡ i + node_count f
            → CellReady u sets c bytes firsts ends uses masks cells i d place digits word
        go none v q = absurd (omega arith)
        go (tree n f s) v q = record {
          change = r.change;
          node = n;
          children = f;
          siblings = s;
          first = r.first;
          tuple = r.tuple;
          ready = r.ready;
          visit = v;
        }

    module _ (next : ℕ) (nx : next ≡ get_or ends i 0) where
      pub next-ready : (acc mid : Sum) → Trees acc → mid.changed < modulus → i < until → (i < next) × TreesReady u sets c bytes firsts ends uses masks cells next until d place digits word mid
      unfolding node_count
      next-ready acc mid r few h = go r.forest r.visit r.ends_at
        where
          go : (f : Forest) → Standing r.change i f r.first d r.tuple place digits word → until ≡ i + node_count f
              → (i < next) × TreesReady u sets c bytes firsts ends uses masks cells next until d place digits word mid
          go none v q = absurd (omega arith)
          go (tree n f s) v q =
              let at = (here i d place digits word r.change n f s r.first r.tuple r.ready v).end_is in (
                omega (arith, nx, at),
                record {
                  change = r.change;
                  forest = s;
                  first = sibling_first u n f r.first d;
                  tuple = r.tuple;
                  ready = r.ready;
                  visit = rw (nx ∙ at) (visit-next u sets r.change bytes firsts ends uses cells i n f s r.first d r.tuple place digits word v);
                  ends_at = omega (arith, nx, at, q);
                  few = few;
                },
              )

      pub trees-give : (add : Bool) (acc mid r : Sum) (x : After) → i < until → CellGives u sets c bytes firsts ends uses masks cells i d place digits word x
          → Joined add acc x mid → TreesGive u sets c bytes firsts ends uses masks cells next until d place digits word add mid r
          → TreesGive u sets c bytes firsts ends uses masks cells i until d place digits word add acc r
      unfolding TreesGive CellGives node_count
      trees-give add acc mid r x h cell joined rest ch none b e ready v q = absurd (omega arith)
      trees-give add acc mid r x h cell joined rest ch (tree n f s) b e ready v q =
          let at = (here i d place digits word ch n f s b e ready v).end_is in
          trees-more u after ch (cell_of u cells) add n f s b d e acc mid r x (cell ch n f s b e ready v) joined
          (rest ch s (sibling_first u n f b d) e ready
          (rw (nx ∙ at) (visit-next u sets ch bytes firsts ends uses cells i n f s b d e place digits word v)) (omega (arith, nx, at, q)))

    -- a cell's outcome has gone into the sum or minimum so far
    pub record Stepped (add : Bool) (acc mid : Sum) : Type 0 where
      pub found : After
      pub gives : CellGives u sets c bytes firsts ends uses masks cells i d place digits word found
      pub joined : Joined add acc found mid

  -- The walk over a forest's trees stands before node j, with the sum so far.
  abbrev pub Onward : ℕ → ℕ → ℕ → ℕ → ℕ → ℕ → Bool → Sum → ℕ → Sum → Type 0
  Onward i until d place digits word add acc j sum =
      Remaining (λ n s. TreesReady u sets c bytes firsts ends uses masks cells n until d place digits word s)
      (λ n s r. TreesGive u sets c bytes firsts ends uses masks cells n until d place digits word add s r) i acc j sum

  module _ (i until d place digits word : ℕ) (add : Bool) (acc : Sum) where
    pub onward-first : TreesReady u sets c bytes firsts ends uses masks cells i until d place digits word acc
        → Onward i until d place digits word add acc i acc
    onward-first r = remains-first _ _ i acc r

    pub onward-next : (j next : ℕ) (sum mid : Sum) → Onward i until d place digits word add acc j sum → j < until → next ≡ get_or ends j 0
        → Stepped j until d place digits word add sum mid → (j < next) × Onward i until d place digits word add acc next mid
    onward-next j next sum mid o l nx st =
        let n = next-ready j until d place digits word next nx sum mid o.ready (rest-few mid.changed _ st.joined.changed-is) l in (
          n.0,
          remains-next _ _ i acc j next sum mid o n.0 n.1 (λ r h. trees-give j until d place digits word next nx add sum mid r st.found l st.gives st.joined h),
        )

    pub onward-last : (j : ℕ) (sum : Sum) → Onward i until d place digits word add acc j sum → until ≤ j
        → TreesGive u sets c bytes firsts ends uses masks cells i until d place digits word add acc sum
    onward-last j sum o h = o.so sum (none_left j until d place digits word add sum o.ready h)
