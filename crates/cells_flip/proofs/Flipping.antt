-- What the evaluator asks where it stands before a tree or a forest, and what follows from what its steps give. Assumes nothing.
use mathlib.Core.Path.{◌≡◌, refl, sym, ap, ap₂, ◌∙◌, subst}
use mathlib.Core.Bool.{Bool, true, false, cond, ◌&&◌}
use mathlib.Core.List.{List}
use Prim.Native.Nat.{ℕ, suc, ◌+◌, ◌-◌, ◌*◌, ◌^◌, ◌%◌, ◌≤◌, ◌<◌}
use native.Mathlib.Numerals.{add-one}
use native.Mathlib.Omega.{arith}
use lib.Bits.{bit_or, or_zero_r}
use lib.Dec.{eqb, leb}
use lib.ListN.{length, get_or, drop, length-drop}
use lib.Seq.{get_or-drop}
use Rattle.logic.specs.Formula.{Literal, Node, lit, Forest, none, tree, kind_number, node_count, child_depth}
use Rattle.logic.specs.inner.Literals.{Every, OfLiteral, OfTest}
use Rattle.logic.specs.Configuration.{Configuration, in_mask}
use Rattle.logic.specs.Truth.{Tuple}
use Rattle.logic.specs.Penalty.{literal_penalty, combine, below}
use Rattle.logic.specs.Cells.{place_of, cell_count, sibling_first}
use Rattle.logic.specs.Change.{Change, hit, touched, modulus, cell_of, renew, renewals, new_cell}
use Rattle.logic.proofs.Changed.{untouched-kept}
use Rattle.logic.proofs.Tables.{length-tuple, place-lt}
use Rattle.table_format.specs.Bytes.{record_length, records_of, kind_field, record_at, relation_byte, a_byte, b_byte}
use Rattle.table_format.specs.Rules.{tree_count, arity_rule}
use Rattle.table_format.specs.inner.Index.{test_uses, node_uses, forest_uses}
use Rattle.table_format.proofs.FieldRules.{literal-children}
use Rattle.table_format.proofs.Laid.{width_low}
use Rattle.cells_touch.specs.inner.Hits.{meets}
use Rattle.cells_sum.specs.inner.Walk.{adds, begun, taken, gathered}
use Rattle.cells_sum.proofs.Sums.{taken-same}
use Rattle.cells_row.specs.inner.Row.{row_of, ZeroRow, row_taken, row_kept, renewal_at}
use Rattle.cells_row.proofs.Rows.{row_at, taken_at, kept_at}
use Rattle.cells_row.proofs.Zeros.{gathered-done}
use Rattle.cells_walk.specs.inner.Nodes.{NodeIs, IndexHolds, TestFits, NodeFits, Fitting}
use Rattle.cells_walk.specs.inner.Visit.{CellsFit}
use Rattle.cells_walk.proofs.Gather.{new-cell-gathered}
use Rattle.cells_walk.proofs.KindOf.{adds-kind, Joint, joint-of, literal-of}
use Rattle.cells_walk.proofs.Outcomes.{begun-fits, taken-fits, no-trees}
use Rattle.cells_walk.proofs.Remaining.{Remaining, remains-first, remains-next}
use Rattle.cells_flip.specs.inner.Flips.{WordFor, Flipped, NoQuantifier, Flat, FlipVisit, FlipReady, FlipGives}
use Rattle.cells_flip.specs.inner.Steps.{RecordOf, LiteralReady, LiteralGives, JoinReady, Joins, TreesReady, TreesGive}
use Rattle.cells_flip.proofs.Words.{Within, within-left, within-right, word-part, flipped-part, same-level, touched-told, asks_set, test-flipped, literals-66}

cells_low : (u : ℕ) (cells : List ℕ) → CellsFit cells → (b : ℕ) (e : Tuple) → cell_of u cells b e < modulus
unfolding cell_of CellsFit
cells_low u cells h b e = h (b + place_of u e)

small : 66 < modulus
unfolding modulus
small = omega arith

after-node : (i m : ℕ) → i + suc m ≡ i + 1 + m
after-node i m = omega arith

-- a visited tree
module _ {u sets : ℕ} {bytes firsts ends uses cells : List ℕ} {i : ℕ} {n : Node} {c s : Forest} {b d count own row digits : ℕ} {at : ℕ → Tuple}
    (v : FlipVisit u sets bytes firsts ends uses cells i (tree n c s) b d count own row digits at) where
  node-here : NodeIs bytes firsts ends uses i n c b
  unfolding IndexHolds
  node-here = v.holds.0

  fits-here : NodeFits sets n c d
  unfolding Fitting Every
  fits-here = v.fitting.0

  flat-here : NoQuantifier n
  unfolding Flat Every
  flat-here = v.flat.0

  below-512 : i < 512
  unfolding node_count
  below-512 = omega (arith, v.nodes)

  -- the later siblings, and the children
  visit-next : FlipVisit u sets bytes firsts ends uses cells (i + suc (node_count c)) s (sibling_first u n c b d) d count own row digits at
  unfolding IndexHolds Fitting Flat Every node_count cell_count sibling_first
  visit-next = record {
    holds = v.holds.2;
    fitting = v.fitting.2;
    flat = v.flat.2;
    line = v.line;
    room = omega (arith, v.room);
    nodes = omega (arith, v.nodes);
  }

  visit-children : FlipVisit u sets bytes firsts ends uses cells (i + 1) c (b + u ^ d) d count own row digits at
  unfolding IndexHolds Fitting Flat Every node_count cell_count
  visit-children =
      let q = same-level n d flat-here in
      rw (add-one i) record {
        holds = subst (λ (x : ℕ). IndexHolds u bytes firsts ends uses (suc i) c (b + u ^ d) x) q v.holds.1;
        fitting = subst (λ (x : ℕ). Every (NodeFits sets) c x) q v.fitting.1;
        flat = subst (λ (x : ℕ). Every (λ n c i. NoQuantifier n) c x) q v.flat.1;
        line = v.line;
        room = omega (arith, v.room, ap (cell_count u c) q);
        nodes = omega (arith, v.nodes);
      }

  -- where its cells stand
  module _ (u1 : 1 ≤ u) where
    row_low : u ≤ 64 → row ≤ 16777216
    row_low h = omega (arith, v.line.places 0 v.line.some, place-lt u u1 (v.line.tuples 0 v.line.some), width_low u d u1 h fits-here.depth3)

    row_within : get_or firsts i 0 + row + count ≤ length cells
    unfolding cell_count
    row_within =
        let l : count - 1 < count = omega (arith, v.line.some) in
        omega (arith, v.room, node-here.first-is, v.line.places (count - 1) l, place-lt u u1 (v.line.tuples (count - 1) l))

  pub old-here : (from : ℕ) (old : List ℕ) → from ≡ get_or firsts i 0 + row → old ≡ drop from cells → (x : ℕ) → x < count → get_or old x 0 ≡ cell_of u cells b (at x)
  unfolding cell_of
  old-here from old q p x l =
      ap (λ (ys : List ℕ). get_or ys x 0) p ∙ get_or-drop from cells x 0
      ∙ ap (λ (y : ℕ). get_or cells y 0) (let w : from + x ≡ b + place_of u (at x) = omega (arith, q, node-here.first-is, v.line.places x l) in w)

  -- which of them are touched
  touched-here : sets ≤ 16 → (word x : ℕ) → x < count → (ch : Change) → WordFor (get_or uses i 0) ch (at x) word → touched ch n c (at x) ≡ meets (get_or uses i 0) word
  touched-here h word x l ch f =
      touched-told ch (at x) word sets h n c s d (length-tuple (v.line.tuples x l)) v.fitting v.flat
      (subst (λ (y : ℕ). WordFor y ch (at x) word) node-here.uses-are f)
      ∙ ap (λ (y : ℕ). meets y word) (sym node-here.uses-are)

  -- its literal
  module _ (l : Literal) (q : n ≡ lit l) where
    leaf-uses : get_or uses i 0 ≡ test_uses l.test
    unfolding node_uses forest_uses kind_number
    leaf-uses =
        let z = literal-children l.test (tree_count c) (ap (λ (x : Node). arity_rule (kind_number x) (tree_count c)) (sym q) ∙ fits-here.children) in
        node-here.uses-are ∙ ap₂ (λ (x : Node) (f : Forest). bit_or (node_uses x) (forest_uses f)) q (no-trees c z) ∙ or_zero_r (test_uses l.test)

    record-here : RecordOf sets d bytes i l.test
    unfolding kind_number relation_byte a_byte b_byte OfLiteral
    record-here = record {
      whole = node-here.whole;
      kind-is = node-here.kind-is ∙ ap kind_number q;
      relation-is = node-here.relation-is ∙ ap relation_byte q;
      a-is = node-here.a-is ∙ ap a_byte q;
      b-is = node-here.b-is ∙ ap b_byte q;
      fits = subst (OfTest (TestFits sets d)) q fits-here.literal;
      depth3 = fits-here.depth3;
    }

-- the cell of a literal that is hit
literal-new : (u : ℕ) (k : Configuration) (ch : Change) (cells : List ℕ) (n : Node) (l : Literal) (c : Forest) (b d : ℕ) (e : Tuple) → n ≡ lit l → touched ch n c e ≡ true
    → literal_penalty k l e ≡ new_cell u k ch (cell_of u cells) n c b d e
unfolding new_cell renew combine
literal-new u k ch cells n l c b d e q h =
    subst (λ (y : Node). literal_penalty k l e ≡ new_cell u k ch (cell_of u cells) y c b d e) (sym q)
    (sym (ap (λ (x : Bool). cond x (literal_penalty k l e) (cell_of u cells b e)) (ap (λ (y : Node). touched ch y c e) (sym q) ∙ h)))

-- the cell of an "and" or "or" that is touched, from its children's
joint-new : (u sets : ℕ) → 1 ≤ u → (k : Configuration) → ((S : ℕ) → k.size S ≤ 65) → (ch : Change) (cells : List ℕ) → CellsFit cells → (n : Node) (c : Forest) (b d : ℕ) (e : Tuple)
    → Joint n → Fitting sets c d → arity_rule (kind_number n) (tree_count c) ≡ true → touched ch n c e ≡ true
    → gathered (adds n) (begun (adds n) (cell_of u cells b e)) (renewals u k ch (cell_of u cells) c (b + u ^ d) d e) ≡ new_cell u k ch (cell_of u cells) n c b d e
joint-new u sets u1 k low ch cells fit n c b d e q fits ar h =
    let g = renewals u k ch (cell_of u cells) c (b + u ^ d) in
    let below-is : below u n e (g (child_depth n d)) ≡ g d e = q.renewed u e (g (child_depth n d)) ∙ ap (λ (y : ℕ). g y e) (q.level d) in
    sym (new-cell-gathered u u1 k ch (cell_of u cells) (cells_low u cells fit) 66 small n c b d e (literals-66 sets k (λ S l. low S) c (child_depth n d) (subst (Fitting sets c) (sym (q.level d)) fits)) q.inner ar h
    ∙ ap (gathered (adds n) (begun (adds n) (cell_of u cells b e))) below-is)

module _ (bytes firsts ends uses masks sizes cells : List ℕ) where
  module _ (i count own row digits : ℕ) where
    abbrev Ready : List ℕ → Type 0
    Ready out = FlipReady bytes firsts ends uses masks sizes cells i count own row digits out

    -- what the steps before a tree ask
    module _ (out : List ℕ) (r : Ready out) where
      pub node-low : i < 512
      node-low = below-512 r.visit

      pub place-low : (i < 512) × (row ≤ 16777216)
      place-low = (node-low, row_low r.visit r.settled.masks-settled.ports1 r.settled.masks-settled.ports64)

      pub from_low : (from : ℕ) → from ≡ get_or firsts i 0 + row → from ≤ length cells
      from_low from q = omega (arith, q, row_within r.visit r.settled.masks-settled.ports1)

      pub old-room : (from : ℕ) (old : List ℕ) → from ≡ get_or firsts i 0 + row → old ≡ drop from cells → count ≤ length old
      old-room from old q p =
          omega (arith, q, row_within r.visit r.settled.masks-settled.ports1, ap length p, length-drop from cells)

      pub record-room : record_length * i + record_length ≤ length (records_of bytes)
      record-room = (node-here r.visit).whole

      pub count_low : count ≤ 64
      count_low = omega (arith, r.visit.line.few, r.settled.masks-settled.ports64)

      pub again : (out' : List ℕ) → count ≤ length out' → Ready out'
      again out' room = record {
        ports = r.ports;
        sets = r.sets;
        node = r.node;
        children = r.children;
        siblings = r.siblings;
        first = r.first;
        depth = r.depth;
        at = r.at;
        settled = r.settled;
        visit = r.visit;
        room = room;
      }

      pub literal-ready : (kind used word : ℕ) → kind ≡ kind_field (record_at bytes i) → 5 ≤ kind → used ≡ get_or uses i 0 → meets used word ≡ true
          → LiteralReady bytes masks sizes i count own digits out
      literal-ready kind used word kd h us m =
          let l = literal-of r.node kind (kd ∙ (node-here r.visit).kind-is) h in
          record {
            ports = r.ports;
            sets = r.sets;
            depth = r.depth;
            row = row;
            at = r.at;
            test = l.0.test;
            masks-settled = r.settled.masks-settled;
            sizes-low = r.settled.sizes-low;
            line = r.visit.line;
            is = record-here r.visit l.0 l.1;
            asks = asks_set l.0.test word (ap (λ (y : ℕ). meets y word) (sym (us ∙ leaf-uses r.visit l.0 l.1)) ∙ m);
            room = r.room;
          }

      pub trees-ready : (end : ℕ) (add : Bool) (from : ℕ) (old acc : List ℕ) → end ≡ get_or ends i 0 → from ≡ get_or firsts i 0 + row → old ≡ drop from cells
          → count ≤ length acc → acc ≡ row_of count (λ x. begun add (get_or old x 0)) out → TreesReady bytes firsts ends uses masks sizes cells (i + 1) end count own row digits acc
      trees-ready end add from old acc en fr od room aw = record {
        ports = r.ports;
        sets = r.sets;
        forest = r.children;
        first = r.first + r.ports ^ r.depth;
        depth = r.depth;
        at = r.at;
        settled = r.settled;
        visit = visit-children r.visit;
        ends_at = en ∙ (node-here r.visit).end_is ∙ after-node i (node_count r.children);
        room = room;
        low = λ x l. rw (ap (λ (ys : List ℕ). get_or ys x 0) aw ∙ row_at count (λ y. begun add (get_or old y 0)) out x l ∙ ap (begun add) (old-here r.visit from old fr od x l))
            (begun-fits add _ (cells_low r.ports cells r.settled.cells_fit r.first (r.at x)));
      }

    -- what the cells of a tree come to
    module _ (word : ℕ) where
      module _ (used : ℕ) (us : used ≡ get_or uses i 0) where
        pub gives-kept : (from : ℕ) (old out new : List ℕ) → from ≡ get_or firsts i 0 + row → old ≡ drop from cells → meets used word ≡ false → new ≡ row_of count (λ x. get_or old x 0) out
            → FlipGives bytes firsts ends uses masks sizes cells i count own row digits word new
        unfolding FlipGives
        gives-kept from old out new fr od m nq u sets n c s b d at settled v x l ch k f g =
            ap (λ (ys : List ℕ). get_or ys x 0) nq ∙ row_at count (λ y. get_or old y 0) out x l ∙ old-here v from old fr od x l
            ∙ sym (untouched-kept u k ch (cell_of u cells) n c b d (at x)
            (touched-here v settled.masks-settled.sets16 word x l ch f ∙ ap (λ (y : ℕ). meets y word) (sym us) ∙ m))

        module _ (hot : meets used word ≡ true) (kind : ℕ) (kd : kind ≡ kind_field (record_at bytes i)) where
          pub gives-literal : (new : List ℕ) → 5 ≤ kind → LiteralGives bytes masks sizes i count own digits new
              → FlipGives bytes firsts ends uses masks sizes cells i count own row digits word new
          unfolding FlipGives LiteralGives literal_penalty
          gives-literal new h gives u sets n c s b d at settled v x l ch k f g =
              let m : meets (get_or uses i 0) word ≡ true = ap (λ (y : ℕ). meets y word) (sym us) ∙ hot in
              let t = literal-of n kind (kd ∙ (node-here v).kind-is) h in
              let ue = leaf-uses v t.0 t.1 in
              let is = record-here v t.0 t.1 in
              let own_meets : meets (test_uses t.0.test) word ≡ true = ap (λ (y : ℕ). meets y word) (sym ue) ∙ m in
              gives u sets d row at t.0.test v.line is (asks_set t.0.test word own_meets) x l k
              (test-flipped masks sizes ch k word sets d (at x) settled.masks-settled.sets16 is.depth3 (length-tuple (v.line.tuples x l)) t.0.test is.fits
              (subst (λ (y : ℕ). WordFor y ch (at x) word) ue f) (subst (λ (y : ℕ). Flipped y masks sizes ch k) ue g) own_meets)
              ∙ literal-new u k ch cells n t.0 c b d (at x) t.1 (touched-here v settled.masks-settled.sets16 word x l ch f ∙ m)

          pub gives-joint : (end : ℕ) (add : Bool) (from : ℕ) (old out acc new : List ℕ) → kind < 5 → end ≡ get_or ends i 0 → add ≡ eqb (kind % 2) 1
              → from ≡ get_or firsts i 0 + row → old ≡ drop from cells → acc ≡ row_of count (λ x. begun add (get_or old x 0)) out
              → TreesGive bytes firsts ends uses masks sizes cells (i + 1) end count own row digits word add acc new
              → FlipGives bytes firsts ends uses masks sizes cells i count own row digits word new
          unfolding FlipGives TreesGive NoQuantifier
          gives-joint end add from old out acc new few en ad fr od aw trees u sets n c s b d at settled v x l ch k f g =
              let m : meets (get_or uses i 0) word ≡ true = ap (λ (y : ℕ). meets y word) (sym us) ∙ hot in
              let is = node-here v in
              let kn = kd ∙ is.kind-is in
              let q = joint-of n kind kn few (ap (λ (y : ℕ). leb 1 y && leb y 2) kn ∙ flat-here v) in
              let an = ad ∙ adds-kind n kind kn few in
              let under : Within (forest_uses c) (get_or uses i 0) = λ j h. ap (λ (y : ℕ). in_mask y j) is.uses-are ∙ within-right (node_uses n) (forest_uses c) j h in
              trees u sets c (b + u ^ d) d at settled (visit-children v) (en ∙ is.end_is ∙ after-node i (node_count c)) x l ch k
              (word-part (forest_uses c) (get_or uses i 0) ch (at x) word under f) (flipped-part (forest_uses c) (get_or uses i 0) masks sizes ch k under g)
              ∙ ap₂ (λ (a : Bool) (y : ℕ). gathered a y (renewals u k ch (cell_of u cells) c (b + u ^ d) d (at x))) an
              (ap (λ (ys : List ℕ). get_or ys x 0) aw ∙ row_at count (λ y. begun add (get_or old y 0)) out x l ∙ ap₂ begun an (old-here v from old fr od x l))
              ∙ joint-new u sets settled.masks-settled.ports1 k g.low ch cells settled.cells_fit n c b d (at x) q (visit-children v).fitting (fits-here v).children
              (touched-here v settled.masks-settled.sets16 word x l ch f ∙ m)

      -- a tree's cells gone into sums or minima
      module _ (add : Bool) (from : ℕ) (old acc out : List ℕ) (fr : from ≡ get_or firsts i 0 + row) (od : old ≡ drop from cells)
          (r : JoinReady bytes firsts ends uses masks sizes cells i count own row digits acc) where
        pub joins-kept : (used : ℕ) → used ≡ get_or uses i 0 → meets used word ≡ false → out ≡ row_kept add old count acc
            → Joins bytes firsts ends uses masks sizes cells i count own row digits word add acc out
        unfolding renewal_at
        joins-kept used us m oq = record {
          numbers = λ u sets n c s b d at settled v x l ch k f g. at-cell x l
              ∙ taken-same add (get_or acc x 0) (renewal_at old old x) record { hit = true; old = cell_of u cells b (at x); new = new_cell u k ch (cell_of u cells) n c b d (at x) }
              (old-here v from old fr od x l)
              (old-here v from old fr od x l ∙ sym (untouched-kept u k ch (cell_of u cells) n c b d (at x)
              (touched-here v settled.masks-settled.sets16 word x l ch f ∙ ap (λ (y : ℕ). meets y word) (sym us) ∙ m)));
          low = λ x l. rw (at-cell x l) (taken-fits add _ (renewal_at old old x) (r.low x l));
        }
          where
            at-cell : (x : ℕ) → x < count → get_or out x 0 ≡ taken add (get_or acc x 0) (renewal_at old old x)
            at-cell x l = ap (λ (ys : List ℕ). get_or ys x 0) oq ∙ kept_at add count old acc x l (r.low x l)
                (rw (old-here r.begins.visit from old fr od x l) (cells_low r.begins.ports cells r.begins.settled.cells_fit r.begins.first (r.begins.at x)))

        pub joins-row : (new : List ℕ) → FlipGives bytes firsts ends uses masks sizes cells i count own row digits word new → out ≡ row_taken add new old count acc
            → Joins bytes firsts ends uses masks sizes cells i count own row digits word add acc out
        unfolding FlipGives renewal_at
        joins-row new gives oq = record {
          numbers = λ u sets n c s b d at settled v x l ch k f g. at-cell x l
              ∙ taken-same add (get_or acc x 0) (renewal_at new old x) record { hit = true; old = cell_of u cells b (at x); new = new_cell u k ch (cell_of u cells) n c b d (at x) }
              (old-here v from old fr od x l) (gives u sets n c s b d at settled v x l ch k f g);
          low = λ x l. rw (at-cell x l) (taken-fits add _ (renewal_at new old x) (r.low x l));
        }
          where
            at-cell : (x : ℕ) → x < count → get_or out x 0 ≡ taken add (get_or acc x 0) (renewal_at new old x)
            at-cell x l = ap (λ (ys : List ℕ). get_or ys x 0) oq ∙ taken_at add count new old acc x l

  -- the trees of a forest
  module _ (until count own row digits : ℕ) where
    abbrev Trees : ℕ → List ℕ → Type 0
    Trees i acc = TreesReady bytes firsts ends uses masks sizes cells i until count own row digits acc

    pub tree-ready : (i : ℕ) (acc : List ℕ) → Trees i acc → i < until → JoinReady bytes firsts ends uses masks sizes cells i count own row digits acc
    unfolding node_count
    tree-ready i acc r h = go r.forest r.visit r.ends_at
      where
        go : (f : Forest) → FlipVisit r.ports r.sets bytes firsts ends uses cells i f r.first r.depth count own row digits r.at → until ≡ i + node_count f
            → JoinReady bytes firsts ends uses masks sizes cells i count own row digits acc
        go none v q = absurd (omega arith)
        go (tree n c s) v q = record {
          begins = record {
            ports = r.ports;
            sets = r.sets;
            node = n;
            children = c;
            siblings = s;
            first = r.first;
            depth = r.depth;
            at = r.at;
            settled = r.settled;
            visit = v;
            room = r.room;
          };
          low = r.low;
        }

    module _ (word : ℕ) (add : Bool) where
      abbrev Give : ℕ → List ℕ → List ℕ → Type 0
      Give i acc out = TreesGive bytes firsts ends uses masks sizes cells i until count own row digits word add acc out

      -- The loop over the trees began before node i and stands before node j: the row is as long as it was.
      abbrev pub Onward : ℕ → List ℕ → ℕ → List ℕ → Type 0
      Onward i acc = Remaining (λ (j : ℕ) (mid : List ℕ). Trees j mid × (length mid ≡ length acc)) Give i acc

      pub onward-first : (i : ℕ) (acc : List ℕ) → Trees i acc → Onward i acc i acc
      onward-first i acc r = remains-first _ _ i acc (r, refl)

      give-none : (j : ℕ) (mid : List ℕ) → until ≤ j → Give j mid mid
      unfolding TreesGive node_count renewals gathered
      give-none j mid h u sets none b d at settled v q x l ch k f g = refl
      give-none j mid h u sets (tree n c s) b d at settled v q x l ch k f g = absurd (omega arith)

      pub onward-last : (i : ℕ) (acc : List ℕ) (j : ℕ) (mid : List ℕ) → Onward i acc j mid → until ≤ j → Give i acc mid
      onward-last i acc j mid o h = o.so mid (give-none j mid h)

      -- minima that are 0 stay so, whatever trees there are
      give-done : (j : ℕ) (mid : List ℕ) → (add ≡ false) × ZeroRow mid count → Give j mid mid
      unfolding TreesGive ZeroRow
      give-done j mid z u sets f b d at settled v q x l ch k w g = gathered-done add (get_or mid x 0) _ z.0 (z.1 x l)

      pub onward-done : (i : ℕ) (acc : List ℕ) (j : ℕ) (mid : List ℕ) → Onward i acc j mid → (add ≡ false) × ZeroRow mid count → Give i acc mid
      onward-done i acc j mid o z = o.so mid (give-done j mid z)

      module _ (j next : ℕ) (mid mid' : List ℕ) (l : j < until) (nx : next ≡ get_or ends j 0)
          (joins : Joins bytes firsts ends uses masks sizes cells j count own row digits word add mid mid') where
        next-ready : Trees j mid → length mid' ≡ length mid → (j < next) × Trees next mid'
        unfolding node_count
        next-ready r same = go r.forest r.visit r.ends_at
          where
            go : (f : Forest) → FlipVisit r.ports r.sets bytes firsts ends uses cells j f r.first r.depth count own row digits r.at → until ≡ j + node_count f
                → (j < next) × Trees next mid'
            go none v q = absurd (omega arith)
            go (tree n c s) v q =
                let e = (node-here v).end_is in (
                  omega (arith, nx, e),
                  record {
                    ports = r.ports;
                    sets = r.sets;
                    forest = s;
                    first = sibling_first r.ports n c r.first r.depth;
                    depth = r.depth;
                    at = r.at;
                    settled = r.settled;
                    visit = rw (nx ∙ e) (visit-next v);
                    ends_at = omega (arith, nx, e, q);
                    room = rw same r.room;
                    low = joins.low;
                  },
                )

        give-more : (out : List ℕ) → Give next mid' out → Give j mid out
        unfolding TreesGive node_count renewals gathered new_cell forest_uses
        give-more out rest u sets none b d at settled v q x m ch k f g = absurd (omega arith)
        give-more out rest u sets (tree n c s) b d at settled v q x m ch k f g =
            let is = node-here v in
            let first : Within (get_or uses j 0) (forest_uses (tree n c s)) =
            λ y h. within-left (bit_or (node_uses n) (forest_uses c)) (forest_uses s) y (ap (λ (a : ℕ). in_mask a y) (sym is.uses-are) ∙ h) in
            let later : Within (forest_uses s) (forest_uses (tree n c s)) = within-right (bit_or (node_uses n) (forest_uses c)) (forest_uses s) in
            rest u sets s (sibling_first u n c b d) d at settled (rw (nx ∙ is.end_is) (visit-next v)) (omega (arith, nx, is.end_is, q)) x m ch k
            (word-part (forest_uses s) (forest_uses (tree n c s)) ch (at x) word later f) (flipped-part (forest_uses s) (forest_uses (tree n c s)) masks sizes ch k later g)
            ∙ ap (λ (y : ℕ). gathered add y (renewals u k ch (cell_of u cells) s (sibling_first u n c b d) d (at x)))
            (joins.numbers u sets n c s b d at settled v x m ch k
            (word-part (get_or uses j 0) (forest_uses (tree n c s)) ch (at x) word first f) (flipped-part (get_or uses j 0) (forest_uses (tree n c s)) masks sizes ch k first g)
            ∙ taken-same add (get_or mid x 0) _ _ refl refl)

        pub onward-next : (i : ℕ) (acc : List ℕ) → Onward i acc j mid → length mid' ≡ length mid → (j < next) × Onward i acc next mid'
        onward-next i acc o same =
            let n = next-ready o.ready.0 same in
            (n.0, remains-next _ _ i acc j next mid mid' o n.0 (n.1, same ∙ o.ready.1) give-more)
