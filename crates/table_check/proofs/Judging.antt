-- The check of records: what a part that is sound looks like, and what follows from the checks of its parts. Assumes nothing.
use mathlib.Core.Path.{◌≡◌, refl, sym, ap, ap₂, ◌∙◌, subst}
use mathlib.Core.Bool.{Bool, true, false, false≢true}
use mathlib.Core.List.{List, [], ◌∷◌, ◌++◌}
use Prim.Native.Nat.{ℕ, suc, ◌+◌, ◌-◌, ◌*◌, ◌^◌, ◌≤◌, ◌<◌}
use native.Mathlib.Nat.{le_trans, pow-le-pow_left, pow-le-pow_right}
use native.Mathlib.Numerals.{add-one}
use native.Mathlib.Omega.{arith}
use lib.Bits.{bit_or}
use lib.Dec.{eqb}
use lib.ListN.{length, take, drop, set, length-take, length-drop}
use borrow.Author.Tests.{eqb-true, eq-eqb, leb-true}
use Rattle.std.specs.Prelude.{Some}
use Rattle.logic.specs.Formula.{Node, Forest, none, tree, kind_number, node_count, child_depth}
use Rattle.logic.specs.Cells.{cell_count, first_cells}
use Rattle.logic.proofs.Lists.{and-true}
use Rattle.table_check.specs.declared.Checked.{Checked}
use Rattle.table_check.specs.declared.CheckedTree.{CheckedTree}
use Rattle.table_format.specs.declared.Index.{Index}
use Rattle.table_format.specs.Bytes.{record_length, kind_field, relation_field, a_field, b_field, parent_field, end_field, node_of, record_of, records}
use Rattle.table_format.specs.Rules.{every_node, tree_count, arity_rule, may_nest, nesting_rule, depth_rule, inner_rule, node_rule}
use Rattle.table_format.specs.inner.Index.{ends, node_uses, forest_uses, uses_table, laid}
use Rattle.table_format.specs.inner.Tests.{field_rule, record_rule, kind_depth, kind_width, kind_uses, Sound}
use Rattle.table_check.specs.inner.Check.{Placed, PartIndexed, Judged, FirstRecord, FirstTree, TreeJudged}
use Rattle.table_format.proofs.Conjunctions.{two-true, four-true}
use Rattle.table_format.proofs.Parts.{siblings_of, cancel-le, cancel-children, no_record, span-within, length-children, parts_join, first_below, children-below}
use Rattle.table_format.proofs.Bytes.{record-pos, kind-of-record, relation-of-record, a-of-record, b-of-record, parent-of-record, end-of-record, record_is}
use Rattle.table_format.proofs.Encoding.{length-records, children-part, siblings-part}
use Rattle.table_format.proofs.FieldRules.{NodeIs, fields-node, node-fields, kind-depth, kind-depth-le, kind-width, kind-uses}
use Rattle.table_format.proofs.Laid.{kids_of, later_of, same-forest, width_low, laid-nothing}
use Rattle.table_format.proofs.Rooted.{every-node, sound-length}

-- What a sound part that is not empty begins with.
pub record Opened (l : List ℕ) (i parent d sets above : ℕ) : Type 0 where
  pub node : Node
  pub children : Forest
  pub siblings : Forest
  pub record-ok : record_rule sets d above parent l ≡ true
  pub end_is : end_field l ≡ i + suc (node_count children)
  pub long : record_length * (end_field l - i) ≤ length l
  pub kind : kind_field l ≡ kind_number node
  pub inner : inner_rule sets node d ≡ true
  pub arity : arity_rule (kind_number node) (tree_count children) ≡ true
  pub kids : Sound (kids_of l i (end_field l)) (suc i) i (child_depth node d) sets (kind_number node) children
  pub rest : Sound (siblings_of record_length (end_field l - i) l) (end_field l) parent d sets above siblings

record-of-node : (sets d above parent e : ℕ) (n : Node) (t : List ℕ) → inner_rule sets n d ≡ true → depth_rule d ≡ true → may_nest above (kind_number n) ≡ true
    → record_rule sets d above parent (record_of n parent e ++ t) ≡ true
unfolding record_rule
record-of-node sets d above parent e n t a b c =
    let k = kind-of-record n parent e t in
    let fields : ℕ → ℕ → ℕ → ℕ → Bool = field_rule sets d in
    and-true _ _
    (and-true _ _
    (and-true _ _ ((λ j. fields (k j) (relation-of-record n parent e t j) (a-of-record n parent e t j) (b-of-record n parent e t j)) ∙ node-fields sets d n a) b)
    (ap (may_nest above) k ∙ c))
    (eq-eqb (parent_field (record_of n parent e ++ t)) parent (parent-of-record n parent e t))

tree-long : (n : Node) (c s : Forest) (i parent x : ℕ) → x ≡ i + suc (node_count c) → record_length * (x - i) ≤ length (records (tree n c s) i parent)
unfolding node_count
tree-long n c s i parent x h =
    omega (arith, length-records (tree n c s) i parent, span-within record_length record-pos (x - i) (node_count (tree n c s)) (omega arith))

-- over the records of a tree and its siblings
opened-tree : (n : Node) (c s : Forest) (i parent d sets above : ℕ) → every_node (node_rule sets) (tree n c s) d ≡ true → nesting_rule above (tree n c s) ≡ true
    → Opened (records (tree n c s) i parent) i parent d sets above
unfolding nesting_rule records
opened-tree n c s i parent d sets above rules nested =
    let e = i + suc (node_count c) in
    let t = records c (suc i) i ++ records s e parent in
    let l = record_of n parent e ++ t in
    let q = end-of-record n parent e t in
    let r = every-node sets n c s d rules in
    let m = two-true (may_nest above (kind_number n)) (nesting_rule above s) nested in
    record {
      node = n;
      children = c;
      siblings = s;
      record-ok = record-of-node sets d above parent e n t r.0 r.1 m.0;
      end_is = q;
      long = tree-long n c s i parent (end_field l) q;
      kind = kind-of-record n parent e t;
      inner = r.0;
      arity = r.2;
      kids = record {
        is = ap (kids_of l i) q ∙ children-part n c s i parent;
        rules = r.4;
        nested = r.3;
      };
      rest = record {
        is = ap (λ (x : ℕ). siblings_of record_length (x - i) l) q ∙ siblings-part n c s i parent ∙ ap (λ (x : ℕ). records s x parent) (sym q);
        rules = r.5;
        nested = m.1;
      };
    }

pub opened : {l : List ℕ} {i parent d sets above : ℕ} (f : Forest) → Sound l i parent d sets above f → (length l ≡ 0 → ⊥) → Opened l i parent d sets above
unfolding records
opened none s h = absurd (h (ap length s.is))
opened {i} {parent} {d} {sets} {above} (tree n c s) x h =
    subst (λ (l : List ℕ). Opened l i parent d sets above) (sym x.is) (opened-tree n c s i parent d sets above x.rules x.nested)

module _ {l : List ℕ} {i parent d sets above : ℕ} (some : length l ≡ 0 → ⊥) where
  pub too_short : length l < record_length → (f : Forest) → Sound l i parent d sets above f → ⊥
  too_short h f s = some (no_record record_length record-pos (length l) (node_count f) (sound-length s) h)

  pub bad-record : record_rule sets d above parent l ≡ false → (f : Forest) → Sound l i parent d sets above f → ⊥
  bad-record h f s = false≢true (sym h ∙ (opened f s some).record-ok)

  module _ {e : ℕ} (en : e ≡ end_field l) where
    pub early-end : e ≤ i → (f : Forest) → Sound l i parent d sets above f → ⊥
    early-end h f s = let o = (opened f s some).end_is in omega arith

    pub cut_short : length l < record_length * (e - i) → (f : Forest) → Sound l i parent d sets above f → ⊥
    cut_short h f s = let o = (opened f s some).long in omega (arith, ap (λ (x : ℕ). record_length * (x - i)) en)

    rest-sound : (o : Opened l i parent d sets above) → Sound (later_of l i e) e parent d sets above o.siblings
    rest-sound o =
        let k = o.rest in
        record {
          is = ap (later_of l i) en ∙ k.is ∙ ap (λ (x : ℕ). records o.siblings x parent) (sym en);
          rules = k.rules;
          nested = k.nested;
        }

    pub bad-rest : ((g : Forest) → Sound (later_of l i e) e parent d sets above g → ⊥) → (f : Forest) → Sound l i parent d sets above f → ⊥
    bad-rest h f s = let o = opened f s some in h o.siblings (rest-sound o)

    module _ {kind : ℕ} (ki : kind ≡ kind_field l) where
      kids-sound : (o : Opened l i parent d sets above) → Sound (kids_of l i e) (i + 1) i (kind_depth kind d) sets kind o.children
      kids-sound o =
          let k = o.kids in
          let b : child_depth o.node d ≡ kind_depth kind d = kind-depth sets d o.node o.inner ∙ ap (λ (x : ℕ). kind_depth x d) (sym (ki ∙ o.kind)) in
          record {
            is = ap (kids_of l i) en ∙ k.is ∙ ap (λ (x : ℕ). records o.children x i) (sym (add-one i));
            rules = ap (every_node (node_rule sets) o.children) (sym b) ∙ k.rules;
            nested = ap (λ (x : ℕ). nesting_rule x o.children) (ki ∙ o.kind) ∙ k.nested;
          }

      pub bad-kids : ((f : Forest) → Sound (kids_of l i e) (i + 1) i (kind_depth kind d) sets kind f → ⊥) → (f : Forest) → Sound l i parent d sets above f → ⊥
      bad-kids h f s = let o = opened f s some in h o.children (kids-sound o)

      pub bad-arity : {ports first : ℕ} {c : Checked} {x x' : Index}
          → Judged (kids_of l i e) (i + 1) i (kind_depth kind d) ports sets kind first (Some c) x x'
          → arity_rule kind c.trees ≡ false → (f : Forest) → Sound l i parent d sets above f → ⊥
      bad-arity g a f s =
          let o = opened f s some in
          let one : g.0 ≡ o.children = same-forest g.0 o.children (i + 1) i (sym g.1.is ∙ (kids-sound o).is) in
          false≢true (sym a ∙ ap₂ arity_rule (ki ∙ o.kind) (g.2.trees ∙ ap tree_count one) ∙ o.arity)

pub cells-few : (u sets : ℕ) (f : Forest) (d : ℕ) → 1 ≤ u → u ≤ 64 → every_node (node_rule sets) f d ≡ true → cell_count u f d ≤ 262144 * node_count f
unfolding cell_count node_count depth_rule
cells-few u sets none d h l r = omega arith
cells-few u sets (tree n c s) d h l r =
    let q = every-node sets n c s d r in
    omega (
      arith,
      width_low u d h l (leb-true d 3 q.1),
      cells-few u sets c (child_depth n d) h l q.4,
      cells-few u sets s d h l q.5,
    )

pub trees-few : (f : Forest) → tree_count f ≤ node_count f
unfolding tree_count node_count
trees-few none = omega arith
trees-few (tree n c s) = omega (arith, trees-few s)

module _ {l : List ℕ} {i parent d sets above e : ℕ} (h : FirstRecord l i parent d sets above e) where
  abbrev node_here : Node
  node_here = node_of (kind_field l) (relation_field l) (a_field l) (b_field l)

  -- what the record's rule says
  pub rules-here : (field_rule sets d (kind_field l) (relation_field l) (a_field l) (b_field l) ≡ true) × (depth_rule d ≡ true)
      × (may_nest above (kind_field l) ≡ true) × (eqb (parent_field l) parent ≡ true)
  unfolding record_rule
  rules-here = four-true (field_rule sets d (kind_field l) (relation_field l) (a_field l) (b_field l)) (depth_rule d) (may_nest above (kind_field l)) (eqb (parent_field l) parent) h.rule

  pub node-here : NodeIs sets d (kind_field l) (relation_field l) (a_field l) (b_field l) node_here
  node-here = fields-node sets d (kind_field l) (relation_field l) (a_field l) (b_field l) rules-here.0

  pub depth-here : d ≤ 3
  unfolding depth_rule
  depth-here = leb-true d 3 rules-here.1

  some-here : 1 ≤ e - i
  some-here = omega (arith, h.after)

  -- the record is that of its node
  record-here : l ≡ record_of node_here parent e ++ drop record_length l
  record-here =
      let n = node-here in
      record_is node_here parent e l h.end_is.bytes h.long (sym n.kind-is) (sym n.relation-is) (sym n.a-is) (sym n.b-is)
      (eqb-true (parent_field l) parent rules-here.3) (sym h.end_is.is)

  pub length-kids : length (kids_of l i e) ≡ record_length * (e - i) - record_length
  length-kids = length-children record_length record-pos (e - i) l h.within

  module _ (c : Forest) (kids : Sound (kids_of l i e) (i + 1) i (kind_depth (kind_field l) d) sets (kind_field l) c) where
    -- children that are records say where the tree ends
    end-here : e ≡ i + suc (node_count c)
    end-here =
        let q = cancel-children record_length record-pos (node_count c) (e - i) (sym (sound-length kids) ∙ length-kids) some-here in
        omega (arith, h.after)

    depth_below : kind_depth (kind_field l) d ≡ child_depth node_here d
    depth_below = ap (λ (x : ℕ). kind_depth x d) (sym node-here.kind-is) ∙ sym (kind-depth sets d node_here node-here.inner)

    uses-here : kind_uses (kind_field l) (a_field l) (b_field l) ≡ node_uses node_here
    uses-here = sym (kind-uses node_here ∙ (λ j. kind_uses (node-here.kind-is j) (node-here.a-is j) (node-here.b-is j)))

    -- what is then known of the first tree
    first-tree : (ports width first : ℕ) (rc : Checked) (r : CheckedTree) (x x₁ x₂ : Index) → width ≡ ports ^ d
        → PartIndexed (i + 1) (kind_depth (kind_field l) d) ports (first + width) c rc x x₁
        → arity_rule (kind_field l) (tree_count c) ≡ true
        → (x₂.firsts ≡ set x₁.firsts i first) × (x₂.ends ≡ set x₁.ends i e) × (x₂.uses ≡ set x₁.uses i r.uses)
        → e ≡ r.end → r.cells ≡ width + rc.cells → r.uses ≡ bit_or (kind_uses (kind_field l) (a_field l) (b_field l)) rc.uses
        → FirstTree l i parent d ports sets above first r x x₂ node_here c
    unfolding node_rule
    first-tree ports width first rc r x x₁ x₂ u jc a m en ce us =
        let k = node-here.kind-is in
        record {
          is = record-here
              ∙ ap (λ (t : List ℕ). record_of node_here parent e ++ t)
              (parts_join record_length record-pos (e - i) l h.within some-here
              ∙ ap (λ (t : List ℕ). t ++ later_of l i e) (kids.is ∙ ap (λ (j : ℕ). records c j i) (add-one i)))
              ∙ (λ j. record_of node_here parent (en j) ++ (records c (suc i) i ++ later_of l i (en j)));
          within = subst (λ (w : ℕ). record_length * (w - i) ≤ length l) en h.within;
          end_is = sym en ∙ end-here;
          rules = and-true _ _ (and-true _ _ (and-true _ _ node-here.inner rules-here.1) (ap (λ (w : ℕ). arity_rule w (tree_count c)) k ∙ a))
              (ap (λ (w : ℕ). nesting_rule w c) k ∙ kids.nested);
          below = ap (every_node (node_rule sets) c) (sym depth_below) ∙ kids.rules;
          nested = ap (may_nest above) k ∙ rules-here.2;
          cells = ce ∙ ap₂ ◌+◌ u (jc.cells ∙ ap (cell_count ports c) depth_below);
          used = us ∙ ap₂ bit_or uses-here jc.used;
          firsts-are = m.0
              ∙ ap (λ (t : List ℕ). set t i first)
              (jc.firsts-are ∙ (λ j. laid x.firsts (add-one i j) (first_cells ports c (first + u j) (depth_below j))));
          ends-are = m.1 ∙ ap₂ (λ (t : List ℕ) (w : ℕ). set t i w) (jc.ends-are ∙ (λ j. laid x.ends (add-one i j) (ends c (add-one i j)))) en;
          uses-are = m.2 ∙ ap (λ (t : List ℕ). set t i r.uses) (jc.uses-are ∙ ap (λ (j : ℕ). laid x.uses j (uses_table c)) (add-one i));
        }

  -- the same over the numbers that the code reads
  pub accept-tree : {kind a b ports width first used : ℕ} → kind ≡ kind_field l → a ≡ a_field l → b ≡ b_field l
      → {rc : Checked} {x x₁ x₂ : Index} → width ≡ ports ^ d
      → Judged (kids_of l i e) (i + 1) i (kind_depth kind d) ports sets kind (first + width) (Some rc) x x₁
      → arity_rule kind rc.trees ≡ true
      → (x₂.firsts ≡ set x₁.firsts i first) × (x₂.ends ≡ set x₁.ends i e) × (x₂.uses ≡ set x₁.uses i used)
      → used ≡ bit_or (kind_uses kind a b) rc.uses
      → TreeJudged l i parent d ports sets above first (Some (record { end = e; cells = width + rc.cells; uses = used })) x x₂
  accept-tree {ports} {width} {first} {used} ki ai bi {rc} {x} {x₁} {x₂} u jk ar m us =
      let kids = subst (λ (k : ℕ). Judged (kids_of l i e) (i + 1) i (kind_depth k d) ports sets k (first + width) (Some rc) x x₁) ki jk in (
        node_here,
        kids.0,
        first-tree kids.0 kids.1 ports width first rc (record { end = e; cells = width + rc.cells; uses = used }) x x₁ x₂ u kids.2
            (ap₂ arity_rule (sym ki) (sym kids.2.trees) ∙ ar) m refl refl
            (us ∙ (λ j. bit_or (kind_uses (ki j) (ai j) (bi j)) rc.uses)),
      )

-- no records are no trees
pub accept-none : (l : List ℕ) {i parent d ports sets above first : ℕ} {x : Index} → length l ≡ 0
    → Judged l i parent d ports sets above first (Some (record { trees = 0; cells = 0; uses = 0 })) x x
unfolding records every_node nesting_rule tree_count cell_count forest_uses first_cells ends uses_table
accept-none [] {i} {x} h = (
  none,
  record { is = refl; rules = refl; nested = refl },
  record { trees = refl; cells = refl; used = refl; firsts-are = sym (laid-nothing x.firsts i); ends-are = sym (laid-nothing x.ends i); uses-are = sym (laid-nothing x.uses i) },
)
accept-none (b ∷ l) h = absurd (omega arith)

-- where the children stand
pub placed-kids : {l : List ℕ} {i parent d ports sets above width first e : ℕ} {x : Index} → Placed l i parent d ports sets width first x
    → FirstRecord l i parent d sets above e → (kind : ℕ)
    → Placed (kids_of l i e) (i + 1) i (kind_depth kind d) ports sets (kind_width kind width ports) (first + width) x
placed-kids {l} {i} {d} {ports} {width} {e} place h kind =
    let low = depth-here h in
    let w = width_low ports d place.ports1 place.ports64 low in
    record {
      few = rw (length-kids h) (children-below record_length record-pos i e (length l) 512 h.after h.within place.few);
      parents = omega (arith, first_below record_length record-pos i (length l) 512 h.long place.few);
      ports1 = place.ports1;
      ports64 = place.ports64;
      sets16 = place.sets16;
      width_is = kind-width kind width ports d place.width_is;
      depth = omega (arith, kind-depth-le kind d, low);
      first-low = omega (arith, place.first-low, place.width_is, w);
      room = place.room;
    }

-- the numbers of a place are small
pub placed-low : {l : List ℕ} {i parent d ports sets width first : ℕ} {x : Index} → Placed l i parent d ports sets width first x
    → (width ≤ 16777216) × (first ≤ 536870912) × (length l ≤ record_length * 512)
placed-low {i} {d} {ports} p =
    let w : ports ^ d ≤ 16777216 = le_trans (pow-le-pow_left p.ports64 d) (pow-le-pow_right (omega arith) p.depth) in
    let few : i ≤ 512 = cancel-le record_length record-pos i 512 (omega (arith, p.few)) in
    (omega (arith, p.width_is), omega (arith, p.first-low), omega (arith, p.few))

-- and so is what is counted in a part of a short part
pub counted-low : (whole : List ℕ) (a b : ℕ) {i parent d ports sets above first : ℕ} {r : Checked} {x x' : Index}
    → Judged (take a (drop b whole)) i parent d ports sets above first (Some r) x x' → 1 ≤ ports → ports ≤ 64
    → length whole ≤ record_length * 512 → (r.trees ≤ 512) × (r.cells ≤ 134217728)
counted-low whole a b {d} {ports} {sets} f u1 u64 few =
    let n = node_count f.0 in
    let short : n ≤ 512 = cancel-le record_length record-pos n 512
    (omega (arith, sound-length f.1, length-take a (drop b whole), length-drop b whole)) in
    (omega (arith, f.2.trees, trees-few f.0), omega (arith, f.2.cells, cells-few ports sets f.0 d u1 u64 f.1.rules))
