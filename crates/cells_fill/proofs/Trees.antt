-- The cells of one tree: a literal's own, or an inner node's own over its children's. Assumes nothing.
use mathlib.Core.Path.{◌≡◌, refl, sym, ap, ap₂, ◌∙◌, subst}
use mathlib.Core.Bool.{Bool, true, not}
use mathlib.Core.Logic.{⊎_elim, inl, inr}
use mathlib.Core.List.{List, [], ◌++◌, append_assoc}
use Prim.Native.Nat.{ℕ, ◌+◌, ◌-◌, ◌*◌, ◌^◌, ◌≤◌, ◌<◌}
use native.Mathlib.Nat.{add-zero, mul-le-mul_right, mul_left_comm}
use native.Mathlib.Omega.{arith}
use lib.Dec.{eqb}
use lib.ListN.{length, get_or, take, drop, length-drop, take-append-drop}
use lib.Seq.{length-take-le}
use borrow.Author.Tests.{eq-eqb}
use Rattle.logic.specs.Formula.{Test, isin, notin, port, size, test_kind, Literal, literal_of, Node, root, all, any, and, or, lit, Forest, none, tree, kind_number, child_depth}
use Rattle.logic.specs.inner.Literals.{ConstantLow, ConstantsLow}
use Rattle.logic.specs.Configuration.{Configuration, in_masks}
use Rattle.logic.specs.Truth.{Tuple, port_of}
use Rattle.logic.specs.Penalty.{compare, sum, below, combine, test_penalty, literal_penalty, penalties, penalty}
use Rattle.logic.specs.Cells.{cell_count, tuple_at, tabulate, layout}
use Rattle.logic.proofs.Tables.{tabulate-cong}
use Rattle.logic.proofs.Bound.{spread, spread-pos, subtree_cells, subtree-count, penalties-le, below-penalties-le, literals-low, sizes-64}
use Rattle.logic.proofs.Lists.{indicator-le}
use Rattle.logic.proofs.Lent.{lent, lent_to, back, back_to, lent_is, lent_length, back_is, back-to-is, nothing-behind}
use Rattle.logic.proofs.Relations.{test-kind-range}
use Rattle.logic.proofs.Within.{within-at}
use Rattle.table_format.specs.Bytes.{record_length, kind_field, relation_field, a_field, b_field, end_field, test_of, node_of, records}
use Rattle.table_format.specs.Rules.{tree_count, arity_rule, every_node, node_rule}
use Rattle.table_format.specs.inner.Tests.{field_rule, kind_depth, kind_width}
use Rattle.table_format.proofs.Opened.{one-forest, not_none, PartOpened, part-opened, part-span}
use Rattle.table_format.proofs.FieldRules.{fields-node, literal-node, literal-children, kind-depth-le, kind-width}
use Rattle.table_format.proofs.Facts.{every-inner, constant-low}
use Rattle.table_format.proofs.Laid.{kids_of, width_low}
use Rattle.cells_literals.specs.inner.Literal.{LiteralPlaced}
use Rattle.cells_join.specs.inner.Joined.{join_into, join_of, spread_of}
use Rattle.cells_fill.specs.inner.Fill.{treewise, config, table, TreesPlaced, FillPlaced, TreeFilled, FillsTree, Filled, Fills}
use Rattle.cells_fill.proofs.Values.{no-tree, own-cell, one-child}

-- the constants of nodes that keep the rules are low
pub constants-low : (sets : ℕ) (f : Forest) (d : ℕ) → every_node (node_rule sets) f d ≡ true → ConstantsLow f d
unfolding ConstantsLow
constants-low sets f d h = every-inner sets (λ i t. ConstantLow t) (constant-low sets) f d h

-- the cells for one tuple, of a tree and of its parts
pub few-parts : (u : ℕ) (m : Node) (c s : Forest) → 1 ≤ u → cell_count u (tree m c s) 0 ≤ 1048576
    → (spread u m * subtree_cells u c ≤ 1048576) × (cell_count u c 0 ≤ 1048576) × (cell_count u s 0 ≤ 1048576)
unfolding subtree_cells
few-parts u m c s h l =
    let a = subtree-count u (tree m c s) in
    let p = mul-le-mul_right (subtree_cells u c) (spread-pos u m h) in
    (omega arith, omega (arith, subtree-count u c), omega (arith, subtree-count u s))

-- The sum below a cell of a plan's node stays below 2^32.
pub low_below : (u sets : ℕ) (masks : List ℕ) (m : Node) (c s : Forest) (depth : ℕ) (e : Tuple) → 1 ≤ u → u ≤ 64 → every_node (node_rule sets) c (child_depth m depth) ≡ true
    → cell_count u (tree m c s) 0 ≤ 1048576 → sum (below u m e (penalties u (config u sets masks) c)) < 4294967296
low_below u sets masks m c s depth e u1 u64 rules few =
    let k = config u sets masks in
    let small : (S : ℕ) → k.size S ≤ 64 = sizes-64 u sets (in_masks masks) u64 in
    let b = below-penalties-le u 65 (omega arith) k m c (child_depth m depth) e (literals-low k small c (child_depth m depth) (constants-low sets c (child_depth m depth) rules)) in
    omega (arith, (few-parts u m c s u1 few).0, mul_left_comm (spread u m) 65 (subtree_cells u c))

-- No penalty of a plan's node reaches 2^31.
pub tree-low : (u sets : ℕ) (masks : List ℕ) (m : Node) (c s : Forest) (depth : ℕ) (e : Tuple) → u ≤ 64 → every_node (node_rule sets) (tree m c s) depth ≡ true
    → cell_count u (tree m c s) 0 ≤ 1048576 → penalty u (config u sets masks) m c e < 2147483648
unfolding penalties penalty sum
tree-low u sets masks m c s depth e u64 rules few =
    let k = config u sets masks in
    let small : (S : ℕ) → k.size S ≤ 64 = sizes-64 u sets (in_masks masks) u64 in
    let b = penalties-le u 65 (omega arith) k (tree m c s) depth e (literals-low k small (tree m c s) depth (constants-low sets (tree m c s) depth rules)) in
    omega (arith, b, subtree-count u (tree m c s))

-- A membership's penalty, and a comparison's, is 0 or 1.
pub bit-low : (u : ℕ) (k : Configuration) (m : Node) (c : Forest) (e : Tuple) → 5 ≤ kind_number m → kind_number m ≤ 7 → penalty u k m c e < 2
unfolding kind_number test_kind penalty combine literal_penalty test_penalty
bit-low u k root c e h b = absurd (omega arith)
bit-low u k all c e h b = absurd (omega arith)
bit-low u k any c e h b = absurd (omega arith)
bit-low u k and c e h b = absurd (omega arith)
bit-low u k or c e h b = absurd (omega arith)
bit-low u k (lit l) c e h b = go l.test b
  where
    go : (t : Test) → test_kind t ≤ 7 → test_penalty k t e < 2
    go (isin v S) b = omega (arith, indicator-le (not (k.member S (port_of e v))))
    go (notin v S) b = omega (arith, indicator-le (k.member S (port_of e v)))
    go (port r v w) b = omega (arith, indicator-le (not (compare r (port_of e v) (port_of e w))))
    go (size r S n) b = absurd (omega arith)

-- no kind is above 8
kind-number-low : (n : Node) → kind_number n ≤ 8
unfolding kind_number
kind-number-low root = omega arith
kind-number-low all = omega arith
kind-number-low any = omega arith
kind-number-low and = omega arith
kind-number-low or = omega arith
kind-number-low (lit l) = omega (arith, test-kind-range l.test)

pub kind-low : (sets d kind r a b : ℕ) → field_rule sets d kind r a b ≡ true → kind ≤ 8
kind-low sets d kind r a b h = omega (arith, kind-number-low (node_of kind r a b), (fields-node sets d kind r a b h).kind-is)

-- A literal's own cells are all of its tree.
literal-filled : (ports sets depth width at : ℕ) (masks xs ys : List ℕ) (l : Literal) → width ≡ ports ^ depth
    → ys ≡ tabulate width (λ t. literal_penalty (config ports sets masks) l (tuple_at ports depth t))
    → TreeFilled ports sets depth at (lit l) none masks xs (back_to at (at + width) xs ys) width
unfolding cell_count penalty combine table layout
literal-filled ports sets depth width at masks xs ys l wn st = record {
  count = wn ∙ sym (add-zero (ports ^ depth));
  cells_are = λ C X R ex l_c lX.
      ap (λ (x : List ℕ). back_to at (at + width) x ys) ex ∙ back-to-is at (at + width) C X R ys l_c (omega (arith, lX))
      ∙ ap (λ (y : List ℕ). C ++ (y ++ R)) (st ∙ ap (λ (w : ℕ). tabulate w (λ t. literal_penalty (config ports sets masks) l (tuple_at ports depth t))) wn);
}

-- An inner node's own cells, joined from its children's, stand before them.
inner-filled : (ports sets depth width at below' nn : ℕ) (masks xs zs : List ℕ) (m : Node) (c s : Forest) → width ≡ ports ^ depth → below' ≡ child_depth m depth
    → 1 ≤ ports → ports ≤ 64 → kind_number m < 5 → arity_rule (kind_number m) (tree_count c) ≡ true → every_node (node_rule sets) c (child_depth m depth) ≡ true
    → cell_count ports (tree m c s) 0 ≤ 1048576 → Filled (kind_number m) ports sets below' width width depth m c masks (lent at xs) zs nn
    → TreeFilled ports sets depth at m c masks xs (back at xs zs) nn
inner-filled ports sets depth width at below' nn masks xs zs m c s wn bd u1 u64 k ar rules few kids = record {
  count = omega (arith, kids.ends_at, wn, ap (cell_count ports c) bd);
  cells_are = λ C X R ex l_c lX.
      let A = take width X in
      let Y = drop width X in
      let lA : length A ≡ width = length-take-le width X (omega (arith, kids.ends_at)) in
      let lY : length Y ≡ cell_count ports c below' = length-drop width X ∙ (omega (arith, kids.ends_at)) in
      let parts : X ++ R ≡ A ++ ([] ++ (Y ++ R)) = ap (λ (x : List ℕ). x ++ R) (sym (take-append-drop width X)) ∙ append_assoc A Y R in
      ap (λ (x : List ℕ). back at x zs) ex ∙ back_is at C (X ++ R) zs l_c
      ∙ ap (λ (z : List ℕ). C ++ z)
      (kids.cells_are A [] Y R (ap (lent at) ex ∙ lent_is at C (X ++ R) l_c ∙ parts) lA (omega (arith, lA)) lY
      ∙ ap₂ (λ (o : List ℕ) (b : ℕ). o ++ (table ports (config ports sets masks) c b ++ R)) (own A) bd);
}
  where
    own : (A : List ℕ) → tabulate width (λ t. join_into (join_of (kind_number m)) (eqb width width) (get_or A t 0) (treewise ports (config ports sets masks) m c (tuple_at ports depth t)))
        ≡ tabulate (ports ^ depth) (λ t. penalty ports (config ports sets masks) m c (tuple_at ports depth t))
    own A =
        tabulate-cong width _ _ (λ t h.
        ap (λ (b : Bool). join_into (join_of (kind_number m)) b (get_or A t 0) (treewise ports (config ports sets masks) m c (tuple_at ports depth t))) (eq-eqb width width refl)
        ∙ own-cell ports (config ports sets masks) m c (tuple_at ports depth t) (get_or A t 0) u1 k ar (low_below ports sets masks m c s depth (tuple_at ports depth t) u1 u64 rules few))
        ∙ ap (λ (w : ℕ). tabulate w (λ t. penalty ports (config ports sets masks) m c (tuple_at ports depth t))) wn

-- What the code needs of the first record before each call.
pub record TreeFacts (l : List ℕ) (i ports sets depth width at : ℕ) (masks xs : List ℕ) (e kind relation a b : ℕ) : Type 0 where
  pub after : i < e
  pub few : e ≤ 512
  pub within : record_length * (e - i) ≤ length l
  pub kids-shorter : length (kids_of l i e) < length l
  pub depth3 : depth ≤ 3
  pub width_low : width ≤ 262144
  pub own_room : at + width ≤ length xs
  pub literal : 5 ≤ kind → LiteralPlaced sets kind relation a b ports depth width masks (lent_to at (at + width) xs)
  pub kids : (below wider : ℕ) → below ≡ kind_depth kind depth → wider ≡ kind_width kind width ports
      → FillPlaced (kids_of l i e) (i + 1) kind ports sets below wider width width masks (lent at xs)

pub tree-facts : (l : List ℕ) (i ports sets depth width at : ℕ) (masks xs : List ℕ) → record_length ≤ length l → TreesPlaced l i ports sets depth width at masks xs
    → (e : ℕ) → e ≡ end_field l → (kind relation a b : ℕ) → kind ≡ kind_field l → relation ≡ relation_field l → a ≡ a_field l → b ≡ b_field l
    → TreeFacts l i ports sets depth width at masks xs e kind relation a b
unfolding cell_count
tree-facts l i ports sets depth width at masks xs long p e en kind relation a b ki ri ai bi = rw (ki, ri, ai, bi) (go p.forest refl)
  where
    go : (f : Forest) → p.forest ≡ f → TreeFacts l i ports sets depth width at masks xs e (kind_field l) (relation_field l) (a_field l) (b_field l)
    go none q = absurd (not_none l i p.up (p.is ∙ ap (λ (x : Forest). records x i p.up) q) long)
    go (tree m c s) q =
        let is = p.is ∙ ap (λ (x : Forest). records x i p.up) q in
        let o = part-opened l i p.up depth sets e m c s is (ap (λ (x : Forest). every_node (node_rule sets) x depth) (sym q) ∙ p.rules) en in
        let room : at + cell_count ports (tree m c s) depth ≤ length xs = rw q at p.room in
        let few : cell_count ports (tree m c s) 0 ≤ 1048576 = rw q at p.few in
        let w = p.width_is in
        let sp = part-span l i p.up depth sets m c s e o p.nodes in
        let own : at + width ≤ length xs = omega arith in
        let lx = lent_length at (at + width) xs (omega arith) own in
        record {
          after = sp.after;
          few = sp.few;
          within = sp.within;
          kids-shorter = sp.kids-shorter;
          depth3 = o.depth3;
          width_low = rw w (width_low ports depth p.ports1 p.ports64 o.depth3);
          own_room = own;
          literal = λ h. record {
            kind5 = h;
            kind8 = kind-low sets depth (kind_field l) (relation_field l) (a_field l) (b_field l) o.fields;
            fields = o.fields;
            all-masks = p.sets-masks;
            within = λ S z. within-at ports masks p.within S (omega (arith, p.sets-masks));
            ports1 = p.ports1;
            ports64 = p.ports64;
            depth3 = o.depth3;
            width_is = w;
            room = omega arith;
          };
          kids = λ below wider bd wd.
              let lz : length (lent at xs) ≡ length xs - at = lent_length at (length xs) xs (omega arith) (omega arith) in
              let b = bd ∙ sym o.below in
              record {
                trees = record {
                  forest = c;
                  up = i;
                  width_is = wd ∙ kind-width (kind_field l) width ports depth w ∙ ap (λ (x : ℕ). ports ^ x) (sym bd);
                  is = o.kids;
                  rules = ap (every_node (node_rule sets) c) b ∙ o.rules-kids;
                  few = (few-parts ports m c s p.ports1 few).1;
                  nodes = sp.kids-nodes;
                  ports1 = p.ports1;
                  ports64 = p.ports64;
                  depth4 = omega (arith, kind-depth-le (kind_field l) depth, o.depth3);
                  sets-masks = p.sets-masks;
                  within = p.within;
                  room = omega (arith, lz, ap (cell_count ports c) b);
                };
                parent = m;
                outer = depth;
                kind-is = sym o.kind;
                depth_is = b;
                over-is = w;
                after = omega arith;
                alone = ⊎_elim (λ (h : spread_of (kind_field l) ports ≡ 1). inl h) (λ (h : tree_count c ≤ 1). inr (omega arith)) (one-child (kind_field l) (tree_count c) ports (ap (λ (x : ℕ). arity_rule x (tree_count c)) o.kind ∙ o.arity));
              };
        }

-- Both over the calls' own contracts, and the fields as the code reads them.
module _ (l : List ℕ) (i ports sets depth width at : ℕ) (masks xs : List ℕ) (long : record_length ≤ length l) (p : TreesPlaced l i ports sets depth width at masks xs)
    (kind : ℕ) (ki : kind ≡ kind_field l) where
  opened : (m : Node) (c s : Forest) (up : ℕ) → l ≡ records (tree m c s) i up → (e : ℕ) → e ≡ end_field l
      → PartOpened l i up depth sets m c s e × (cell_count ports (tree m c s) 0 ≤ 1048576)
  opened m c s up is e en =
      let g = one-forest l p.forest (tree m c s) i p.up up p.is is in
      (part-opened l i up depth sets e m c s is (ap (λ (x : Forest). every_node (node_rule sets) x depth) (sym g) ∙ p.rules) en, rw g at p.few)

  pub fill-literal : (relation a b : ℕ) → relation ≡ relation_field l → a ≡ a_field l → b ≡ b_field l → 5 ≤ kind → (ys : List ℕ)
      → ys ≡ tabulate width (λ t. literal_penalty (config ports sets masks) (literal_of (test_of kind relation a b)) (tuple_at ports depth t)) ++ drop width (lent_to at (at + width) xs)
      → FillsTree l i ports sets depth at masks xs (back_to at (at + width) xs ys) width
  unfolding FillsTree kind_number
  fill-literal relation a b ri ai bi h ys st m c s up is =
      let o = (opened m c s up is (end_field l) refl).0 in
      let t = literal_of (test_of kind relation a b) in
      let room = (tree-facts l i ports sets depth width at masks xs long p (end_field l) refl kind relation a b ki ri ai bi).own_room in
      let node : lit t ≡ m =
      sym (literal-node kind relation a b h) ∙ (λ j. node_of (ki j) (ri j) (ai j) (bi j)) ∙ o.node-is in
      let leaf : none ≡ c = sym (no-tree c (literal-children t.test (tree_count c) (ap (λ (n : Node). arity_rule (kind_number n) (tree_count c)) node ∙ o.arity))) in
      let own = st ∙ nothing-behind width _ (lent_to at (at + width) xs) (lent_length at (at + width) xs (omega arith) room ∙ omega arith) in
      subst (λ (n : Node). TreeFilled ports sets depth at n c masks xs (back_to at (at + width) xs ys) width) node
      (subst (λ (f : Forest). TreeFilled ports sets depth at (lit t) f masks xs (back_to at (at + width) xs ys) width) leaf
      (literal-filled ports sets depth width at masks xs ys t p.width_is own))

  pub fill-inner : (e : ℕ) → e ≡ end_field l → kind < 5 → (below' nn : ℕ) → below' ≡ kind_depth kind depth → (zs : List ℕ)
      → Fills (kids_of l i e) (i + 1) kind ports sets below' width width masks (lent at xs) zs nn
      → FillsTree l i ports sets depth at masks xs (back at xs zs) nn
  unfolding FillsTree Fills
  fill-inner e en h below' nn bd zs kids m c s up is =
      let q = opened m c s up is e en in
      let o = q.0 in
      let k : kind ≡ kind_number m = ki ∙ o.kind in
      let b = bd ∙ ap (λ (x : ℕ). kind_depth x depth) ki ∙ sym o.below in
      inner-filled ports sets depth width at below' nn masks xs zs m c s p.width_is b p.ports1 p.ports64 (omega (arith, k)) o.arity o.rules-kids q.1
      (subst (λ (x : ℕ). Filled x ports sets below' width width depth m c masks (lent at xs) zs nn) k
      (kids m depth c i (sym k) b p.width_is o.kids))
