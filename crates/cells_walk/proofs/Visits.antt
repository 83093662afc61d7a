-- From a visited forest to its first tree, its children and its later siblings, and what a visited cell comes to. Assumes nothing.
use mathlib.Core.Path.{◌≡◌, refl, sym, ap, ap₂, ◌∙◌, subst}
use mathlib.Core.Logic.{◌≢◌}
use mathlib.Core.Bool.{Bool, true, false, cond, not, false≢true}
use mathlib.Core.List.{List, ◌∷◌}
use Prim.Native.Nat.{ℕ, suc, ◌+◌, ◌*◌, ◌^◌, ◌≤◌, ◌<◌}
use native.Mathlib.Nat.{mul-le-mul_right, pow-suc, suc-mul}
use native.Mathlib.Omega.{arith}
use lib.Bits.{bit_or, or_zero_r}
use lib.Dec.{eqb}
use lib.ListN.{length, get_or}
use borrow.Author.Tests.{ne_eqb}
use Rattle.logic.specs.Formula.{Test, Literal, isin, notin, port, size, Node, root, all, any, and, or, lit, Forest, none, tree, node_count, child_depth}
use Rattle.logic.specs.inner.Literals.{Every, OfLiteral, OfTest, ConstantLow, ConstantsLow}
use Rattle.logic.specs.Truth.{Tuple, port_of}
use Rattle.logic.specs.Configuration.{Configuration, indicator}
use Rattle.logic.specs.Penalty.{test_penalty, literal_penalty}
use Rattle.logic.specs.Cells.{place_of, cell_count, sibling_first}
use Rattle.logic.specs.Change.{Change, forest_hit, touched}
use Rattle.logic.proofs.Lists.{more, or_left, or-false}
use Rattle.logic.proofs.Untouched.{forest-deeper}
use Rattle.logic.proofs.Tables.{length-tuple, place-lt}
use Rattle.cells_touch.specs.declared.Changed.{Changed}
use Rattle.cells_touch.specs.inner.Hits.{meets, Marked, Describes, rest_word, port_word}
use Rattle.cells_touch.proofs.Touching.{touched-meets, port-word-is, port-meets, port-word-other, other-variable}
use Rattle.cells_touch.proofs.Bits.{meets-zero}
use Rattle.table_format.specs.Rules.{tree_count}
use Rattle.table_format.specs.inner.Index.{test_uses, node_uses, forest_uses}
use Rattle.cells_walk.specs.inner.Nodes.{NodeIs, IndexHolds, TestFits, NodeFits, Fitting}
use Rattle.cells_walk.proofs.Outcomes.{no-trees}
use Rattle.cells_walk.specs.inner.Visit.{packed, Visit, RowVisit}

-- what a fitting forest's literals are
test-marked : (sets d : ℕ) → sets ≤ 16 → d ≤ 3 → (t : Test) → TestFits sets d t → Marked t
unfolding TestFits Marked
test-marked sets d h k (isin v S) f = (omega (arith, f.0), omega (arith, f.1))
test-marked sets d h k (notin v S) f = (omega (arith, f.0), omega (arith, f.1))
test-marked sets d h k (port r v w) f = Prim.tt
test-marked sets d h k (size r S c) f = omega (arith, f.0)

node-marked : (sets d : ℕ) → sets ≤ 16 → d ≤ 3 → (n : Node) → OfTest (TestFits sets d) n → OfTest Marked n
unfolding OfLiteral
node-marked sets d h k root f = Prim.tt
node-marked sets d h k all f = Prim.tt
node-marked sets d h k any f = Prim.tt
node-marked sets d h k and f = Prim.tt
node-marked sets d h k or f = Prim.tt
node-marked sets d h k (lit l) f = test-marked sets d h k l.test f

pub all-marked : (sets : ℕ) → sets ≤ 16 → (f : Forest) (d : ℕ) → Fitting sets f d → Every (λ n c i. OfTest Marked n) f d
unfolding Fitting Every
all-marked sets h none d f = Prim.tt
all-marked sets h (tree n c s) d f =
    (node-marked sets d h f.0.depth3 n f.0.literal, all-marked sets h c (child_depth n d) f.1, all-marked sets h s d f.2)

test-constant : (sets d : ℕ) (t : Test) → TestFits sets d t → ConstantLow t
unfolding TestFits ConstantLow
test-constant sets d (isin v S) f = Prim.tt
test-constant sets d (notin v S) f = Prim.tt
test-constant sets d (port r v w) f = Prim.tt
test-constant sets d (size r S c) f = f.1

node-constant : (sets d : ℕ) (n : Node) → OfTest (TestFits sets d) n → OfTest ConstantLow n
unfolding OfLiteral
node-constant sets d root f = Prim.tt
node-constant sets d all f = Prim.tt
node-constant sets d any f = Prim.tt
node-constant sets d and f = Prim.tt
node-constant sets d or f = Prim.tt
node-constant sets d (lit l) f = test-constant sets d l.test f

pub all-constants : (sets : ℕ) (f : Forest) (d : ℕ) → Fitting sets f d → ConstantsLow f d
unfolding Fitting Every ConstantsLow
all-constants sets none d f = Prim.tt
all-constants sets (tree n c s) d f =
    (node-constant sets d n f.0.literal, all-constants sets c (child_depth n d) f.1, all-constants sets s d f.2)

-- a test that the rest of a word meets has the same penalty at every port
other-port : (e : Tuple) (v d x y : ℕ) → length e ≡ d → v ≢ d → port_of (x ∷ e) v ≡ port_of (y ∷ e) v
unfolding port_of
other-port e v d x y h n =
    let b : eqb v (length e) ≡ false = ne_eqb v (length e) (λ q. n (q ∙ h)) in
    ap (λ (a : Bool). cond a x (port_of e v)) b ∙ sym (ap (λ (a : Bool). cond a y (port_of e v)) b)

same_number : (k : Configuration) (t : Test) (w d : ℕ) (e : Tuple) (x y : ℕ) → length e ≡ d → d < 3 → Marked t → meets (test_uses t) (rest_word w d) ≡ true
    → test_penalty k t (x ∷ e) ≡ test_penalty k t (y ∷ e)
unfolding test_penalty test_uses Marked
same_number k (isin v S) w d e x y h l m i =
    ap (λ (p : ℕ). indicator (not (k.member S p))) (other-port e v d x y h (other-variable S v w d l m.1 m.0 i))
same_number k (notin v S) w d e x y h l m i =
    ap (λ (p : ℕ). indicator (k.member S p)) (other-port e v d x y h (other-variable S v w d l m.1 m.0 i))
same_number k (port r v z) w d e x y h l m i = absurd (false≢true (sym (meets-zero (rest_word w d)) ∙ i))
same_number k (size r S c) w d e x y h l m i = refl

module _ (u sets : ℕ) (ch : Change) (bytes firsts ends uses cells : List ℕ) where
  -- a visited tree
  module _ (i : ℕ) (n : Node) (c s : Forest) (b d : ℕ) (e : Tuple) (place digits word : ℕ)
      (v : Visit u sets ch bytes firsts ends uses cells i (tree n c s) b d e place digits word) where
    pub node-here : NodeIs bytes firsts ends uses i n c b
    unfolding IndexHolds
    node-here = v.holds.0

    pub fits-here : NodeFits sets n c d
    unfolding Fitting Every
    fits-here = v.fitting.0

    pub node-below : i < 512
    unfolding node_count
    node-below = omega (arith, v.nodes)

    pub room-here : 1 ≤ u → get_or firsts i 0 + place < length cells
    unfolding cell_count
    room-here u1 = omega (arith, v.room, node-here.first-is, v.place_is, place-lt u u1 v.tuple)

    -- the later siblings
    pub visit-next : Visit u sets ch bytes firsts ends uses cells (i + suc (node_count c)) s (sibling_first u n c b d) d e place digits word
    unfolding IndexHolds Fitting Every node_count cell_count sibling_first
    visit-next = record {
      holds = v.holds.2;
      fitting = v.fitting.2;
      tuple = v.tuple;
      place_is = v.place_is;
      digits_are = v.digits_are;
      word-is = v.word-is;
      room = omega (arith, v.room);
      nodes = omega (arith, v.nodes);
    }

    -- the children of a node that binds no variable
    pub visit-children : child_depth n d ≡ d → Visit u sets ch bytes firsts ends uses cells (suc i) c (b + u ^ d) d e place digits word
    unfolding IndexHolds Fitting Every node_count cell_count
    visit-children q = record {
      holds = subst (λ (x : ℕ). IndexHolds u bytes firsts ends uses (suc i) c (b + u ^ d) x) q v.holds.1;
      fitting = subst (λ (x : ℕ). Every (NodeFits sets) c x) q v.fitting.1;
      tuple = v.tuple;
      place_is = v.place_is;
      digits_are = v.digits_are;
      word-is = v.word-is;
      room = omega (arith, v.room, ap (cell_count u c) q);
      nodes = omega (arith, v.nodes);
    }

    -- the children of a quantifier
    pub visit-ports : child_depth n d ≡ suc d → d < 3
        → RowVisit u sets ch bytes firsts ends uses cells (suc i) c (b + u ^ d) d e (place * u) digits word
    unfolding IndexHolds Fitting Every node_count cell_count
    visit-ports q l = record {
      holds = subst (λ (x : ℕ). IndexHolds u bytes firsts ends uses (suc i) c (b + u ^ d) x) q v.holds.1;
      fitting = subst (λ (x : ℕ). Every (NodeFits sets) c x) q v.fitting.1;
      tuple = v.tuple;
      row_is = ap (λ (x : ℕ). x * u) v.place_is;
      digits_are = v.digits_are;
      word-is = v.word-is;
      room = omega (arith, v.room, ap (cell_count u c) q);
      nodes = omega (arith, v.nodes);
      depth = l;
    }

    -- the test of a touched cell
    pub touched-here : sets ≤ 16 → touched ch n c e ≡ meets (get_or uses i 0) word
    unfolding Fitting Every
    touched-here h =
        touched-meets ch e word v.word-is n c (child_depth n d) (node-marked sets d h fits-here.depth3 n fits-here.literal)
        (all-marked sets h c (child_depth n d) v.fitting.1)
        ∙ ap (λ (x : ℕ). meets x word) (sym node-here.uses-are)

  -- a port below a quantifier
  pub port-visit : (c' : Changed) → Describes u ch c' → (i : ℕ) (f : Forest) (b d : ℕ) (e : Tuple) (row digits word x : ℕ)
      → RowVisit u sets ch bytes firsts ends uses cells i f b d e row digits word → x < u
      → Visit u sets ch bytes firsts ends uses cells i f b (suc d) (x ∷ e) (row + x) (digits + x * 256 ^ d) (port_word c' word d x)
  unfolding place_of packed
  port-visit c' says i f b d e row digits word x v l = record {
    holds = v.holds;
    fitting = v.fitting;
    tuple = more l v.tuple;
    place_is = ap (λ (y : ℕ). y + x) v.row_is;
    digits_are = ap₂ (λ (y z : ℕ). y + x * 256 ^ z) v.digits_are (sym (length-tuple v.tuple));
    word-is = port-word-is u ch c' says e word d x v.word-is (length-tuple v.tuple) v.depth;
    room = v.room;
    nodes = v.nodes;
  }

  -- a visited row of a tree
  module _ (i : ℕ) (n : Node) (c s : Forest) (b d : ℕ) (e : Tuple) (row digits word : ℕ)
      (v : RowVisit u sets ch bytes firsts ends uses cells i (tree n c s) b d e row digits word) where
    pub row-node : NodeIs bytes firsts ends uses i n c b
    unfolding IndexHolds
    row-node = v.holds.0

    pub row_fits : NodeFits sets n c (suc d)
    unfolding Fitting Every
    row_fits = v.fitting.0

    -- the later siblings, and the children of a node that binds no variable
    pub row_next : RowVisit u sets ch bytes firsts ends uses cells (i + suc (node_count c)) s (sibling_first u n c b (suc d)) d e row digits word
    unfolding IndexHolds Fitting Every node_count cell_count sibling_first
    row_next = record {
      holds = v.holds.2;
      fitting = v.fitting.2;
      tuple = v.tuple;
      row_is = v.row_is;
      digits_are = v.digits_are;
      word-is = v.word-is;
      room = omega (arith, v.room);
      nodes = omega (arith, v.nodes);
      depth = v.depth;
    }

    pub row-children : child_depth n (suc d) ≡ suc d → RowVisit u sets ch bytes firsts ends uses cells (suc i) c (b + u ^ suc d) d e row digits word
    unfolding IndexHolds Fitting Every node_count cell_count
    row-children q = record {
      holds = subst (λ (x : ℕ). IndexHolds u bytes firsts ends uses (suc i) c (b + u ^ suc d) x) q v.holds.1;
      fitting = subst (λ (x : ℕ). Every (NodeFits sets) c x) q v.fitting.1;
      tuple = v.tuple;
      row_is = v.row_is;
      digits_are = v.digits_are;
      word-is = v.word-is;
      room = omega (arith, v.room, ap (cell_count u c) q);
      nodes = omega (arith, v.nodes);
      depth = v.depth;
    }

    -- its last cell is in the table
    pub row_room : 1 ≤ u → get_or firsts i 0 + row + u ≤ length cells
    unfolding cell_count
    row_room u1 =
        let l : suc (place_of u e) ≤ u ^ d = place-lt u u1 v.tuple in
        let m : suc (place_of u e) * u ≤ u ^ d * u = mul-le-mul_right u l in
        omega (arith, v.room, row-node.first-is, v.row_is, m, pow-suc u d, suc-mul (place_of u e) u)

    -- which of its cells are touched
    module _ (h : sets ≤ 16) where
      pub touched-port : (c' : Changed) → Describes u ch c' → (x : ℕ) → x < u → touched ch n c (x ∷ e) ≡ meets (get_or uses i 0) (port_word c' word d x)
      touched-port c' says x l =
          touched-here i n c s b (suc d) (x ∷ e) (row + x) (digits + x * 256 ^ d) (port_word c' word d x) (port-visit c' says i (tree n c s) b d e row digits word x v l) h

      -- all of them, or at most those at the ports of the change
      pub every-touched : (c' : Changed) → Describes u ch c' → meets (get_or uses i 0) (rest_word word d) ≡ true → (x : ℕ) → x < u → touched ch n c (x ∷ e) ≡ true
      every-touched c' says m x l = touched-port c' says x l ∙ port-meets c' (get_or uses i 0) word d x m

      pub few-touched : (c' : Changed) → Describes u ch c' → meets (get_or uses i 0) (rest_word word d) ≡ false → (x : ℕ) → x < u → x ≢ c'.p → x ≢ c'.q
          → touched ch n c (x ∷ e) ≡ false
      few-touched c' says m x l np nq = touched-port c' says x l ∙ ap (meets (get_or uses i 0)) (port-word-other c' word d x np nq) ∙ m

      -- none of them, where the word of the tuple above says so
      pub none-touched : meets (get_or uses i 0) word ≡ false → (x : ℕ) → touched ch n c (x ∷ e) ≡ false
      unfolding Fitting Every forest_hit touched
      none-touched m x =
          let above : touched ch n c e ≡ false =
          touched-meets ch e word v.word-is n c (child_depth n (suc d)) (node-marked sets (suc d) h row_fits.depth3 n row_fits.literal) (all-marked sets h c (child_depth n (suc d)) v.fitting.1)
          ∙ ap (λ (y : ℕ). meets y word) (sym row-node.uses-are) ∙ m in
          or_left (touched ch n c (x ∷ e)) _ (forest-deeper ch (tree n c none) x e (or-false (touched ch n c e) false above refl))

      -- a literal that is touched at every port does not look at the row's own variable: it has one number there
      pub one_number : (l : Literal) → n ≡ lit l → tree_count c ≡ 0 → meets (get_or uses i 0) (rest_word word d) ≡ true → (k : Configuration) (x y : ℕ)
          → literal_penalty k l (x ∷ e) ≡ literal_penalty k l (y ∷ e)
      unfolding literal_penalty node_uses forest_uses OfLiteral
      one_number l q z m k x y =
          let own : meets (test_uses l.test) (rest_word word d) ≡ true =
          sym (ap (λ (a : ℕ). meets a (rest_word word d))
          (row-node.uses-are ∙ ap₂ (λ (a : Node) (f : Forest). bit_or (node_uses a) (forest_uses f)) q (no-trees c z) ∙ or_zero_r (test_uses l.test))) ∙ m in
          same_number k l.test word d e x y (length-tuple v.tuple) v.depth
          (test-marked sets (suc d) h row_fits.depth3 l.test (subst (OfTest (TestFits sets (suc d))) q row_fits.literal)) own
