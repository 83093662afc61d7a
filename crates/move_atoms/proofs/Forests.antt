-- The trees of a forest gone into the tables one after the other. Assumes nothing.
use mathlib.Core.Path.{◌≡◌, refl, sym, ap, ◌∙◌, subst}
use mathlib.Core.Bool.{Bool, true, false, cond, false≢true}
use mathlib.Core.List.{List}
use Prim.Native.Nat.{ℕ, suc, ◌+◌, ◌*◌, ◌^◌, ◌%◌, ◌≤◌, ◌<◌}
use native.Mathlib.Omega.{arith}
use lib.Dec.{eqb}
use lib.ListN.{length, get_or}
use Rattle.logic.specs.Formula.{Node, Forest, none, tree, Plan, node_count, child_depth}
use Rattle.logic.specs.inner.Literals.{Every}
use Rattle.logic.specs.Cells.{cell_count, sibling_first}
use Rattle.logic.specs.Change.{modulus}
use Rattle.table_format.specs.Bytes.{record_length, kind_field, records_of, record_at}
use Rattle.cells_walk.specs.inner.Nodes.{IndexHolds, Fitting}
use Rattle.cells_atoms.specs.inner.Atoms.{is_atom, of_atoms, AllRegular}
use Rattle.cells_atoms.proofs.Over.{sum-mod}
use Rattle.cells_share.specs.inner.Listed.{Listed}
use Rattle.move_shares.specs.inner.Shares.{share_of}
use Rattle.move_tables.specs.declared.Left.{Left}
use Rattle.move_tables.specs.inner.Taking.{is_sum, ForestStands, whole_read, MovesTaken, TakeReady, TakesTree, TakeAllReady, TakesAll}
use Rattle.move_tables.proofs.Standing.{node-low, depth_low, end-here, sum-here}

-- Where the children stand, and the siblings.
module _ {u sets : ℕ} {bytes firsts ends uses cells : List ℕ} {i : ℕ} {n : Node} {c s : Forest} {b d : ℕ}
    (h : ForestStands u sets bytes firsts ends uses cells i (tree n c s) b d) where
  children-stand : ForestStands u sets bytes firsts ends uses cells (suc i) c (b + u ^ d) (child_depth n d)
  unfolding IndexHolds Fitting AllRegular Every node_count cell_count
  children-stand = record {
    holds = h.holds.1;
    fitting = h.fitting.1;
    regular = h.regular.1;
    room = omega (arith, h.room);
    nodes = omega (arith, h.nodes);
  }

  next-stand : ForestStands u sets bytes firsts ends uses cells (i + suc (node_count c)) s (sibling_first u n c b d) d
  unfolding IndexHolds Fitting AllRegular Every node_count cell_count sibling_first
  next-stand = record {
    holds = h.holds.2;
    fitting = h.fitting.2;
    regular = h.regular.2;
    room = omega (arith, h.room);
    nodes = omega (arith, h.nodes);
  }

  pub kind-asked : record_length * i + record_length ≤ length (records_of bytes)
  unfolding IndexHolds
  kind-asked = h.holds.0.whole

-- what the moves' shares come to
module _ (u : ℕ) (masks sizes cells : List ℕ) (P : Plan) (transfers : Bool) where
  sum-taken : (n : Node) (c : Forest) (b d : ℕ) (one still joint : List ℕ) (xs ys : List Listed) (one' still' joint' : List ℕ) (xs' ys' : List Listed) → is_atom n ≡ false
      → MovesTaken u masks sizes cells P transfers c (b + u ^ d) (child_depth n d) one still joint xs ys one' still' joint' xs' ys'
      → MovesTaken u masks sizes cells P transfers (tree n c none) b d one still joint xs ys one' still' joint' xs' ys'
  unfolding MovesTaken of_atoms
  sum-taken n c b d one still joint xs ys one' still' joint' xs' ys' e H m l t =
      let g = share_of P masks cells m in
      let below : cond (is_atom n) (g n c b d) (of_atoms u g c (b + u ^ d) (child_depth n d)) + 0 ≡ of_atoms u g c (b + u ^ d) (child_depth n d) =
      ap (λ (a : Bool). cond a (g n c b d) (of_atoms u g c (b + u ^ d) (child_depth n d)) + 0) e ∙ plus_none _ in
      H m l t ∙ ap (λ (x : ℕ). (whole_read P masks sizes cells one still joint xs ys m + x) % modulus) (sym below)
    where
      plus_none : (x : ℕ) → x + 0 ≡ x
      plus_none x = omega arith

  more-taken : (n : Node) (c s : Forest) (b d : ℕ) (one still joint : List ℕ) (xs ys : List Listed) (one' still' joint' : List ℕ) (xs' ys' : List Listed)
      (one'' still'' joint'' : List ℕ) (xs'' ys'' : List Listed)
      → MovesTaken u masks sizes cells P transfers (tree n c none) b d one still joint xs ys one' still' joint' xs' ys'
      → MovesTaken u masks sizes cells P transfers s (sibling_first u n c b d) d one' still' joint' xs' ys' one'' still'' joint'' xs'' ys''
      → MovesTaken u masks sizes cells P transfers (tree n c s) b d one still joint xs ys one'' still'' joint'' xs'' ys''
  unfolding MovesTaken of_atoms
  more-taken n c s b d one still joint xs ys one' still' joint' xs' ys' one'' still'' joint'' xs'' ys'' H K m l t = after_both _ _ _ _ _ (H m l t) (K m l t)
    where
      after_both : (a a' a'' x y : ℕ) → a' % modulus ≡ (a + (x + 0)) % modulus → a'' % modulus ≡ (a' + y) % modulus → a'' % modulus ≡ (a + (x + y)) % modulus
      after_both a a' a'' x y p q =
          let e : a + (x + 0) + y ≡ a + (x + y) = omega arith in
          q ∙ sum-mod a' (a + (x + 0)) y y p refl ∙ ap (λ (z : ℕ). z % modulus) e

  none-taken : (b d : ℕ) (one still joint : List ℕ) (xs ys : List Listed) → MovesTaken u masks sizes cells P transfers none b d one still joint xs ys one still joint xs ys
  unfolding MovesTaken of_atoms
  none-taken b d one still joint xs ys m l t =
      let e : whole_read P masks sizes cells one still joint xs ys m ≡ whole_read P masks sizes cells one still joint xs ys m + 0 = omega arith in
      ap (λ (z : ℕ). z % modulus) e

-- for every forest that may stand there
module _ (u sets : ℕ) (bytes firsts ends uses masks sizes cells : List ℕ) (transfers : Bool) (one still joint lists : List ℕ) (left : Left) (one' still' joint' lists' : List ℕ) (left' : Left) where
  pub sum-tree : (i until d deeper kind : ℕ) → kind ≡ kind_field (record_at bytes i) → is_sum kind ≡ true → until ≡ get_or ends i 0 → deeper ≡ cond (eqb kind 1) (d + 1) d
      → TakesAll u sets bytes firsts ends uses masks sizes cells (i + 1) until deeper transfers one still joint lists left one' still' joint' lists' left'
      → TakesTree u sets bytes firsts ends uses masks sizes cells i d transfers one still joint lists left one' still' joint' lists' left'
  unfolding TakesAll TakesTree node_count
  sum-tree i until d deeper kind q k e f H P n c s b g w xs ys given few few-crossed =
      let r = sum-here w (ap is_sum (sym q) ∙ k) in
      let d-is : child_depth n d ≡ deeper = r.1 ∙ ap (λ (x : ℕ). cond (eqb x 1) (d + 1) d) (sym q) ∙ sym f in
      let i-is : suc i ≡ i + 1 = omega arith in
      let below = subst (λ (x : ℕ). ForestStands u sets bytes firsts ends uses cells x c (b + u ^ d) deeper) i-is
      (subst (λ (x : ℕ). ForestStands u sets bytes firsts ends uses cells (suc i) c (b + u ^ d) x) d-is (children-stand w)) in
      let ends_at : until ≡ i + 1 + node_count c = omega (arith, e, end-here w) in
      let t = H P c (b + u ^ d) g below ends_at xs ys given (omega arith) (omega arith) in
      record {
        listed = t.listed;
        crossing = t.crossing;
        given = t.given;
        few = omega (arith, t.few);
        few-crossed = omega (arith, t.few-crossed);
        moves = sum-taken u masks sizes cells P transfers n c b d one still joint xs ys one' still' joint' t.listed t.crossing r.0
            (subst (λ (x : ℕ). MovesTaken u masks sizes cells P transfers c (b + u ^ d) x one still joint xs ys one' still' joint' t.listed t.crossing) (sym d-is) t.moves);
      }

  pub trees-more : (j next until d : ℕ) (one'' still'' joint'' lists'' : List ℕ) (left'' : Left) → j < until → next ≡ get_or ends j 0
      → TakesTree u sets bytes firsts ends uses masks sizes cells j d transfers one still joint lists left one' still' joint' lists' left'
      → TakesAll u sets bytes firsts ends uses masks sizes cells next until d transfers one' still' joint' lists' left' one'' still'' joint'' lists'' left''
      → TakesAll u sets bytes firsts ends uses masks sizes cells j until d transfers one still joint lists left one'' still'' joint'' lists'' left''
  unfolding TakesAll TakesTree node_count
  trees-more j next until d one'' still'' joint'' lists'' left'' l e H K P none b g w r xs ys given few few-crossed = absurd (omega arith)
  trees-more j next until d one'' still'' joint'' lists'' left'' l e H K P (tree n c s) b g w r xs ys given few few-crossed =
      let at : next ≡ j + suc (node_count c) = e ∙ end-here w in
      let t = H P n c s b g w xs ys given few few-crossed in
      let v = K P s (sibling_first u n c b d) g (subst (λ (x : ℕ). ForestStands u sets bytes firsts ends uses cells x s (sibling_first u n c b d) d) (sym at) (next-stand w)) (omega arith)
      t.listed t.crossing t.given (omega (arith, t.few)) (omega (arith, t.few-crossed)) in
      record {
        listed = v.listed;
        crossing = v.crossing;
        given = v.given;
        few = omega (arith, v.few);
        few-crossed = omega (arith, v.few-crossed);
        moves = more-taken u masks sizes cells P transfers n c s b d one still joint xs ys one' still' joint' t.listed t.crossing one'' still'' joint'' v.listed v.crossing
            t.moves v.moves;
      }

pub trees-none : (u sets : ℕ) (bytes firsts ends uses masks sizes cells : List ℕ) (j until d : ℕ) (transfers : Bool) (one still joint lists : List ℕ) (left : Left) → until ≤ j
    → TakesAll u sets bytes firsts ends uses masks sizes cells j until d transfers one still joint lists left one still joint lists left
unfolding TakesAll node_count
trees-none u sets bytes firsts ends uses masks sizes cells j until d transfers one still joint lists left l P none b g w r xs ys given few few-crossed = record {
  listed = xs;
  crossing = ys;
  given = given;
  few = omega arith;
  few-crossed = omega arith;
  moves = none-taken u masks sizes cells P transfers b d one still joint xs ys;
}
trees-none u sets bytes firsts ends uses masks sizes cells j until d transfers one still joint lists left l P (tree n c s) b g w r xs ys given few few-crossed = absurd (omega arith)

-- what the steps ask
module _ {u sets : ℕ} {bytes firsts ends uses masks sizes cells : List ℕ} {i until d : ℕ} {mine own one still joint lists : List ℕ} {left : Left}
    (h : TakeAllReady u sets bytes firsts ends uses masks sizes cells i until d mine own one still joint lists left) (l : i < until) where
  pub tree-asked : TakeReady u sets bytes firsts ends uses masks sizes cells i d false mine own one still joint lists left
  unfolding node_count
  tree-asked = go h.forest h.stands h.ends_at
    where
      go : (f : Forest) → ForestStands u sets bytes firsts ends uses cells i f h.first d → until ≡ i + node_count f
          → TakeReady u sets bytes firsts ends uses masks sizes cells i d false mine own one still joint lists left
      go none w e = absurd (omega arith)
      go (tree n c s) w e = record {
        plan = h.plan;
        node = n;
        children = c;
        siblings = s;
        first = h.first;
        given = h.given;
        stands = w;
        is-atom = λ x. absurd (false≢true x);
        room = h.room;
        list = h.list;
      }

  next-later : (next : ℕ) → next ≡ get_or ends i 0 → i < next
  unfolding node_count
  next-later next e = go h.forest h.stands h.ends_at
    where
      go : (f : Forest) → ForestStands u sets bytes firsts ends uses cells i f h.first d → until ≡ i + node_count f → i < next
      go none w r = absurd (omega arith)
      go (tree n c s) w r = omega (arith, e, end-here w)

  rest-asked : (transfers : Bool) (mine' own' one' still' joint' lists' : List ℕ) (left' : Left) (next : ℕ) → next ≡ get_or ends i 0
      → length mine' ≡ length mine → length own' ≡ length own → length one' ≡ length one → length still' ≡ length still → length joint' ≡ length joint → length lists' ≡ length lists
      → TakesTree u sets bytes firsts ends uses masks sizes cells i d transfers one still joint lists left one' still' joint' lists' left'
      → TakeAllReady u sets bytes firsts ends uses masks sizes cells next until d mine' own' one' still' joint' lists' left'
  unfolding TakesTree node_count
  rest-asked transfers mine' own' one' still' joint' lists' left' next e k1 k2 k3 k4 k5 k6 H = go h.forest h.stands h.ends_at
    where
      go : (f : Forest) → ForestStands u sets bytes firsts ends uses cells i f h.first d → until ≡ i + node_count f
          → TakeAllReady u sets bytes firsts ends uses masks sizes cells next until d mine' own' one' still' joint' lists' left'
      go none w r = absurd (omega arith)
      go (tree n c s) w r =
          let at : next ≡ i + suc (node_count c) = e ∙ end-here w in
          let t = H h.plan n c s h.first h.given w h.list.listed h.list.crossing h.list.given h.room.few h.room.few-crossed in
          record {
            plan = h.plan;
            forest = s;
            first = sibling_first u n c h.first d;
            given = h.given;
            stands = subst (λ (x : ℕ). ForestStands u sets bytes firsts ends uses cells x s (sibling_first u n c h.first d) d) (sym at) (next-stand w);
            ends_at = omega arith;
            room = record {
              mine-long = k1 ∙ h.room.mine-long;
              own-long = k2 ∙ h.room.own-long;
              one-long = k3 ∙ h.room.one-long;
              still-long = k4 ∙ h.room.still-long;
              joint-long = k5 ∙ h.room.joint-long;
              lists-long = k6 ∙ h.room.lists-long;
              few = omega (arith, t.few);
              few-crossed = omega (arith, t.few-crossed);
            };
            list = record { listed = t.listed; crossing = t.crossing; given = t.given };
          }

module _ {u sets : ℕ} {bytes firsts ends uses masks sizes cells : List ℕ} {i d : ℕ} {atom : Bool} {mine own one still joint lists : List ℕ} {left : Left}
    (h : TakeReady u sets bytes firsts ends uses masks sizes cells i d atom mine own one still joint lists left) where
  pub below-asked : (until deeper kind : ℕ) → kind ≡ kind_field (record_at bytes i) → is_sum kind ≡ true → until ≡ get_or ends i 0 → deeper ≡ cond (eqb kind 1) (d + 1) d
      → TakeAllReady u sets bytes firsts ends uses masks sizes cells (i + 1) until deeper mine own one still joint lists left
  below-asked until deeper kind q k e f =
      let w = h.stands in
      let r = sum-here w (ap is_sum (sym q) ∙ k) in
      let i-is : suc i ≡ i + 1 = omega arith in
      record {
        plan = h.plan;
        forest = h.children;
        first = h.first + u ^ d;
        given = h.given;
        stands = subst (λ (x : ℕ). ForestStands u sets bytes firsts ends uses cells x h.children (h.first + u ^ d) deeper) i-is
            (subst (λ (x : ℕ). ForestStands u sets bytes firsts ends uses cells (suc i) h.children (h.first + u ^ d) x) (r.1 ∙ ap (λ (x : ℕ). cond (eqb x 1) (d + 1) d) (sym q) ∙ sym f) (children-stand w));
        ends_at = omega (arith, e, end-here w);
        room = record {
          mine-long = h.room.mine-long;
          own-long = h.room.own-long;
          one-long = h.room.one-long;
          still-long = h.room.still-long;
          joint-long = h.room.joint-long;
          lists-long = h.room.lists-long;
          few = omega (arith, h.room.few);
          few-crossed = omega (arith, h.room.few-crossed);
        };
        list = h.list;
      }

  pub atom-asked : is_sum (kind_field (record_at bytes i)) ≡ false → TakeReady u sets bytes firsts ends uses masks sizes cells i d true mine own one still joint lists left
  atom-asked k = record {
    plan = h.plan;
    node = h.node;
    children = h.children;
    siblings = h.siblings;
    first = h.first;
    given = h.given;
    stands = h.stands;
    is-atom = λ x. k;
    room = h.room;
    list = h.list;
  }

  pub here-low : i < 512
  here-low = node-low h.stands

  pub here-deep : d ≤ 3
  here-deep = depth_low h.stands

  pub here-kind : record_length * i + record_length ≤ length (records_of bytes)
  here-kind = kind-asked h.stands

-- Where the loop over the trees stands: what the trees from node j on give, all of them give.
pub record Onward (u sets : ℕ) (bytes firsts ends uses masks sizes cells : List ℕ) (until d : ℕ) (transfers : Bool) (i : ℕ) (one₀ still₀ joint₀ lists₀ : List ℕ) (left₀ : Left)
    (j : ℕ) (mine own one still joint lists : List ℕ) (left : Left) : Type 0 where
  pub late : i ≤ j
  pub ready : TakeAllReady u sets bytes firsts ends uses masks sizes cells j until d mine own one still joint lists left
  pub so : (one' still' joint' lists' : List ℕ) (left' : Left)
      → TakesAll u sets bytes firsts ends uses masks sizes cells j until d transfers one still joint lists left one' still' joint' lists' left'
      → TakesAll u sets bytes firsts ends uses masks sizes cells i until d transfers one₀ still₀ joint₀ lists₀ left₀ one' still' joint' lists' left'

module _ {u sets : ℕ} {bytes firsts ends uses masks sizes cells : List ℕ} {until d : ℕ} {transfers : Bool} {i : ℕ} {one₀ still₀ joint₀ lists₀ : List ℕ} {left₀ : Left} where
  pub onward-first : {mine own : List ℕ} → TakeAllReady u sets bytes firsts ends uses masks sizes cells i until d mine own one₀ still₀ joint₀ lists₀ left₀
      → Onward u sets bytes firsts ends uses masks sizes cells until d transfers i one₀ still₀ joint₀ lists₀ left₀ i mine own one₀ still₀ joint₀ lists₀ left₀
  onward-first h = record { late = omega arith; ready = h; so = λ a b c v e H. H }

  module _ {j : ℕ} {mine own one still joint lists : List ℕ} {left : Left}
      (o : Onward u sets bytes firsts ends uses masks sizes cells until d transfers i one₀ still₀ joint₀ lists₀ left₀ j mine own one still joint lists left) where
    pub onward-less : (next : ℕ) → j < until → next ≡ get_or ends j 0 → j < next
    onward-less next l e = next-later o.ready l next e

    pub onward-next : {mine' own' one' still' joint' lists' : List ℕ} {left' : Left} {next : ℕ} → j < until → next ≡ get_or ends j 0
        → length mine' ≡ length mine → length own' ≡ length own → length one' ≡ length one → length still' ≡ length still → length joint' ≡ length joint → length lists' ≡ length lists
        → TakesTree u sets bytes firsts ends uses masks sizes cells j d transfers one still joint lists left one' still' joint' lists' left'
        → Onward u sets bytes firsts ends uses masks sizes cells until d transfers i one₀ still₀ joint₀ lists₀ left₀ next mine' own' one' still' joint' lists' left'
    onward-next {mine'} {own'} {one'} {still'} {joint'} {lists'} {left'} {next} l e k1 k2 k3 k4 k5 k6 H = record {
      late = omega (arith, o.late, next-later o.ready l next e);
      ready = rest-asked o.ready l transfers mine' own' one' still' joint' lists' left' next e k1 k2 k3 k4 k5 k6 H;
      so = λ a b c v x K. o.so a b c v x
          (trees-more u sets bytes firsts ends uses masks sizes cells transfers one still joint lists left one' still' joint' lists' left' j next until d a b c v x l e H K);
    }

    pub onward-last : until ≤ j → TakesAll u sets bytes firsts ends uses masks sizes cells i until d transfers one₀ still₀ joint₀ lists₀ left₀ one still joint lists left
    onward-last l = o.so one still joint lists left (trees-none u sets bytes firsts ends uses masks sizes cells j until d transfers one still joint lists left l)

    pub onward-low : j < until → j < 512
    onward-low l = here-low (tree-asked o.ready l)
