-- What filling the tables asks, and what full tables tell. Assumes nothing.
use mathlib.Core.Path.{◌≡◌, refl, sym, ap, ap₂, ◌∙◌, subst}
use mathlib.Core.Logic.{◌≢◌}
use mathlib.Core.Bool.{Bool, true, false, true≢false}
use mathlib.Core.List.{List, []}
use Prim.Native.Nat.{ℕ, suc, ◌+◌, ◌*◌, ◌/◌, ◌^◌, ◌%◌, ◌≤◌}
use native.Mathlib.Nat.{pow-zero}
use native.Mathlib.Omega.{arith}
use lib.Dec.{eqb}
use lib.ListN.{length, get_or}
use lib.Seq.{take_all}
use Rattle.logic.specs.declared.Move.{Move}
use Rattle.logic.specs.Formula.{Node, root, Forest, none, tree, Plan, node_count, child_depth}
use Rattle.logic.specs.inner.Literals.{Every}
use Rattle.logic.specs.Configuration.{ports_in, out_of_test, configured, configuration, spelled, in_masks, own_masks, all_within}
use Rattle.logic.specs.Cells.{cell_count, own_cells}
use Rattle.logic.specs.Moves.{MoveKind, add, drop, transfer, swap, unknown, move_kind, kind_weight, of_kinds}
use Rattle.logic.specs.Change.{modulus}
use Rattle.logic.proofs.Masks.{ports-within}
use Rattle.table_format.specs.Rules.{plan_rule}
use Rattle.table_format.specs.Decode.{sound, decode}
use Rattle.table_format.proofs.Encoding.{decode-sound}
use Rattle.cells_walk.specs.inner.Nodes.{IndexHolds, Fitting}
use Rattle.cells_walk.specs.inner.Visit.{MasksSettled}
use Rattle.cells_walk.proofs.Holding.{plan-holds, plan-fits}
use Rattle.cells_atoms.specs.inner.Atoms.{of_atoms}
use Rattle.cells_atoms.proofs.Plans.{rooted-tree}
use Rattle.cells_share.specs.inner.Listed.{ListStands, of_listed}
use Rattle.call_open.specs.inner.Opening.{OpenTables}
use Rattle.call_open.proofs.OpenPlan.{facts, same-plan, masks-ready, ports-fit}
use Rattle.move_shares.specs.inner.Listing.{AllFlat, cross_read}
use Rattle.move_shares.specs.inner.Shares.{entering, leaving, exchanged, share_of, SizesAre}
use Rattle.move_slots.specs.inner.Slots.{slot_at, still_read, flip_read, single_read, joint_read, kind_read, move_read}
use Rattle.move_tables.specs.declared.Left.{Left}
use Rattle.move_tables.specs.inner.Taking.{PlanGiven, ForestStands, whole_read, MovesTaken, ListsGiven, Taken, TakeAllReady, TakesAll}
use Rattle.move_root.specs.inner.Telling.{TablesTell, Told}
use Rattle.move_fill.specs.inner.Filling.{SizesSet, AllZero, FillReady}

-- the child of the root stands at node 1, and its cell is cell 1
module _ {ports sets : ℕ} {bytes firsts ends uses masks cells : List ℕ} (t : OpenTables ports sets bytes firsts ends uses masks cells) where
  abbrev P : Plan
  P = t.opened.plan

  pub rules : plan_rule P ≡ true
  rules = (decode-sound bytes P t.opened.decodes).rules

  abbrev node : Node
  node = (rooted-tree P rules).node

  abbrev children : Forest
  children = (rooted-tree P rules).children

  whole-holds : IndexHolds P.ports bytes firsts ends uses 0 (tree root (tree node children none) none) 0 0
  whole-holds =
      let ix = t.opened.indexed in
      subst (λ (f : Forest). IndexHolds P.ports bytes firsts ends uses 0 f 0 0) (rooted-tree P rules).formula-is
      (plan-holds bytes firsts ends uses P t.opened.decodes ix.firsts₀ ix.ends₀ ix.uses₀ ix.firsts-are ix.ends-are ix.uses-are)

  child-stands : ForestStands P.ports P.sets bytes firsts ends uses cells 1 (tree node children none) 1 0
  unfolding IndexHolds Fitting Every child_depth node_count cell_count own_cells
  child-stands =
      let e = (rooted-tree P rules).formula-is in
      let first : 0 + P.ports ^ 0 ≡ 1 = omega (arith, pow-zero P.ports) in
      record {
        holds = subst (λ (b : ℕ). IndexHolds P.ports bytes firsts ends uses 1 (tree node children none) b 0) first whole-holds.1;
        fitting = (subst (λ (f : Forest). Fitting P.sets f 0) e (plan-fits P rules)).1;
        regular = (rooted-tree P rules).regular;
        room = omega (arith, t.opened.own-cells, ap (λ (f : Forest). cell_count P.ports f 0) e, pow-zero P.ports);
        nodes = omega (arith, (facts t.opened).nodes512, ap node_count e);
      }

  pub root-end : get_or ends 0 0 ≡ 1 + node_count (tree node children none)
  unfolding IndexHolds
  root-end = let e : 0 + suc (node_count (tree node children none)) ≡ 1 + node_count (tree node children none) = omega arith in whole-holds.0.end_is ∙ e

none-plus : (x : ℕ) → 0 + x ≡ x
none-plus x = omega arith

-- the forest below a forest's first node
below-node : Forest → Forest
below-node none = none
below-node (tree n c s) = c

-- empty tables say nothing
nothing_read : (one still joint : List ℕ) → AllZero one → AllZero still → AllZero joint → (test : ℕ) (m : Move) → move_read one still joint test m ≡ 0
unfolding move_read AllZero still_read joint_read slot_at flip_read single_read kind_read
nothing_read one still joint a b c test m = by_kind (move_kind m.kind)
  where
    flip-none : (s j x : ℕ) → flip_read one s j x ≡ 0
    flip-none s j x = ap₂ ◌+◌ (a (64 * (4 * s + j) + x)) (a (64 * (4 * s + 3) + x))

    single-none : (s j x : ℕ) → single_read one still s j x ≡ 0
    single-none s j x = ap₂ ◌+◌ (b (4 * s + j)) (flip-none s j x)

    by_kind : (κ : MoveKind) → kind_read κ one still joint test m ≡ 0
    by_kind add = single-none m.s (entering test m.p) m.p
    by_kind drop = single-none m.s (leaving test m.p) m.p
    by_kind transfer =
        ap₂ ◌+◌ (ap₂ ◌+◌ (single-none m.s (leaving test m.p) m.p) (single-none m.t (entering test m.p) m.p)) (c (64 * (16 * m.s + m.t) + m.p))
    by_kind swap =
        let j = exchanged test m.p m.q in
        ap₂ ◌+◌ (ap₂ ◌+◌ (b (4 * m.s + j)) (flip-none m.s j m.p)) (flip-none m.s j m.q)
    by_kind unknown = refl

-- a swap has no correction over no atoms
nothing-crossed : (κ : MoveKind) (P : Plan) (masks sizes cells : List ℕ) (m : Move) → cross_read κ P masks sizes cells m [] ≡ 0
unfolding cross_read of_listed
nothing-crossed add P masks sizes cells m = refl
nothing-crossed drop P masks sizes cells m = refl
nothing-crossed transfer P masks sizes cells m = refl
nothing-crossed swap P masks sizes cells m = refl
nothing-crossed unknown P masks sizes cells m = refl

-- and with empty lists nothing either
nothing_said : (P : Plan) (masks sizes cells one still joint : List ℕ) → AllZero one → AllZero still → AllZero joint → (m : Move)
    → whole_read P masks sizes cells one still joint [] [] m ≡ 0
unfolding whole_read of_listed
nothing_said P masks sizes cells one still joint a b c m =
    ap₂ (λ (x y : ℕ). x + 0 + y) (nothing_read one still joint a b c (get_or masks P.sets 0) m) (nothing-crossed (move_kind m.kind) P masks sizes cells m)

-- empty lists, whatever the table has
none-listed : (u sets : ℕ) (bytes firsts ends uses cells lists : List ℕ) (left : Left) → left.hards ≡ 0 → left.crossed ≡ 0
    → ListsGiven u sets bytes firsts ends uses cells lists left [] []
unfolding ListStands AllFlat
none-listed u sets bytes firsts ends uses cells lists left n k = record {
  stands = tt;
  count-is = n;
  crossed = record { stands = tt; flat = tt; count-is = k };
}

-- a transfer that is not asked for is no candidate
unwanted : (transfers : Bool) (kinds : ℕ) (m : Move) → transfers ≡ eqb (kinds / 4 % 2) 1 → of_kinds kinds m ≡ true → transfers ≡ false → m.kind ≢ 3
unfolding of_kinds kind_weight move_kind
unwanted transfers kinds m w k x y = true≢false (sym (ap (λ (j : ℕ). eqb (kinds / kind_weight (move_kind j) % 2) 1) (sym y) ∙ k) ∙ sym w ∙ x)

-- the plan with its sizes
module _ {ports sets : ℕ} {bytes firsts ends uses masks cells one still joint lists : List ℕ} (h : FillReady ports sets bytes firsts ends uses masks cells one still joint lists)
    (sizes : List ℕ) (z : SizesSet masks sets sets sizes) where
  abbrev plan : Plan
  plan = h.tables-open.opened.plan

  settled : MasksSettled plan.ports plan.sets masks
  settled =
      let o = h.tables-open.opened in
      subst (λ (x : ℕ). MasksSettled x plan.sets masks) o.ports-are
      (subst (λ (x : ℕ). MasksSettled ports x masks) o.sets-are
      (masks-ready o masks h.masks-own (ap (all_within plan.ports) (sym (take_all (own_masks plan) masks (omega (arith, h.masks-own)))) ∙ o.within)))

  given : PlanGiven ports sets masks sizes cells plan
  unfolding SizesAre spelled configuration configured in_masks
  given =
      let o = h.tables-open.opened in
      record {
        ports-are = o.ports-are;
        sets-are = o.sets-are;
        ready = record {
          rules = rules h.tables-open;
          settled = settled;
          cells_fit = h.tables-open.cells_fit;
          sizes-are = λ S l.
              z.are S (omega (arith, o.sets-are))
              ∙ ap (λ (x : ℕ). ports_in 64 (out_of_test (in_masks masks S) (in_masks masks x))) o.sets-are
              ∙ ports-within plan.ports 64 (get_or masks S 0) (in_masks masks plan.sets) settled.ports64 (settled.within S l);
        };
        sizes-low = z.low;
      }

  stands : ForestStands ports sets bytes firsts ends uses cells 1 (tree (node h.tables-open) (children h.tables-open) none) 1 0
  stands =
      let o = h.tables-open.opened in
      subst (λ (x : ℕ). ForestStands x sets bytes firsts ends uses cells 1 (tree (node h.tables-open) (children h.tables-open) none) 1 0) (sym o.ports-are)
      (subst (λ (x : ℕ). ForestStands plan.ports x bytes firsts ends uses cells 1 (tree (node h.tables-open) (children h.tables-open) none) 1 0) (sym o.sets-are)
      (child-stands h.tables-open))

  abbrev forest : Forest
  forest = tree (node h.tables-open) (children h.tables-open) none

  pub take-asked : (until : ℕ) → until ≡ get_or ends 0 0 → (mine own : List ℕ) → length mine ≡ 4096 → length own ≡ 64 → (left : Left) → left.hards ≡ 0 → left.crossed ≡ 0
      → TakeAllReady ports sets bytes firsts ends uses masks sizes cells 1 until 0 mine own one still joint lists left
  take-asked until e mine own l k left n c = record {
    plan = plan;
    forest = forest;
    first = 1;
    given = given;
    stands = stands;
    ends_at = e ∙ root-end h.tables-open;
    room = record {
      mine-long = l;
      own-long = k;
      one-long = h.one-long;
      still-long = h.still-long;
      joint-long = h.joint-long;
      lists-long = h.lists-long;
      few = omega (arith, n);
      few-crossed = omega (arith, c);
    };
    list = record { listed = []; crossing = []; given = none-listed ports sets bytes firsts ends uses cells lists left n c };
  }

  module _ (until : ℕ) (transfers : Bool) (kinds : ℕ) (one' still' joint' lists' : List ℕ) (left left' : Left) (e : until ≡ get_or ends 0 0)
      (n : left.hards ≡ 0) (k : left.crossed ≡ 0)
      (H : TakesAll ports sets bytes firsts ends uses masks sizes cells 1 until 0 transfers one still joint lists left one' still' joint' lists' left') where
    taken : Taken ports sets bytes firsts ends uses masks sizes cells plan transfers 1 forest 1 0 one still joint [] [] one' still' joint' lists' left'
    unfolding TakesAll
    taken =
        H plan forest 1 given stands (e ∙ root-end h.tables-open) [] [] (none-listed ports sets bytes firsts ends uses cells lists left n k) (omega (arith, n)) (omega (arith, k))

    plan-sized : (P : Plan) → decode bytes ≡ sound P → PlanGiven ports sets masks sizes cells P
    plan-sized Q d = subst (λ (R : Plan). PlanGiven ports sets masks sizes cells R) (same-plan h.tables-open.opened Q d) given

    tables-full : transfers ≡ eqb (kinds / 4 % 2) 1 → (P : Plan) → decode bytes ≡ sound P
        → TablesTell P masks sizes cells kinds one' still' joint' taken.listed taken.crossing
    unfolding MovesTaken TablesTell below-node
    tables-full w Q d =
        subst (λ (R : Plan). TablesTell R masks sizes cells kinds one' still' joint' taken.listed taken.crossing) (same-plan h.tables-open.opened Q d)
        (λ n c f m l k.
        let o = h.tables-open.opened in
        let g = share_of plan masks cells m in
        taken.moves m l (λ x y. unwanted transfers kinds m w k x y)
        ∙ ap (λ (x : ℕ). (x + of_atoms ports g forest 1 0) % modulus) (nothing_said plan masks sizes cells one still joint h.one-empty h.still-empty h.joint-empty m)
        ∙ ap (λ (x : ℕ). x % modulus) (none-plus (of_atoms ports g forest 1 0))
        ∙ ap₂ (λ (x : ℕ) (y : Forest). of_atoms x g y 1 0 % modulus) o.ports-are (ap below-node (sym (rooted-tree plan (rules h.tables-open)).formula-is ∙ f)))

    pub told-full : transfers ≡ eqb (kinds / 4 % 2) 1 → length one' ≡ length one → length still' ≡ length still → length joint' ≡ length joint → length lists' ≡ length lists
        → Told ports sets bytes firsts ends uses masks cells kinds one' still' joint' lists' left'
    told-full w l1 l2 l3 l4 = record {
      tables-open = h.tables-open;
      masks-own = h.masks-own;
      cells-own = h.cells-own;
      one-long = l1 ∙ h.one-long;
      still-long = l2 ∙ h.still-long;
      joint-long = l3 ∙ h.joint-long;
      lists-long = l4 ∙ h.lists-long;
      listed = taken.listed;
      crossing = taken.crossing;
      lists-given = taken.given;
      few = omega (arith, taken.few, stands.nodes);
      few-crossed = omega (arith, taken.few-crossed, stands.nodes);
      sizes = sizes;
      plan-given = λ x. plan-sized;
      tell = λ x. tables-full w;
    }

module _ {ports sets : ℕ} {bytes firsts ends uses masks cells one still joint lists : List ℕ} (h : FillReady ports sets bytes firsts ends uses masks cells one still joint lists) where
  -- whether walks are cheaper may be asked
  pub walks-asked : (nodes : ℕ) → nodes ≡ get_or ends 0 0 → (ports ≤ 64) × (nodes ≤ 512)
  walks-asked nodes e =
      let t = h.tables-open in
      (ports-fit t.opened, omega (arith, e, root-end t, (child-stands t).nodes))

  -- where all moves are walked, the lists are empty
  pub told_none : (kinds : ℕ) (left : Left) → left.walked ≡ true → left.hards ≡ 0 → left.crossed ≡ 0
      → Told ports sets bytes firsts ends uses masks cells kinds one still joint lists left
  told_none kinds left w n k = record {
    tables-open = h.tables-open;
    masks-own = h.masks-own;
    cells-own = h.cells-own;
    one-long = h.one-long;
    still-long = h.still-long;
    joint-long = h.joint-long;
    lists-long = h.lists-long;
    listed = [];
    crossing = [];
    lists-given = none-listed ports sets bytes firsts ends uses cells lists left n k;
    few = omega (arith, n);
    few-crossed = omega (arith, k);
    sizes = [];
    plan-given = λ x. absurd (true≢false (sym w ∙ x));
    tell = λ x. absurd (true≢false (sym w ∙ x));
  }
