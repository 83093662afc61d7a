-- The root after a legal move, over a plan's own masks and cells: by what the tables say of it, what it adds to the atoms that are listed, and a swap's correction. Assumes nothing.
use Rattle.std.proofs.Common.{◌≡◌, ℕ, ◌+◌, ◌-◌, ◌%◌, ◌<◌, ◌≤◌, Bool, true, false, cond, eqb, List, [], length, get_or, take, drop, sym, ap, ◌∙◌, subst, ap₂, arith, length-drop, length-take, take_all}
use native.Mathlib.Nat.{pow-zero}
use Rattle.logic.specs.declared.Move.{Move}
use Rattle.logic.specs.Formula.{root, Forest, none, tree, Plan, child_depth}
use Rattle.logic.specs.Configuration.{in_masks, own_masks, spelled, all_within}
use Rattle.logic.specs.Cells.{cell_count, own_cells, tabulate}
use Rattle.logic.specs.Moves.{known, legal, move_kind}
use Rattle.logic.specs.Change.{forest_hit, touched, modulus}
use Rattle.logic.specs.inner.MoveFields.{t_end, q_end}
use Rattle.logic.proofs.Lists.{and_left}
use Rattle.logic.proofs.MoveFields.{known-fields}
use Rattle.logic.proofs.Tables.{get_d_tabulate}
use Rattle.table_format.specs.Rules.{plan_rule}
use Rattle.table_format.proofs.Encoding.{decode-sound}
use Rattle.cells_touch.specs.declared.Changed.{Changed}
use Rattle.cells_touch.specs.inner.Hits.{meets, first_word, Describes, Tells}
use Rattle.cells_walk.specs.inner.Visit.{MasksSettled}
use Rattle.cells_walk.proofs.Rooting.{below_root, formula-is, root-visit}
use Rattle.cells_walk.proofs.Visits.{touched-here}
use Rattle.cells_atoms.specs.inner.Atoms.{of_atoms}
use Rattle.cells_atoms.proofs.Alike.{or-none}
use Rattle.cells_atoms.proofs.Plans.{RootedTree, rooted-tree}
use Rattle.cells_share.specs.inner.Listed.{of_listed}
use Rattle.cells_sum.specs.declared.After.{After}
use Rattle.call_open.specs.inner.Opening.{OpenPlan}
use Rattle.call_open.proofs.OpenPlan.{facts, same-plan, sets-fit, masks-ready}
use Rattle.contracts.specs.ImproveCall.{root_after}
use Rattle.move_shares.specs.inner.Listing.{FlatListed, cross_read}
use Rattle.move_shares.specs.inner.Shares.{change_by, share_of, SizesAre, ShareReady}
use Rattle.move_shares.proofs.Roots.{root-shares}
use Rattle.move_slots.specs.inner.Slots.{move_read}
use Rattle.move_tables.specs.declared.Left.{Left}
use Rattle.move_tables.specs.inner.Taking.{whole_read}
use Rattle.move_hard.specs.inner.Hard.{HardReady, HardGives}
use Rattle.move_try.specs.inner.Trying.{GivesNumbers}
use Rattle.move_root.specs.inner.Reading.{Readable}
use Rattle.move_root.specs.inner.Telling.{TablesTell, BothAsked, BothRead, RootAsked, RootLeft}
use Rattle.move_root.proofs.Reading.{wrapped-first, wrapped-last}

-- sums of numbers that are known modulo 2^32
wrapped-second : (r a x b c v : ℕ) → r ≡ (a + x + b + c) % 4294967296 → x ≡ v % 4294967296 → r ≡ (a + v + b + c) % 4294967296
wrapped-second r a x b c v h f = omega arith

wrapped-all : (r b u v w a : ℕ) → r ≡ (b + u + v + w) % 4294967296 → (u + v + w) % 4294967296 ≡ a % 4294967296 → r ≡ (b + a) % 4294967296
wrapped-all r b u v w a h f = omega arith

-- a number and three others, added one after another
added : (r s x y z w u v t a b : ℕ) → r ≡ (s + w) % 4294967296 → s ≡ (y + z) % 4294967296 → y ≡ (b + x) % 4294967296
    → x ≡ u % 4294967296 → z ≡ v % 4294967296 → w ≡ t % 4294967296 → (u + v + t) % 4294967296 ≡ a % 4294967296 → r ≡ (b + a) % 4294967296
added r s x y z w u v t a b er es ey ex ez ew e =
    let inner : s ≡ (b + x + v) % 4294967296 = wrapped-last s (b + x) z v (wrapped-first s y z (b + x) es ey) ez in
    let outer : r ≡ (b + x + v + t) % 4294967296 = wrapped-last r (b + x + v) w t (wrapped-first r s w (b + x + v) er inner) ew in
    wrapped-all r b u v t a (wrapped-second r b x v t u outer ex) e

-- a plan's sizes in a list
sizes-of : (P : Plan) (own : List ℕ) → SizesAre P own (tabulate P.sets (spelled P own).size)
unfolding SizesAre
sizes-of P own S h = get_d_tabulate P.sets (spelled P own).size S h

-- the numbers that the walk gives have the root
pub left-tried : (bytes masks cells : List ℕ) (m : Move) (r : After) → GivesNumbers bytes masks cells m r → RootLeft bytes masks cells m r.value
unfolding GivesNumbers RootLeft
left-tried bytes masks cells m r gives P d = (gives P d).after_is

module _ {ports sets : ℕ} {bytes firsts ends uses masks cells one still joint lists : List ℕ} {left : Left} {m : Move} {work : List ℕ}
    (asked : RootAsked ports sets bytes firsts ends uses masks cells one still joint lists left m work) where
  abbrev opened : OpenPlan ports sets bytes masks (length cells) firsts ends uses
  opened = asked.tables-told.tables-open.opened

  abbrev P : Plan
  P = opened.plan

  rules : plan_rule P ≡ true
  rules = (decode-sound bytes P opened.decodes).rules

  -- the lists are the plan's own
  all-masks : take (own_masks P) masks ≡ masks
  all-masks = take_all (own_masks P) masks (omega (arith, asked.tables-told.masks-own))

  all-cells : take (own_cells P) cells ≡ cells
  all-cells = take_all (own_cells P) cells (omega (arith, asked.tables-told.cells-own))

  left_here : (r : ℕ) → r ≡ root_after P m masks cells → RootLeft bytes masks cells m r
  unfolding RootLeft
  left_here r h = λ R d.
      subst (λ (X : Plan). r ≡ root_after X m (take (own_masks X) masks) (take (own_cells X) cells)) (same-plan opened R d)
      (h ∙ sym (ap₂ (λ (xs ys : List ℕ). root_after P m xs ys) all-masks all-cells))

  legal-here : legal P (in_masks masks) m ≡ true
  legal-here =
      let move = asked.move-ready.legal-move in
      subst (λ (xs : List ℕ). legal P (in_masks xs) m ≡ true) all-masks
      (subst (λ (X : Plan). legal X (in_masks (take (own_masks X) masks)) m ≡ true) (same-plan move.tables-open.opened P opened.decodes) move.is-legal)

  known-here : known P m ≡ true
  unfolding legal
  known-here = and_left (known P m) _ legal-here

  -- the move's fields have a place in the tables
  pub readable : Readable m
  unfolding t_end q_end
  readable =
      let fields = known-fields P m known-here in
      record {
        kind-low = fields.kind-low;
        kind-high = fields.kind-high;
        s-low = omega (arith, fields.s-below, (facts opened).sets16);
        t-low = below (eqb m.kind 3) P.sets m.t 16 (facts opened).sets16 (omega arith) fields.t-below;
        p-low = omega (arith, fields.p-below, (facts opened).ports64);
        q-low = below (eqb m.kind 4) P.ports m.q 64 (facts opened).ports64 (omega arith) fields.q-below;
      }
    where
      below : (b : Bool) (n x top : ℕ) → n ≤ top → 1 ≤ top → x < cond b n 1 → x < top
      below true n x top l h k = omega arith
      below false n x top l h k = omega arith

  pub test_below : sets < length masks
  unfolding own_masks
  test_below = omega (arith, opened.sets-are, opened.own-masks)

  rooted : RootedTree P
  rooted = rooted-tree P rules

  -- the root and the node below it have each a cell
  pub two_cells : 2 ≤ length cells
  unfolding own_cells cell_count child_depth
  two_cells =
      let e = ap (λ (f : Forest). cell_count P.ports f 0) rooted.formula-is in
      omega (arith, opened.own-cells, e, pow-zero P.ports)

  ready : ShareReady P masks cells (tabulate P.sets (spelled P masks).size)
  ready = record {
    rules = rules;
    settled = subst (λ (u : ℕ). MasksSettled u P.sets masks) opened.ports-are (subst (λ (n : ℕ). MasksSettled ports n masks) opened.sets-are
        (masks-ready opened masks asked.tables-told.masks-own (subst (λ (xs : List ℕ). all_within P.ports xs ≡ true) all-masks opened.within)));
    cells_fit = asked.tables-told.tables-open.cells_fit;
    sizes-are = sizes-of P masks;
  }

  -- whether the root is touched
  touched-so : (c : Changed) → Tells m c → touched (change_by P masks m) root (tree rooted.node rooted.children none) [] ≡ meets (get_or uses 0 0) (first_word c)
  unfolding Tells change_by touched forest_hit
  touched-so c tells =
      let says : Describes ports (change_by P masks m) c =
      subst (λ (u : ℕ). Describes u (change_by P masks m) c) (sym opened.ports-are) (tells P (in_masks masks) (facts opened).sets16 known-here) in
      let visit = root-visit P bytes opened.decodes ports opened.ports-are sets opened.sets-are c (change_by P masks m) says firsts ends uses cells
      opened.indexed opened.own-cells in
      sym (or-none (touched (change_by P masks m) root (tree rooted.node rooted.children none) []))
      ∙ ap (λ (f : Forest). forest_hit (change_by P masks m) f []) (sym rooted.formula-is ∙ formula-is P bytes opened.decodes)
      ∙ or-none (touched (change_by P masks m) root (below_root P bytes opened.decodes) [])
      ∙ touched-here ports sets (change_by P masks m) bytes firsts ends uses cells 0 root (below_root P bytes opened.decodes) none 0 0 [] 0 0 (first_word c) visit
      (sets-fit opened)

  root-here : (c : Changed) → Tells m c → root_after P m masks cells
      ≡ cond (meets (get_or uses 0 0) (first_word c))
      ((get_or cells 1 0 + of_atoms P.ports (share_of P masks cells m) (tree rooted.node rooted.children none) 1 0) % modulus) (get_or cells 0 0)
  root-here c tells =
      root-shares P masks cells (tabulate P.sets (spelled P masks).size) m ready legal-here rooted.node rooted.children rooted.formula-is
      ∙ ap (λ (b : Bool). cond b
      ((get_or cells 1 0 + of_atoms P.ports (share_of P masks cells m) (tree rooted.node rooted.children none) 1 0) % modulus) (get_or cells 0 0))
      (touched-so c tells)

  -- a root that is not touched stays
  pub left-untouched : (c : Changed) → Tells m c → meets (get_or uses 0 0) (first_word c) ≡ false → RootLeft bytes masks cells m (get_or cells 0 0)
  left-untouched c tells e =
      left_here (get_or cells 0 0) (sym (root-here c tells
      ∙ ap (λ (b : Bool). cond b
      ((get_or cells 1 0 + of_atoms P.ports (share_of P masks cells m) (tree rooted.node rooted.children none) 1 0) % modulus) (get_or cells 0 0)) e))

  -- what is asked of the walks of the listed atoms
  pub hard-ready : HardReady ports sets bytes firsts ends uses masks cells m work lists left.hards
  hard-ready =
      let tables = asked.tables-told in
      let e = sym (same-plan asked.move-ready.legal-move.tables-open.opened P opened.decodes) in
      record {
        move-ready = asked.move-ready;
        masks-own = tables.masks-own ∙ ap own_masks e;
        cells-own = tables.cells-own ∙ ap own_cells e;
        atoms = tables.listed;
        stands = tables.lists-given.stands;
        count-is = tables.lists-given.count-is;
        room = omega (arith, tables.few, tables.lists-long);
      }

  -- the atoms of a swap's correction stand from place 512 on: the part that is lent
  pub crossed-place : 512 ≤ length lists
  crossed-place = omega (arith, asked.tables-told.lists-long)

  abbrev crossed-list : List ℕ
  crossed-list = take (length lists - 512) (drop 512 lists)

  crossed-stand : FlatListed ports sets bytes firsts ends uses cells crossed-list left.crossed asked.tables-told.crossing
  crossed-stand =
      subst (λ (xs : List ℕ). FlatListed ports sets bytes firsts ends uses cells xs left.crossed asked.tables-told.crossing)
      (sym (take_all (length lists - 512) (drop 512 lists) (omega (arith, length-drop 512 lists)))) asked.tables-told.lists-given.crossed

  pub both-asked : left.walked ≡ false → BothAsked ports sets bytes firsts ends uses masks cells m crossed-list left.crossed
  both-asked w =
      let tables = asked.tables-told in
      record {
        plan = P;
        sizes = tables.sizes;
        atoms = tables.crossing;
        given = tables.plan-given w P opened.decodes;
        is-legal = legal-here;
        listed = crossed-stand;
        room = omega (arith, tables.few-crossed, tables.lists-long, length-drop 512 lists, length-take (length lists - 512) (drop 512 lists));
      }

  -- what the tables say, what the listed atoms add and a swap's correction are what all atoms add
  read_is : left.walked ≡ false → (test : ℕ) → test ≡ get_or masks sets 0
      → (move_read one still joint test m + of_listed (share_of P masks cells m) asked.tables-told.listed
      + cross_read (move_kind m.kind) P masks asked.tables-told.sizes cells m asked.tables-told.crossing) % modulus
      ≡ of_atoms P.ports (share_of P masks cells m) (tree rooted.node rooted.children none) 1 0 % modulus
  unfolding TablesTell whole_read
  read_is w test et =
      ap (λ (x : ℕ). (move_read one still joint x m + of_listed (share_of P masks cells m) asked.tables-told.listed
      + cross_read (move_kind m.kind) P masks asked.tables-told.sizes cells m asked.tables-told.crossing) % modulus)
      (et ∙ ap (λ (n : ℕ). get_or masks n 0) opened.sets-are)
      ∙ asked.tables-told.tell w P opened.decodes rooted.node rooted.children rooted.formula-is m legal-here asked.of-kinds

  -- a root that is touched is the number below it with these three
  pub left-touched : (c : Changed) → Tells m c → meets (get_or uses 0 0) (first_word c) ≡ true → left.walked ≡ false
      → (test x y z s k r : ℕ) → test ≡ get_or masks sets 0 → x ≡ move_read one still joint test m % 4294967296 → y ≡ (get_or cells 1 0 + x) % 4294967296
      → HardGives ports sets bytes firsts ends uses masks cells m lists left.hards z
      → BothRead ports sets bytes firsts ends uses masks cells m crossed-list left.crossed k
      → s ≡ (y + z) % 4294967296 → r ≡ (s + k) % 4294967296
      → RootLeft bytes masks cells m r
  unfolding modulus HardGives BothRead
  left-touched c tells e w test x y z s k r et ex ey gives reads es er =
      let a = of_atoms P.ports (share_of P masks cells m) (tree rooted.node rooted.children none) 1 0 in
      let tables = asked.tables-told in
      left_here r
      (added r s x y z k (move_read one still joint test m) (of_listed (share_of P masks cells m) tables.listed)
      (cross_read (move_kind m.kind) P masks tables.sizes cells m tables.crossing) a (get_or cells 1 0) er es ey ex
      (gives P opened.decodes tables.listed tables.lists-given.stands tables.lists-given.count-is)
      (reads P tables.sizes tables.crossing (tables.plan-given w P opened.decodes) legal-here crossed-stand) (read_is w test et)
      ∙ sym (root-here c tells ∙ ap (λ (b : Bool). cond b ((get_or cells 1 0 + a) % modulus) (get_or cells 0 0)) e))
