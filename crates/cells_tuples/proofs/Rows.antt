-- The rows of a tree, one after the other, by the numbers of their outer tuples. Assumes nothing.
use Rattle.std.proofs.Common.{◌≡◌, ℕ, suc, ◌+◌, ◌*◌, ◌%◌, ◌^◌, ◌<◌, ◌≤◌, Bool, List, [], ◌∷◌, length, get_or, sym, ap, ◌∙◌, mul-le-mul, add-one, arith}
use Rattle.logic.specs.Formula.{Node, Forest, tree}
use Rattle.logic.specs.inner.Literals.{Every}
use Rattle.logic.specs.Configuration.{Configuration}
use Rattle.logic.specs.Truth.{Tuple}
use Rattle.logic.specs.Penalty.{sum, each_port}
use Rattle.logic.specs.Cells.{tuple_at}
use Rattle.logic.specs.Change.{Change, modulus, cell_of}
use Rattle.logic.proofs.Tables.{tuple_is, place-tuple}
use Rattle.table_format.proofs.Laid.{width_low}
use Rattle.cells_walk.specs.inner.Nodes.{Fitting}
use Rattle.cells_walk.specs.inner.Visit.{packed}
use Rattle.cells_walk.proofs.Count.{total, total-none, total-next}
use Rattle.cells_atoms.proofs.Tuples.{rows-total}
use Rattle.cells_flip.specs.inner.Flips.{Flipped, FlipVisit, FlipSettled}
use Rattle.cells_flip.proofs.Lines.{row_line}
use Rattle.cells_ports.specs.inner.Ports.{Words, Resizes, FlipsAt, resized_by, flipped_by, RowPortsReady, RowPortsGive}
use Rattle.cells_tuples.specs.inner.Tuples.{FlatTree, AllPortsReady, AllPortsGive}

-- one number more, modulo 2^32
more-mod : (s t r x y z : ℕ) → r ≡ s % modulus → z ≡ y % modulus → x ≡ (r + z) % 4294967296 → t ≡ s + y → x ≡ t % modulus
unfolding modulus
more-mod s t r x y z h i j k = omega arith

next-mod : (a s t r x y : ℕ) → r ≡ (a + s) % modulus → x ≡ (r + y) % modulus → t ≡ s + y → x ≡ (a + t) % modulus
unfolding modulus
next-mod a s t r x y h i j = omega arith

module _ (u : ℕ) (bytes firsts ends uses masks sizes cells : List ℕ) (i d members resized : ℕ) where
  module _ (n : Node) (c : Forest) (b : ℕ) (k₀ : Configuration) (base : Change) where
    -- what the row of an outer tuple brings
    abbrev resized_row : Tuple → ℕ
    resized_row e = sum (each_port u (λ z. resized_by u k₀ base (cell_of u cells) n c b (suc d) (z ∷ e) ∷ []))

    abbrev flipped_row : Configuration → Change → Tuple → ℕ
    flipped_row k ch e = sum (each_port u (λ z. flipped_by u k₀ base k ch (cell_of u cells) n c b (suc d) (z ∷ e) ∷ []))

    -- what the rows of the first m outer tuples bring
    pub record RowsAre (flips resizes : ℕ → Bool) (m : ℕ) (before after : List ℕ) (r : ℕ) : Type 0 where
      pub resized-is : r ≡ total m (λ j. resized_row (tuple_at u d j)) % modulus
      pub flipped-is : (x : ℕ) → x < u → (ch : Change) (k : Configuration) → FlipsAt flips resizes x ch → Flipped (get_or uses i 0) masks sizes ch k
          → get_or after x 0 ≡ (get_or before x 0 + total m (λ j. flipped_row k ch (tuple_at u d j))) % modulus

  unfoldable pub RowsGive : ℕ → List ℕ → List ℕ → ℕ → Type 0
  RowsGive m before after r =
      (sets : ℕ) (n : Node) (c s : Forest) (b : ℕ) (flips resizes : ℕ → Bool)
      → FlipSettled u sets masks sizes cells
      → FlatTree u sets bytes firsts ends uses cells i (tree n c s) b (suc d)
      → Words flips resizes members resized
      → (k₀ : Configuration) (base : Change) → Resizes resizes base → Flipped (get_or uses i 0) masks sizes base k₀
      → RowsAre n c b k₀ base flips resizes m before after r

  pub rows_none : (before : List ℕ) → ((x : ℕ) → get_or before x 0 < 4294967296) → RowsGive 0 before before 0
  unfolding RowsGive modulus
  rows_none before low sets n c s b flips resizes settled stands words k₀ base rs fl = record {
    resized-is = omega (arith, total-none (λ j. resized_row n c b k₀ base (tuple_at u d j)));
    flipped-is = λ x l ch k fs f. omega (arith, low x, total-none (λ j. flipped_row n c b k₀ base k ch (tuple_at u d j)));
  }

  -- At most two variables stand outside a row, so that the number of its first cell is low.
  module _ (out : List ℕ) (r : AllPortsReady u bytes firsts ends uses masks sizes cells i (suc d) members resized out) where
    pub outer-two : d ≤ 2
    unfolding Fitting Every
    outer-two = omega (arith, r.stands.fitting.0.depth3)

    pub row_low : (m : ℕ) → m < u ^ d → m * u < 18446744073709551616
    row_low m l =
        let ready = r.settled.masks-settled in
        let h : m ≤ 262144 = omega (arith, width_low u d ready.ports1 ready.ports64 (omega (arith, outer-two))) in
        let k : m * u ≤ 262144 * 64 = mul-le-mul h ready.ports64 in
        omega arith

  -- the row of the outer tuple numbered m, whose digits are given
  module _ (m digits : ℕ) (l : m < u ^ d) (dg : digits ≡ packed (tuple_at u d m)) where
    row-visit : (sets : ℕ) (n : Node) (c s : Forest) (b : ℕ) → FlipSettled u sets masks sizes cells
        → FlatTree u sets bytes firsts ends uses cells i (tree n c s) b (suc d)
        → FlipVisit u sets bytes firsts ends uses cells i (tree n c s) b (suc d) u d (m * u) digits (λ x. x ∷ tuple_at u d m)
    row-visit sets n c s b settled stands =
        let ready = settled.masks-settled in
        record {
          holds = stands.holds;
          fitting = stands.fitting;
          flat = stands.flat;
          line = rw (place-tuple u ready.ports1 d m l) at (row_line (tuple_is u ready.ports1 d m l) dg ready.ports1 ready.ports64);
          room = stands.room;
          nodes = stands.nodes;
        }

    pub row-ready : (out out' : List ℕ) → AllPortsReady u bytes firsts ends uses masks sizes cells i (suc d) members resized out → u ≤ length out'
        → RowPortsReady u bytes firsts ends uses masks sizes cells i d (m * u) digits members resized out'
    row-ready out out' r h = record {
      sets = r.sets;
      node = r.node;
      children = r.children;
      siblings = r.siblings;
      first = r.first;
      tuple = tuple_at u d m;
      flips = r.flips;
      resizes = r.resizes;
      settled = r.settled;
      visit = row-visit r.sets r.node r.children r.siblings r.first r.settled r.stands;
      words = r.words;
      room = h;
    }

    pub rows_next : (before after after' : List ℕ) (r r' r'' : ℕ) → RowsGive m before after r
        → RowPortsGive u bytes firsts ends uses masks sizes cells i d (m * u) digits members resized after after' r'
        → r'' ≡ (r + r') % 4294967296 → RowsGive (m + 1) before after' r''
    unfolding RowsGive RowPortsGive
    rows_next before after after' r r' r'' have row q sets n c s b flips resizes settled stands words k₀ base rs fl =
        let h = have sets n c s b flips resizes settled stands words k₀ base rs fl in
        let g = row sets n c s b (tuple_at u d m) flips resizes settled (row-visit sets n c s b settled stands) words k₀ base rs fl in
        rw (add-one m) (record {
          resized-is = more-mod _ _ r r'' _ r' h.resized-is g.resized-is q (total-next m (λ j. resized_row n c b k₀ base (tuple_at u d j)));
          flipped-is = λ x j ch k fs f.
              next-mod (get_or before x 0) _ _ _ _ _ (h.flipped-is x j ch k fs f) (g.flipped-is x j ch k fs f) (total-next m (λ y. flipped_row n c b k₀ base k ch (tuple_at u d y)));
        })

  -- all of them
  pub rows_all : (m : ℕ) (before after : List ℕ) (r : ℕ) → m ≡ u ^ d → RowsGive m before after r
      → AllPortsGive u bytes firsts ends uses masks sizes cells i (suc d) members resized before after r
  unfolding RowsGive AllPortsGive
  rows_all m before after r q have sets n c s b flips resizes settled stands words k₀ base rs fl =
      let h = have sets n c s b flips resizes settled stands words k₀ base rs fl in
      record {
        resized-is = h.resized-is ∙ ap (λ (y : ℕ). y % modulus)
            (ap (λ (y : ℕ). total y (λ j. resized_row n c b k₀ base (tuple_at u d j))) q ∙ sym (rows-total u d (resized_by u k₀ base (cell_of u cells) n c b (suc d))));
        flipped-is = λ x l ch k fs f. h.flipped-is x l ch k fs f ∙ ap (λ (y : ℕ). (get_or before x 0 + y) % modulus)
            (ap (λ (y : ℕ). total y (λ j. flipped_row n c b k₀ base k ch (tuple_at u d j))) q ∙ sym (rows-total u d (flipped_by u k₀ base k ch (cell_of u cells) n c b (suc d))));
      }
