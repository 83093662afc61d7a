-- A tree that stands below no quantifier has one cell, and no membership literal. Assumes nothing.
use Rattle.std.proofs.Common.{◌≡◌, ℕ, ◌+◌, ◌-◌, ◌*◌, ◌%◌, ◌<◌, ◌≤◌, Bool, List, [], length, get_or, sym, ap, ◌∙◌, arith}
use native.Mathlib.Nat.{pow-zero}
use Rattle.logic.specs.Formula.{Node, Forest, tree, node_count}
use Rattle.logic.specs.Configuration.{Configuration, in_mask}
use Rattle.logic.specs.Cells.{place_of, cell_count}
use Rattle.logic.specs.Change.{Change, modulus, cell_of, new_cell}
use Rattle.logic.proofs.Lists.{empty}
use Rattle.cells_walk.specs.inner.Nodes.{IndexHolds}
use Rattle.cells_walk.specs.inner.Visit.{packed}
use Rattle.cells_atoms.specs.inner.Atoms.{over_tuples}
use Rattle.cells_flip.specs.inner.Flips.{WordFor, Flipped, FlipVisit, FlipSettled, FlipReady, FlipGives}
use Rattle.cells_flip.proofs.Lines.{cell-line}
use Rattle.cells_ports.specs.inner.Ports.{Words, Resizes, FlipsAt, resized_by, flipped_by}
use Rattle.cells_tuples.specs.inner.Tuples.{FlatTree, AllPortsReady, AllPortsGive}
use Rattle.cells_tuples.proofs.Used.{tree-bound}

module _ (u : ℕ) (bytes firsts ends uses masks sizes cells : List ℕ) (i members resized : ℕ) where
  cell-visit : (sets : ℕ) (f : Forest) (b : ℕ) → FlipSettled u sets masks sizes cells → FlatTree u sets bytes firsts ends uses cells i f b 0
      → FlipVisit u sets bytes firsts ends uses cells i f b 0 1 3 0 0 (λ x. [])
  unfolding place_of packed
  cell-visit sets f b settled stands =
      let ready = settled.masks-settled in
      record {
        holds = stands.holds;
        fitting = stands.fitting;
        flat = stands.flat;
        line = cell-line empty ready.ports1 ready.ports64 (omega arith);
        room = stands.room;
        nodes = stands.nodes;
      }

  pub cell-ready : (out row : List ℕ) → AllPortsReady u bytes firsts ends uses masks sizes cells i 0 members resized out → 1 ≤ length row
      → FlipReady bytes firsts ends uses masks sizes cells i 1 3 0 0 row
  cell-ready out row r h = record {
    ports = u;
    sets = r.sets;
    node = r.node;
    children = r.children;
    siblings = r.siblings;
    first = r.first;
    depth = 0;
    at = λ x. [];
    settled = r.settled;
    visit = cell-visit r.sets (tree r.node r.children r.siblings) r.first r.settled r.stands;
    room = h;
  }

  -- the cell is in the table
  pub cell-within : (out : List ℕ) → AllPortsReady u bytes firsts ends uses masks sizes cells i 0 members resized out → (i < 512) × (get_or firsts i 0 + 0 < length cells)
  unfolding IndexHolds cell_count node_count
  cell-within out r = (omega (arith, r.stands.nodes), omega (arith, r.stands.room, r.stands.holds.0.first-is, pow-zero u))

  -- The word of a resizing is that of any flip with it: no membership literal stands there.
  word-for : (sets : ℕ) (n : Node) (c s : Forest) (b : ℕ) (flips resizes : ℕ → Bool) → FlatTree u sets bytes firsts ends uses cells i (tree n c s) b 0
      → Words flips resizes members resized → (ch : Change) → ((S : ℕ) → ch.resized S ≡ resizes S) → WordFor (get_or uses i 0) ch [] resized
  unfolding IndexHolds
  word-for sets n c s b flips resizes stands words ch rs = record {
    members = λ S v S16 v3 h.
        let l : v < 0 = tree-bound sets S v v3 n c s 0 stands.flat stands.fitting (sym (ap (λ (x : ℕ). in_mask x (4 * S + v)) stands.holds.0.uses-are) ∙ h) in
        absurd (omega arith);
    sizes = λ S S16 h. words.resized-are S S16 ∙ sym (rs S);
  }

  pub cell-gives : (before row : List ℕ) (new old r : ℕ) → FlipGives bytes firsts ends uses masks sizes cells i 1 3 0 0 resized row
      → (new ≡ get_or row 0 0) × (new < 4294967296) → ((x : ℕ) → get_or before x 0 < 4294967296) → old ≡ get_or cells (get_or firsts i 0 + 0) 0
      → r ≡ (0 + (new + (4294967296 - old))) % 4294967296
      → AllPortsGive u bytes firsts ends uses masks sizes cells i 0 members resized before before r
  unfolding FlipGives AllPortsGive IndexHolds over_tuples modulus resized_by flipped_by Resizes FlipsAt cell_of place_of
  cell-gives before row new old r gives nq low oq rq sets n c s b flips resizes settled stands words k₀ base rs fl =
      let visit = cell-visit sets (tree n c s) b settled stands in
      let new_is : (ch : Change) (k : Configuration) → ((S : ℕ) → ch.resized S ≡ resizes S) → Flipped (get_or uses i 0) masks sizes ch k
      → new ≡ new_cell u k ch (cell_of u cells) n c b 0 [] =
      λ ch k q f. nq.0 ∙ gives u sets n c s b 0 (λ x. []) settled visit 0 (omega arith) ch k (word-for sets n c s b flips resizes stands words ch q) f in
      let was : old ≡ get_or cells (b + 0) 0 = oq ∙ ap (λ (x : ℕ). get_or cells (x + 0) 0) stands.holds.0.first-is in
      record {
        resized-is = omega (arith, rq, was, new_is base k₀ rs.resized-are fl);
        flipped-is = λ x l ch k fs f. omega (arith, nq.1, low x, new_is base k₀ rs.resized-are fl, new_is ch k fs.resized-are f);
      }
