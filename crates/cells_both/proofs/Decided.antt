-- A cell that a child of 0 decides: its new number is 0 under the word. Assumes nothing.
use Rattle.std.proofs.Common.{◌≡◌, ℕ, zero, suc, ◌+◌, ◌*◌, ◌<◌, Bool, true, List, [], ◌∷◌, length, get_or, sym, ap, ◌∙◌, subst, arith}
use lib.Bits.{bit_or}
use Rattle.logic.specs.Formula.{Node, Forest, tree}
use Rattle.logic.specs.Configuration.{in_mask}
use Rattle.logic.specs.Truth.{Tuple}
use Rattle.logic.specs.Change.{Change, touched}
use Rattle.logic.proofs.Tables.{length-tuple}
use Rattle.table_format.specs.inner.Index.{node_uses, forest_uses}
use Rattle.cells_touch.specs.inner.Hits.{meets}
use Rattle.cells_walk.specs.inner.Nodes.{IndexHolds}
use Rattle.cells_atoms.proofs.Ports.{bound-hit}
use Rattle.cells_zero.specs.inner.Zero.{HitFor, CellStands, ZeroReady, ZeroTells}
use Rattle.cells_flip.specs.inner.Flips.{WordFor, FlipVisit, FlipSettled, FlipReady, FlipGives}
use Rattle.cells_flip.proofs.Words.{touched-told}
use Rattle.cells_tuples.proofs.Used.{tree-bound}

module _ (bytes firsts ends uses masks sizes cells : List ℕ) (i place digits : ℕ) where
  module _ (u sets : ℕ) (n : Node) (c s : Forest) (b d : ℕ) (at : ℕ → Tuple) (settled : FlipSettled u sets masks sizes cells)
      (visit : FlipVisit u sets bytes firsts ends uses cells i (tree n c s) b d 1 3 place digits at) where
    cell-stands : CellStands u sets bytes firsts ends uses cells i n c s b d (at 0) place
    cell-stands = record {
      stands = record {
        holds = visit.holds;
        fitting = visit.fitting;
        sets16 = settled.masks-settled.sets16;
        room = visit.room;
        nodes = visit.nodes;
      };
      tuple = visit.line.tuples 0 (omega arith);
      place_is = let l : 0 < 1 = omega arith in omega (arith, visit.line.places 0 l);
    }

    uses-are : get_or uses i 0 ≡ bit_or (node_uses n) (forest_uses c)
    unfolding IndexHolds
    uses-are = visit.holds.0.uses-are

    long : length (at 0) ≡ d
    long = length-tuple (visit.line.tuples 0 (omega arith))

    -- the variables that the tree uses are bound, so that the pairs at their ports hit
    hit-for : (ch : Change) (word : ℕ) → WordFor (get_or uses i 0) ch (at 0) word → HitFor (get_or uses i 0) ch (at 0) word
    hit-for ch word w = record {
      members = λ S v k l h.
          let j = tree-bound sets S v l n c s d visit.flat visit.fitting (ap (λ (y : ℕ). in_mask y (4 * S + v)) (sym uses-are) ∙ h) in
          w.members S v k l h ∙ sym (bound-hit ch.pairs v S (at 0) (omega (arith, j, long)));
      sizes = w.sizes;
    }

    hit-here : (ch : Change) (word : ℕ) → WordFor (get_or uses i 0) ch (at 0) word → meets (get_or uses i 0) word ≡ true → touched ch n c (at 0) ≡ true
    hit-here ch word w m =
        touched-told ch (at 0) word sets settled.masks-settled.sets16 n c s d long visit.fitting visit.flat (subst (λ (y : ℕ). WordFor y ch (at 0) word) uses-are w)
        ∙ ap (λ (y : ℕ). meets y word) (sym uses-are) ∙ m

  pub zero-ready : (out : List ℕ) → FlipReady bytes firsts ends uses masks sizes cells i 1 3 place digits out → ZeroReady bytes firsts ends uses cells i place
  zero-ready out r = record {
    ports = r.ports;
    sets = r.sets;
    node = r.node;
    children = r.children;
    siblings = r.siblings;
    first = r.first;
    depth = r.depth;
    tuple = r.at 0;
    visit = cell-stands r.ports r.sets r.node r.children r.siblings r.first r.depth r.at r.settled r.visit;
  }

  pub zero-gives : (used word : ℕ) (told : Bool) → used ≡ get_or uses i 0 → meets used word ≡ true → ZeroTells bytes firsts ends uses cells i place word told → told ≡ true
      → FlipGives bytes firsts ends uses masks sizes cells i 1 3 place digits word (0 ∷ [])
  unfolding FlipGives ZeroTells
  zero-gives used word told us m tells h u sets n c s b d at settled visit zero l ch k w f =
      sym (tells h u sets n c s b d (at 0) (cell-stands u sets n c s b d at settled visit) k ch (hit-for u sets n c s b d at settled visit ch word w)
      (hit-here u sets n c s b d at settled visit ch word w (ap (λ (y : ℕ). meets y word) (sym us) ∙ m)))
  zero-gives used word told us m tells h u sets n c s b d at settled visit (suc x) l ch k w f = absurd (omega arith)
