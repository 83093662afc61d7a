-- What the steps of the evaluator ask and give.
use Rattle.std.specs.Prelude.{◌≡◌, Bool, true, not, cond, List, ℕ, ◌+◌, ◌*◌, ◌^◌, ◌/◌, ◌%◌, ◌≤◌, ◌<◌, eqb, length, get_or}
use Rattle.logic.specs.Formula.{Test, isin, notin, port, size, test_kind, Node, Forest, tree, node_count}
use Rattle.logic.specs.Configuration.{Configuration, in_masks}
use Rattle.logic.specs.Truth.{Tuple, port_of}
use Rattle.logic.specs.Penalty.{test_penalty}
use Rattle.logic.specs.Change.{Change, modulus, cell_of, renewals, new_cell}
use Rattle.table_format.specs.Bytes.{record_length, kind_field, relation_field, a_field, b_field, records_of, record_at, test_relation, test_a, test_b}
use Rattle.table_format.specs.inner.Index.{forest_uses}
use Rattle.cells_sum.specs.inner.Walk.{taken, gathered}
use Rattle.cells_walk.specs.inner.Nodes.{TestFits}
use Rattle.cells_walk.specs.inner.Visit.{MasksSettled}
use Rattle.cells_flip.specs.inner.Flips.{WordFor, Flipped, Line, FlipVisit, FlipSettled, FlipReady}

-- A variable's port at cell x of a line.
unfoldable pub line_port : ℕ → ℕ → ℕ → ℕ → ℕ
line_port own digits v x = cond (eqb v own) x (digits / 256 ^ v % 256)

-- A change can hit the test: it asks a set.
unfoldable pub AsksSet : Test → Type 0
AsksSet (isin v S) = Unit {0}
AsksSet (notin v S) = Unit {0}
AsksSet (port r v w) = ⊥
AsksSet (size r S c) = Unit {0}

-- What is asked of a configuration where a test is hit.
unfoldable pub FlippedAt : List ℕ → List ℕ → Configuration → Test → Tuple → Type 0
FlippedAt masks sizes k (isin v S) e = k.member S (port_of e v) ≡ not (in_masks masks S (port_of e v))
FlippedAt masks sizes k (notin v S) e = k.member S (port_of e v) ≡ not (in_masks masks S (port_of e v))
FlippedAt masks sizes k (port r v w) e = Unit {0}
FlippedAt masks sizes k (size r S c) e = k.size S ≡ get_or sizes S 0

-- The record of node i is that of a test which fits at depth d.
pub record RecordOf (sets d : ℕ) (bytes : List ℕ) (i : ℕ) (t : Test) : Type 0 where
  pub whole : record_length * i + record_length ≤ length (records_of bytes)
  pub kind-is : kind_field (record_at bytes i) ≡ test_kind t
  pub relation-is : relation_field (record_at bytes i) ≡ test_relation t
  pub a-is : a_field (record_at bytes i) ≡ test_a t
  pub b-is : b_field (record_at bytes i) ≡ test_b t
  pub fits : TestFits sets d t
  pub depth3 : d ≤ 3

-- Before the cells of a literal that is hit.
pub record LiteralReady (bytes masks sizes : List ℕ) (i count own digits : ℕ) (out : List ℕ) : Type 0 where
  pub ports : ℕ
  pub sets : ℕ
  pub depth : ℕ
  pub row : ℕ
  pub at : ℕ → Tuple
  pub test : Test
  pub masks-settled : MasksSettled ports sets masks
  pub sizes-low : (S : ℕ) → get_or sizes S 0 ≤ 65
  pub line : Line ports depth count own row digits at
  pub is : RecordOf sets depth bytes i test
  pub asks : AsksSet test
  pub room : count ≤ length out

-- Its penalties.
unfoldable pub LiteralGives : List ℕ → List ℕ → List ℕ → ℕ → ℕ → ℕ → ℕ → List ℕ → Type 0
LiteralGives bytes masks sizes i count own digits out =
    (u sets d row : ℕ) (at : ℕ → Tuple) (t : Test) → Line u d count own row digits at → RecordOf sets d bytes i t → AsksSet t
    → (x : ℕ) → x < count → (k : Configuration) → FlippedAt masks sizes k t (at x) → get_or out x 0 ≡ test_penalty k t (at x)

-- Before the cells of one tree, which go into as many sums or minima.
pub record JoinReady (bytes firsts ends uses masks sizes cells : List ℕ) (i count own row digits : ℕ) (out : List ℕ) : Type 0 where
  pub begins : FlipReady bytes firsts ends uses masks sizes cells i count own row digits out
  pub low : (x : ℕ) → x < count → get_or out x 0 < modulus

pub record Joins (bytes firsts ends uses masks sizes cells : List ℕ) (i count own row digits word : ℕ) (add : Bool) (acc out : List ℕ) : Type 0 where
  pub numbers : (u sets : ℕ) (n : Node) (c s : Forest) (b d : ℕ) (at : ℕ → Tuple)
      → FlipSettled u sets masks sizes cells
      → FlipVisit u sets bytes firsts ends uses cells i (tree n c s) b d count own row digits at
      → (x : ℕ) → x < count → (ch : Change) (k : Configuration)
      → WordFor (get_or uses i 0) ch (at x) word → Flipped (get_or uses i 0) masks sizes ch k
      → get_or out x 0 ≡ taken add (get_or acc x 0) record { hit = true; old = cell_of u cells b (at x); new = new_cell u k ch (cell_of u cells) n c b d (at x) }
  pub low : (x : ℕ) → x < count → get_or out x 0 < modulus

-- The same before the trees of a forest, which end at node `until`.
pub record TreesReady (bytes firsts ends uses masks sizes cells : List ℕ) (i until count own row digits : ℕ) (out : List ℕ) : Type 0 where
  pub ports : ℕ
  pub sets : ℕ
  pub forest : Forest
  pub first : ℕ
  pub depth : ℕ
  pub at : ℕ → Tuple
  pub settled : FlipSettled ports sets masks sizes cells
  pub visit : FlipVisit ports sets bytes firsts ends uses cells i forest first depth count own row digits at
  pub ends_at : until ≡ i + node_count forest
  pub room : count ≤ length out
  pub low : (x : ℕ) → x < count → get_or out x 0 < modulus

unfoldable pub TreesGive : List ℕ → List ℕ → List ℕ → List ℕ → List ℕ → List ℕ → List ℕ → ℕ → ℕ → ℕ → ℕ → ℕ → ℕ → ℕ → Bool → List ℕ → List ℕ → Type 0
TreesGive bytes firsts ends uses masks sizes cells i until count own row digits word add acc out =
    (u sets : ℕ) (f : Forest) (b d : ℕ) (at : ℕ → Tuple)
    → FlipSettled u sets masks sizes cells
    → FlipVisit u sets bytes firsts ends uses cells i f b d count own row digits at → until ≡ i + node_count f
    → (x : ℕ) → x < count → (ch : Change) (k : Configuration)
    → WordFor (forest_uses f) ch (at x) word → Flipped (forest_uses f) masks sizes ch k
    → get_or out x 0 ≡ gathered add (get_or acc x 0) (renewals u k ch (cell_of u cells) f b d (at x))
