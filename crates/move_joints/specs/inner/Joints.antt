-- An atom goes into the table of transfers by pairs of sets, 16 s + t from s to t: first for the ports that are not in test, then for those
-- that are.
use Rattle.std.specs.Prelude.{◌≡◌, ◌≢◌, Bool, true, cond, not, List, [], ◌∷◌, ℕ, ◌+◌, ◌-◌, ◌*◌, ◌%◌, ◌≤◌, ◌<◌, length, get_or, set}
use Rattle.logic.specs.Formula.{Node, Forest, Plan}
use Rattle.logic.specs.Configuration.{in_mask}
use Rattle.logic.specs.Change.{modulus}
use Rattle.logic.proofs.Written.{written}
use Rattle.cells_touch.specs.inner.Hits.{meets}
use Rattle.move_shares.specs.inner.Shares.{Outcome, entering, leaving, resized_share, flipped_share, whole_share, set_bits}
use Rattle.move_slots.specs.inner.Slots.{slot_at, joint_read, AtomGiven, AtomReady, OwnAre}

-- What becomes of the sizes of the set that a port leaves and of the one that it enters, by whether the port is in test.
unfoldable pub left : Bool → ℕ
left tested = cond tested 1 0

unfoldable pub entered : Bool → ℕ
entered tested = cond tested 1 2

abbrev pub pair_outcomes : ℕ → ℕ → Bool → List Outcome
pair_outcomes s t tested = (s, left tested) ∷ (t, entered tested) ∷ []

-- The sizes after.
unfoldable pub pair_sizes : List ℕ → ℕ → ℕ → Bool → List ℕ
pair_sizes sizes s t tested = set (set sizes s (get_or sizes s 0 + left tested - 1)) t (get_or sizes t 0 + entered tested - 1)

-- Whether a port is one of those in test, or of the others.
unfoldable pub takes_port : Bool → ℕ → ℕ → Bool
takes_port tested test x = cond tested (in_mask test x) (not (in_mask test x))

-- A number of the table with what both sets bring, less what each brings alone: `both` and `first` of the flips, `second` too, and `rest` of
-- the resizings.
unfoldable pub joint_number : Bool → ℕ → ℕ → ℕ → ℕ → ℕ → ℕ
joint_number takes old both first rest second =
    cond takes (((old + (both + (modulus - first))) % modulus + (rest + (modulus - second))) % modulus) old

abbrev pub joint_cell : List ℕ → List ℕ → List ℕ → ℕ → ℕ → Bool → ℕ → List ℕ → ℕ → ℕ
joint_cell row first second rest test tested at joint x =
    joint_number (takes_port tested test x) (get_or joint (at + x) 0) (get_or row x 0) (get_or first x 0) rest (get_or second x 0)

unfoldable pub joint_added : List ℕ → List ℕ → List ℕ → ℕ → ℕ → ℕ → Bool → ℕ → List ℕ → List ℕ
joint_added row first second rest u test tested at joint = written (joint_cell row first second rest test tested at joint) at u joint

-- Two sets of an atom's plan.
pub record PairOf (u : ℕ) (bytes firsts ends uses masks sizes cells : List ℕ) (i d s t : ℕ) : Type 0 where
  pub sets : ℕ
  pub atom : AtomReady u sets bytes firsts ends uses masks sizes cells i d
  pub first_below : s < sets
  pub second_below : t < sets
  pub differ : s ≢ t

-- What the resizing of both brings, and in `out`, port by port, what the flip of both there adds.
unfoldable pub PairGives : ℕ → List ℕ → List ℕ → List ℕ → List ℕ → List ℕ → List ℕ → List ℕ → ℕ → ℕ → ℕ → ℕ → Bool → List ℕ → List ℕ → ℕ → Type 0
PairGives u bytes firsts ends uses masks sizes cells i d s t tested before after r =
    (sets : ℕ) (P : Plan) (n : Node) (c f : Forest) (b : ℕ) → AtomGiven u sets bytes firsts ends uses masks sizes cells i d P n c f b
    → s < sets → t < sets → s ≢ t
    → (r ≡ resized_share u masks sizes cells (pair_outcomes s t tested) n c b d % modulus)
    × ((x : ℕ) → x < u → get_or after x 0 ≡ (get_or before x 0 + flipped_share u masks sizes cells (pair_outcomes s t tested) x n c b d) % modulus)

-- The table has the atom, of a transfer from s to t at x.
unfoldable pub JointAt : ℕ → ℕ → List ℕ → List ℕ → List ℕ → Node → Forest → ℕ → ℕ → List ℕ → List ℕ → ℕ → ℕ → ℕ → Type 0
JointAt u test masks sizes cells n c b d joint joint' s t x =
    (joint_read joint' s t x + (whole_share u masks sizes cells ((s, leaving test x) ∷ []) x n c b d + whole_share u masks sizes cells ((t, entering test x) ∷ []) x n c b d)) % modulus
    ≡ (joint_read joint s t x + whole_share u masks sizes cells ((s, leaving test x) ∷ (t, entering test x) ∷ []) x n c b d) % modulus

-- Room in the tables.
pub record JointRoom (mine own joint : List ℕ) : Type 0 where
  pub mine-long : length mine ≡ 4096
  pub own-long : length own ≡ 64
  pub joint-long : length joint ≡ 16384

-- A pair's numbers have gone into the table for the ports in test, or for the others; all else is as it was.
pub record PairAdded (u : ℕ) (bytes firsts ends uses masks sizes cells : List ℕ) (i d s t test : ℕ) (tested : Bool) (mine own joint joint' : List ℕ) : Type 0 where
  pub others : (k x : ℕ) → x < u → k ≢ 16 * s + t → slot_at joint' k x ≡ slot_at joint k x
  pub kept : (x : ℕ) → x < u → in_mask test x ≡ not tested → slot_at joint' (16 * s + t) x ≡ slot_at joint (16 * s + t) x
  pub added : (sets : ℕ) (P : Plan) (n : Node) (c f : Forest) (b : ℕ) → AtomGiven u sets bytes firsts ends uses masks sizes cells i d P n c f b
      → OwnAre u sets uses masks sizes cells i n c b d mine own → s < sets → t < sets → s ≢ t
      → meets (get_or uses i 0) (set_bits s) ≡ true → meets (get_or uses i 0) (set_bits t) ≡ true
      → (x : ℕ) → x < u → in_mask test x ≡ tested → JointAt u test masks sizes cells n c b d joint joint' s t x

-- The table has the atom for one pair.
unfoldable pub PairHas : ℕ → ℕ → List ℕ → List ℕ → List ℕ → List ℕ → List ℕ → List ℕ → List ℕ → ℕ → ℕ → ℕ → List ℕ → List ℕ → List ℕ → List ℕ → Type 0
PairHas u sets bytes firsts ends uses masks sizes cells i d k mine own joint joint' =
    (P : Plan) (n : Node) (c f : Forest) (b : ℕ) → AtomGiven u sets bytes firsts ends uses masks sizes cells i d P n c f b
    → OwnAre u sets uses masks sizes cells i n c b d mine own
    → (s t x : ℕ) → s < sets → t < sets → s ≢ t → x < u → 16 * s + t ≡ k
    → JointAt u (get_or masks sets 0) masks sizes cells n c b d joint joint' s t x

pub record PairTaken (u sets : ℕ) (bytes firsts ends uses masks sizes cells : List ℕ) (i d k : ℕ) (mine own joint joint' : List ℕ) : Type 0 where
  pub others : (l x : ℕ) → x < u → l ≢ k → slot_at joint' l x ≡ slot_at joint l x
  pub has : PairHas u sets bytes firsts ends uses masks sizes cells i d k mine own joint joint'

-- All pairs below m.
pub record PairsBelow (u sets : ℕ) (bytes firsts ends uses masks sizes cells : List ℕ) (i d m : ℕ) (mine own joint joint' : List ℕ) : Type 0 where
  pub within : m ≤ 16 * sets
  pub long : length joint' ≡ 16384
  pub later : (k x : ℕ) → x < u → m ≤ k → slot_at joint' k x ≡ slot_at joint k x
  pub has : (k : ℕ) → k < m → PairHas u sets bytes firsts ends uses masks sizes cells i d k mine own joint joint'
