-- The tables that improve keeps: what flips bring to the root, by set, by what becomes of its size, and by port.
use Rattle.std.specs.Prelude.{◌≡◌, ℕ, ◌+◌, ◌*◌, ◌%◌, ◌<◌, ◌≤◌, true, cond, ◌≢◌, List, [], ◌∷◌, length, slice_index}
use Rattle.logic.specs.declared.Move.{Move}
use Rattle.logic.specs.Formula.{Node, Forest, none, tree, Plan}
use Rattle.logic.specs.Configuration.{in_mask}
use Rattle.logic.specs.Moves.{MoveKind, add, drop, transfer, swap, unknown, move_kind}
use Rattle.logic.specs.Change.{modulus}
use Rattle.cells_touch.specs.inner.Hits.{meets}
use Rattle.cells_atoms.specs.inner.Atoms.{AllRegular}
use Rattle.cells_tuples.specs.inner.Tuples.{FlatTree}
use Rattle.move_shares.specs.inner.Shares.{entering, leaving, exchanged, resized_share, flipped_share, whole_share, ShareReady, set_bits}

-- A set has four slots: one for each of what may become of its size, by which atoms are told that ask the size, and one for the atoms that
-- do not ask it, whatever becomes of it.
unfoldable pub slot_of : ℕ → ℕ → ℕ → ℕ
slot_of used s j = 4 * s + cond (in_mask used (4 * s + 3)) j 3

-- A slot's number for port x, where every slot has 64.
unfoldable pub slot_at : List ℕ → ℕ → ℕ → ℕ
slot_at table slot x = slice_index table (64 * slot + x)

-- What the tables say of a set's resizing, of its flip at x beyond that, and of both.
unfoldable pub still_read : List ℕ → ℕ → ℕ → ℕ
still_read still s j = slice_index still (4 * s + j)

unfoldable pub flip_read : List ℕ → ℕ → ℕ → ℕ → ℕ
flip_read one s j x = slot_at one (4 * s + j) x + slot_at one (4 * s + 3) x

unfoldable pub single_read : List ℕ → List ℕ → ℕ → ℕ → ℕ → ℕ
single_read one still s j x = still_read still s j + flip_read one s j x

-- What a transfer from s to t at x brings beyond a drop and an add.
unfoldable pub joint_read : List ℕ → ℕ → ℕ → ℕ → ℕ
joint_read joint s t x = slot_at joint (16 * s + t) x

-- What the tables say of a move; `test` is the mask of the ports in test.
unfoldable pub kind_read : MoveKind → List ℕ → List ℕ → List ℕ → ℕ → Move → ℕ
kind_read add one still joint test m = single_read one still m.s (entering test m.p) m.p
kind_read drop one still joint test m = single_read one still m.s (leaving test m.p) m.p
kind_read transfer one still joint test m =
    single_read one still m.s (leaving test m.p) m.p + single_read one still m.t (entering test m.p) m.p
    + joint_read joint m.s m.t m.p
kind_read swap one still joint test m =
    let j = exchanged test m.p m.q in
    still_read still m.s j + flip_read one m.s j m.p + flip_read one m.s j m.q
kind_read unknown one still joint test m = 0

unfoldable pub move_read : List ℕ → List ℕ → List ℕ → ℕ → Move → ℕ
move_read one still joint test m = kind_read (move_kind m.kind) one still joint test m

-- An atom without quantifiers, of a plan with its sizes: what every step over it asks.
pub record AtomGiven (u sets : ℕ) (bytes firsts ends uses masks sizes cells : List ℕ) (i d : ℕ) (P : Plan) (n : Node) (c s : Forest) (b : ℕ) : Type 0 where
  pub ports-are : u ≡ P.ports
  pub sets-are : sets ≡ P.sets
  pub ready : ShareReady P masks cells sizes
  pub sizes-low : (S : ℕ) → slice_index sizes S ≤ 64
  pub stands : FlatTree u sets bytes firsts ends uses cells i (tree n c s) b d
  pub regular : AllRegular (tree n c none) d

pub record AtomReady (u sets : ℕ) (bytes firsts ends uses masks sizes cells : List ℕ) (i d : ℕ) : Type 0 where
  pub plan : Plan
  pub node : Node
  pub children : Forest
  pub siblings : Forest
  pub first : ℕ
  pub given : AtomGiven u sets bytes firsts ends uses masks sizes cells i d plan node children siblings first

-- Room in the tables.
pub record SlotRoom (mine own one still : List ℕ) : Type 0 where
  pub mine-long : length mine ≡ 4096
  pub own-long : length own ≡ 64
  pub one-long : length one ≡ 4096
  pub still-long : length still ≡ 64

-- The numbers of an atom alone, in its slots: `own` has what resizings bring, `mine` what flips add.
unfoldable pub OwnAre : ℕ → ℕ → List ℕ → List ℕ → List ℕ → List ℕ → ℕ → Node → Forest → ℕ → ℕ → List ℕ → List ℕ → Type 0
OwnAre u sets uses masks sizes cells i n c b d mine own =
    (t l : ℕ) → t < sets → l ≤ 2 → meets (slice_index uses i) (set_bits t) ≡ true
    → (slice_index own (slot_of (slice_index uses i) t l) ≡ resized_share u masks sizes cells ((t, l) ∷ []) n c b d % modulus)
    × ((x : ℕ) → x < u → slot_at mine (slot_of (slice_index uses i) t l) x ≡ flipped_share u masks sizes cells ((t, l) ∷ []) x n c b d % modulus)

-- The atom has gone into the tables of single sets.
unfoldable pub SinglesTaken : ℕ → ℕ → List ℕ → List ℕ → List ℕ → Node → Forest → ℕ → ℕ → List ℕ → List ℕ → List ℕ → List ℕ → Type 0
SinglesTaken u sets masks sizes cells n c b d one still one' still' =
    (t l : ℕ) → t < sets → l ≤ 2
    → (still_read still' t l % modulus ≡ (still_read still t l + resized_share u masks sizes cells ((t, l) ∷ []) n c b d) % modulus)
    × ((x : ℕ) → x < u → flip_read one' t l x % modulus ≡ (flip_read one t l x + flipped_share u masks sizes cells ((t, l) ∷ []) x n c b d) % modulus)

pub record SlotsTaken (u sets : ℕ) (uses masks sizes cells : List ℕ) (i d : ℕ) (n : Node) (c : Forest) (b : ℕ)
    (one still one' still' mine' own' : List ℕ) : Type 0 where
  pub singles : SinglesTaken u sets masks sizes cells n c b d one still one' still'
  pub own-are : OwnAre u sets uses masks sizes cells i n c b d mine' own'

unfoldable pub TakesSlots : ℕ → ℕ → List ℕ → List ℕ → List ℕ → List ℕ → List ℕ → List ℕ → List ℕ → ℕ → ℕ → List ℕ → List ℕ → List ℕ → List ℕ → List ℕ → List ℕ → Type 0
TakesSlots u sets bytes firsts ends uses masks sizes cells i d one still one' still' mine' own' =
    (P : Plan) (n : Node) (c s : Forest) (b : ℕ) → AtomGiven u sets bytes firsts ends uses masks sizes cells i d P n c s b
    → SlotsTaken u sets uses masks sizes cells i d n c b one still one' still' mine' own'

-- The atom has gone into the table of transfers, of s to t at x: the sizes go by whether x is in test.
unfoldable pub JointsTaken : ℕ → ℕ → ℕ → List ℕ → List ℕ → List ℕ → Node → Forest → ℕ → ℕ → List ℕ → List ℕ → Type 0
JointsTaken u sets test masks sizes cells n c b d joint joint' =
    (s t x : ℕ) → s < sets → t < sets → s ≢ t → x < u
    → (joint_read joint' s t x + (whole_share u masks sizes cells ((s, leaving test x) ∷ []) x n c b d + whole_share u masks sizes cells ((t, entering test x) ∷ []) x n c b d)) % modulus
    ≡ (joint_read joint s t x + whole_share u masks sizes cells ((s, leaving test x) ∷ (t, entering test x) ∷ []) x n c b d) % modulus

-- Before it: the atom's own numbers are there.
pub record JointsReady (u sets : ℕ) (bytes firsts ends uses masks sizes cells : List ℕ) (i d : ℕ) (mine own joint : List ℕ) : Type 0 where
  pub plan : Plan
  pub node : Node
  pub children : Forest
  pub siblings : Forest
  pub first : ℕ
  pub given : AtomGiven u sets bytes firsts ends uses masks sizes cells i d plan node children siblings first
  pub mine-long : length mine ≡ 4096
  pub own-long : length own ≡ 64
  pub joint-long : length joint ≡ 16384

unfoldable pub TakesJoints : ℕ → ℕ → List ℕ → List ℕ → List ℕ → List ℕ → List ℕ → List ℕ → List ℕ → ℕ → ℕ → List ℕ → List ℕ → List ℕ → List ℕ → Type 0
TakesJoints u sets bytes firsts ends uses masks sizes cells i d mine own joint joint' =
    (P : Plan) (n : Node) (c s : Forest) (b : ℕ) → AtomGiven u sets bytes firsts ends uses masks sizes cells i d P n c s b
    → OwnAre u sets uses masks sizes cells i n c b d mine own
    → JointsTaken u sets (slice_index masks sets) masks sizes cells n c b d joint joint'
