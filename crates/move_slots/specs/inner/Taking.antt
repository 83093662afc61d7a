-- An atom goes into the tables slot by slot: which slots take it, the sizes that are asked there, and the numbers that come in.
use Rattle.std.specs.Prelude.{◌≡◌, ℕ, ◌+◌, ◌-◌, ◌*◌, ◌/◌, ◌%◌, ◌<◌, ◌≤◌, Bool, true, false, cond, not, ◌&&◌, ◌≢◌, List, [], ◌∷◌, length, set, nat_lt, slice_index, slice_index_or, slice_set}
use Rattle.logic.specs.Formula.{Node, Forest, Plan}
use Rattle.logic.specs.Configuration.{in_mask}
use Rattle.logic.specs.Change.{modulus}
use Rattle.logic.proofs.Written.{written}
use Rattle.cells_touch.specs.inner.Hits.{meets}
use Rattle.move_shares.specs.inner.Shares.{resized_share, flipped_share, set_bits}
use Rattle.move_slots.specs.inner.Slots.{slot_of, slot_at, AtomGiven, AtomReady, SlotRoom}

-- Whether a slot takes an atom that uses sets so: the first three of a set those that ask its size, the last the others that use it.
unfoldable pub takes_slot : ℕ → ℕ → Bool
takes_slot used slot =
    let sized = in_mask used (4 * (slot / 4) + 3) in
    cond (nat_lt (slot % 4) 3) sized (not sized && meets used (set_bits (slot / 4)))

-- A size as a slot of its set asks it, and all sizes: the last slot asks them as they are.
unfoldable pub asked_size : ℕ → ℕ → ℕ
asked_size size j = cond (nat_lt j 3) (size + j - 1) size

unfoldable pub asked_sizes : List ℕ → ℕ → List ℕ
asked_sizes sizes slot = slice_set sizes (slot / 4) (asked_size (slice_index sizes (slot / 4)) (slot % 4))

-- Before the numbers of one slot, where `out` is to take those of flips.
pub record SlotReady (u : ℕ) (bytes firsts ends uses masks sizes cells : List ℕ) (i d slot : ℕ) (out : List ℕ) : Type 0 where
  pub sets : ℕ
  pub atom : AtomReady u sets bytes firsts ends uses masks sizes cells i d
  pub below : slot < 4 * sets
  pub room : u ≤ length out

-- What the resizing brings, and in `out`, port by port, what the flip there adds: for the sets and outcomes whose slot it is.
unfoldable pub SlotGives : ℕ → List ℕ → List ℕ → List ℕ → List ℕ → List ℕ → List ℕ → List ℕ → ℕ → ℕ → ℕ → List ℕ → List ℕ → ℕ → Type 0
SlotGives u bytes firsts ends uses masks sizes cells i d slot before after r =
    (sets : ℕ) (P : Plan) (n : Node) (c s : Forest) (b : ℕ) → AtomGiven u sets bytes firsts ends uses masks sizes cells i d P n c s b
    → (t l : ℕ) → t < sets → l ≤ 2 → slot_of (slice_index uses i) t l ≡ slot
    → (r ≡ resized_share u masks sizes cells ((t, l) ∷ []) n c b d % modulus)
    × ((x : ℕ) → x < u → slice_index after x ≡ (slice_index before x + flipped_share u masks sizes cells ((t, l) ∷ []) x n c b d) % modulus)

-- A table with a row's numbers added from a place on.
unfoldable pub added_at : List ℕ → ℕ → ℕ → List ℕ → List ℕ
added_at row u at table = written (λ x. (slice_index table (at + x) + slice_index row x) % modulus) at u table

-- A slot's numbers put into the tables of the atom alone, and added to those of all atoms.
pub record SlotPut (u slot r : ℕ) (row mine own one still mine' own' one' still' : List ℕ) : Type 0 where
  pub mine-is : mine' ≡ written (λ x. slice_index row x) (64 * slot) u mine
  pub own_is : own' ≡ slice_set own slot r
  pub one-is : one' ≡ added_at row u (64 * slot) one
  pub still-is : still' ≡ slice_set still slot ((slice_index still slot + r) % modulus)

-- A slot has the atom's numbers, g of the resizing and h x of the flip at x; or it is as it was.
pub record SlotNumbers (u slot g : ℕ) (h : ℕ → ℕ) (one still mine' own' one' still' : List ℕ) : Type 0 where
  pub mine-has : (x : ℕ) → x < u → slot_at mine' slot x ≡ h x % modulus
  pub own-has : slice_index_or own' slot 0 ≡ g % modulus
  pub one_has : (x : ℕ) → x < u → slot_at one' slot x ≡ (slot_at one slot x + h x) % modulus
  pub still-has : slice_index_or still' slot 0 ≡ (slice_index still slot + g) % modulus

pub record SlotKept (u slot : ℕ) (mine own one still mine' own' one' still' : List ℕ) : Type 0 where
  pub mine-kept : (x : ℕ) → x < u → slot_at mine' slot x ≡ slot_at mine slot x
  pub own-kept : slice_index_or own' slot 0 ≡ slice_index own slot
  pub one_kept : (x : ℕ) → x < u → slot_at one' slot x ≡ slot_at one slot x
  pub still_kept : slice_index_or still' slot 0 ≡ slice_index still slot

-- For the sets and outcomes whose slot it is, the numbers are those of the atom.
unfoldable pub SlotHas : ℕ → ℕ → List ℕ → List ℕ → List ℕ → List ℕ → List ℕ → List ℕ → List ℕ → ℕ → ℕ → ℕ → List ℕ → List ℕ → List ℕ → List ℕ → List ℕ → List ℕ → Type 0
SlotHas u sets bytes firsts ends uses masks sizes cells i d slot one still mine' own' one' still' =
    (P : Plan) (n : Node) (c s : Forest) (b : ℕ) → AtomGiven u sets bytes firsts ends uses masks sizes cells i d P n c s b
    → (t l : ℕ) → t < sets → l ≤ 2 → slot_of (slice_index uses i) t l ≡ slot
    → SlotNumbers u slot (resized_share u masks sizes cells ((t, l) ∷ []) n c b d) (λ x. flipped_share u masks sizes cells ((t, l) ∷ []) x n c b d)
    one still mine' own' one' still'

-- Before one slot of the tables, and after it: the slot has the atom's numbers if it takes them, and all others are as they were.
pub record SlotTaking (u : ℕ) (bytes firsts ends uses masks sizes cells : List ℕ) (i d slot : ℕ) (mine own one still : List ℕ) : Type 0 where
  pub sets : ℕ
  pub atom : AtomReady u sets bytes firsts ends uses masks sizes cells i d
  pub below : slot < 4 * sets
  pub room : SlotRoom mine own one still

pub record SlotStep (u : ℕ) (bytes firsts ends uses masks sizes cells : List ℕ) (i d slot : ℕ) (mine own one still mine' own' one' still' : List ℕ) : Type 0 where
  pub others : (k : ℕ) → k ≢ slot → SlotKept u k mine own one still mine' own' one' still'
  pub skipped : takes_slot (slice_index uses i) slot ≡ false → SlotKept u slot mine own one still mine' own' one' still'
  pub taken : takes_slot (slice_index uses i) slot ≡ true → (sets : ℕ)
      → SlotHas u sets bytes firsts ends uses masks sizes cells i d slot one still mine' own' one' still'

-- All slots below m.
pub record SlotsBelow (u sets : ℕ) (bytes firsts ends uses masks sizes cells : List ℕ) (i d m : ℕ) (mine own one still mine' own' one' still' : List ℕ) : Type 0 where
  pub within : m ≤ 4 * sets
  pub room : SlotRoom mine' own' one' still'
  pub later : (k : ℕ) → m ≤ k → SlotKept u k mine own one still mine' own' one' still'
  pub skipped : (k : ℕ) → takes_slot (slice_index uses i) k ≡ false → SlotKept u k mine own one still mine' own' one' still'
  pub taken : (k : ℕ) → k < m → takes_slot (slice_index uses i) k ≡ true
      → SlotHas u sets bytes firsts ends uses masks sizes cells i d k one still mine' own' one' still'
