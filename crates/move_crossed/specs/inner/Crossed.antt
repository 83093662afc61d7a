-- What a swap brings to the atoms of a list beyond its two flips: those without quantifiers that test some set by more than one variable.
use Rattle.std.specs.Prelude.{◌≡◌, ℕ, ◌+◌, ◌-◌, ◌%◌, ◌≤◌, true, List, length, slice_index, slice_index_or}
use Rattle.logic.specs.declared.Move.{Move}
use Rattle.logic.specs.Formula.{Node, Forest, none, tree, Plan}
use Rattle.logic.specs.Configuration.{in_masks}
use Rattle.logic.specs.Moves.{legal}
use Rattle.logic.specs.Change.{modulus}
use Rattle.cells_atoms.specs.inner.Atoms.{AllRegular}
use Rattle.cells_zero.specs.inner.Zero.{TreeStands}
use Rattle.cells_share.specs.inner.Listed.{Listed, of_listed}
use Rattle.cells_flip.specs.inner.Flips.{Flat}
use Rattle.move_shares.specs.inner.Listing.{FlatListed}
use Rattle.move_shares.specs.inner.Shares.{exchanged, both_share}
use Rattle.move_tables.specs.inner.Taking.{PlanGiven}

-- A swap that is legal in a plan with its sizes.
pub record SwapGiven (u sets : ℕ) (masks sizes cells : List ℕ) (m : Move) (P : Plan) : Type 0 where
  pub given : PlanGiven u sets masks sizes cells P
  pub is-legal : legal P (in_masks masks) m ≡ true
  pub is-swap : m.kind ≡ 4

-- A list of sizes that has one set's, and no number above 65.
pub record OneSize (set size : ℕ) (sizes : List ℕ) : Type 0 where
  pub is : slice_index_or sizes set 0 ≡ size
  pub low : (S : ℕ) → slice_index sizes S ≤ 65

-- An atom without quantifiers, and a list that has the size of the swap's set after it.
pub record AtomSwap (u sets : ℕ) (bytes firsts ends uses masks sizes asked cells : List ℕ) (i d : ℕ) (m : Move) (P : Plan) (n : Node) (c : Forest) (b : ℕ) : Type 0 where
  pub swap : SwapGiven u sets masks sizes cells m P
  pub stands : TreeStands u sets bytes firsts ends uses cells i n c none b d
  pub flat : Flat (tree n c none) d
  pub regular : AllRegular (tree n c none) d
  pub size_is : OneSize m.s (slice_index sizes m.s + exchanged (slice_index masks sets) m.p m.q - 1) asked

-- Before one atom, and what both flips bring to it beyond each.
pub record ShareAsked (u : ℕ) (bytes firsts ends uses masks asked cells : List ℕ) (i d : ℕ) (m : Move) : Type 0 where
  pub sets : ℕ
  pub sizes : List ℕ
  pub plan : Plan
  pub node : Node
  pub children : Forest
  pub first : ℕ
  pub atom : AtomSwap u sets bytes firsts ends uses masks sizes asked cells i d m plan node children first

unfoldable pub ShareGiven : ℕ → List ℕ → List ℕ → List ℕ → List ℕ → List ℕ → List ℕ → List ℕ → ℕ → ℕ → Move → ℕ → Type 0
ShareGiven u bytes firsts ends uses masks asked cells i d m r =
    (sets : ℕ) (sizes : List ℕ) (P : Plan) (n : Node) (c : Forest) (b : ℕ) → AtomSwap u sets bytes firsts ends uses masks sizes asked cells i d m P n c b
    → r ≡ both_share P masks sizes cells m n c b d % modulus

-- Before such a swap and so many atoms.
pub record CrossedReady (u sets : ℕ) (bytes firsts ends uses masks cells : List ℕ) (m : Move) (list : List ℕ) (count : ℕ) : Type 0 where
  pub plan : Plan
  pub sizes : List ℕ
  pub atoms : List Listed
  pub swap : SwapGiven u sets masks sizes cells m plan
  pub listed : FlatListed u sets bytes firsts ends uses cells list count atoms
  pub room : count ≤ length list

-- What both flips bring to all of them beyond each.
unfoldable pub CrossedGives : ℕ → ℕ → List ℕ → List ℕ → List ℕ → List ℕ → List ℕ → List ℕ → Move → List ℕ → ℕ → ℕ → Type 0
CrossedGives u sets bytes firsts ends uses masks cells m list count r =
    (P : Plan) (sizes : List ℕ) (xs : List Listed) → SwapGiven u sets masks sizes cells m P → FlatListed u sets bytes firsts ends uses cells list count xs
    → r ≡ of_listed (both_share P masks sizes cells m) xs % modulus

-- The same added to a number, for the first atoms of the list.
unfoldable pub CrossedAdds : ℕ → ℕ → List ℕ → List ℕ → List ℕ → List ℕ → List ℕ → List ℕ → Move → List ℕ → ℕ → ℕ → ℕ → Type 0
CrossedAdds u sets bytes firsts ends uses masks cells m list count acc r =
    (P : Plan) (sizes : List ℕ) (xs : List Listed) → SwapGiven u sets masks sizes cells m P → FlatListed u sets bytes firsts ends uses cells list count xs
    → r ≡ (acc + of_listed (both_share P masks sizes cells m) xs) % modulus
