-- The atoms of a formula gone into the tables that improve keeps.
use Rattle.std.specs.Prelude.{◌≡◌, ◌≢◌, Bool, true, false, ◌&&◌, List, ℕ, ◌+◌, ◌*◌, ◌%◌, ◌≤◌, ◌<◌, eqb, leb, ltb, length, get_or, drop}
use Rattle.logic.specs.declared.Move.{Move}
use Rattle.logic.specs.Formula.{Node, Forest, none, tree, Plan, node_count}
use Rattle.logic.specs.Configuration.{in_mask, in_masks}
use Rattle.logic.specs.Cells.{cell_count}
use Rattle.logic.specs.Moves.{legal, move_kind}
use Rattle.logic.specs.Change.{modulus}
use Rattle.table_format.specs.Bytes.{kind_field, record_at}
use Rattle.cells_walk.specs.inner.Nodes.{IndexHolds, Fitting}
use Rattle.cells_atoms.specs.inner.Atoms.{of_atoms, AllRegular}
use Rattle.cells_share.specs.inner.Listed.{Listed, ListStands, of_listed}
use Rattle.move_shares.specs.inner.Shares.{share_of, ShareReady, crosses}
use Rattle.move_shares.specs.inner.Listing.{FlatListed, cross_read}
use Rattle.move_slots.specs.inner.Slots.{move_read}
use Rattle.move_tables.specs.declared.Left.{Left}

-- The nodes from i up to `until` bind no variable.
unfoldable pub NoneBinds : List ℕ → ℕ → ℕ → Type 0
NoneBinds bytes i until = (j : ℕ) → i ≤ j → j < until → (leb 1 (kind_field (record_at bytes j)) && leb (kind_field (record_at bytes j)) 2) ≡ false

-- The sets that a word of uses tests by more than one variable have the lowest of their four bits.
unfoldable pub Crossed : ℕ → ℕ → Type 0
Crossed used word = (S : ℕ) → S < 16 → in_mask word (4 * S) ≡ crosses used S

-- Whether a node of a kind is a sum, "and" or for all: atoms stand below it.
unfoldable pub is_sum : ℕ → Bool
is_sum kind = ltb kind 5 && eqb (kind % 2) 1

-- A plan with its sizes.
pub record PlanGiven (u sets : ℕ) (masks sizes cells : List ℕ) (P : Plan) : Type 0 where
  pub ports-are : u ≡ P.ports
  pub sets-are : sets ≡ P.sets
  pub ready : ShareReady P masks cells sizes
  pub sizes-low : (S : ℕ) → get_or sizes S 0 ≤ 64

-- A forest of the formula, as the tables have it.
pub record ForestStands (u sets : ℕ) (bytes firsts ends uses cells : List ℕ) (i : ℕ) (f : Forest) (b d : ℕ) : Type 0 where
  pub holds : IndexHolds u bytes firsts ends uses i f b d
  pub fitting : Fitting sets f d
  pub regular : AllRegular f d
  pub room : b + cell_count u f d ≤ length cells
  pub nodes : i + node_count f ≤ 512

-- What the tables say of a move, what it adds to the atoms with quantifiers, which are listed, and a swap's correction over the atoms without
-- them that are listed for it.
unfoldable pub whole_read : Plan → List ℕ → List ℕ → List ℕ → List ℕ → List ℕ → List ℕ → List Listed → List Listed → Move → ℕ
whole_read P masks sizes cells one still joint xs ys m =
    move_read one still joint (get_or masks P.sets 0) m + of_listed (share_of P masks cells m) xs + cross_read (move_kind m.kind) P masks sizes cells m ys

-- For every legal move, they say more by what the forest's atoms add to the root.
unfoldable pub MovesTaken : ℕ → List ℕ → List ℕ → List ℕ → Plan → Bool → Forest → ℕ → ℕ → List ℕ → List ℕ → List ℕ → List Listed → List Listed → List ℕ → List ℕ → List ℕ → List Listed → List Listed → Type 0
MovesTaken u masks sizes cells P transfers f b d one still joint xs ys one' still' joint' xs' ys' =
    (m : Move) → legal P (in_masks masks) m ≡ true → (transfers ≡ false → m.kind ≢ 3)
    → whole_read P masks sizes cells one' still' joint' xs' ys' m % modulus
    ≡ (whole_read P masks sizes cells one still joint xs ys m + of_atoms u (share_of P masks cells m) f b d) % modulus

-- The two lists stand in one table: the atoms with quantifiers from its beginning, those of the corrections from place 512 on.
pub record ListsGiven (u sets : ℕ) (bytes firsts ends uses cells lists : List ℕ) (left : Left) (xs ys : List Listed) : Type 0 where
  pub stands : ListStands u sets bytes firsts ends uses cells lists xs
  pub count-is : left.hards ≡ length xs
  pub crossed : FlatListed u sets bytes firsts ends uses cells (drop 512 lists) left.crossed ys

-- Room in the tables, and in the lists for one more.
pub record TableRoom (i : ℕ) (mine own one still joint lists : List ℕ) (left : Left) : Type 0 where
  pub mine-long : length mine ≡ 4096
  pub own-long : length own ≡ 64
  pub one-long : length one ≡ 4096
  pub still-long : length still ≡ 64
  pub joint-long : length joint ≡ 16384
  pub lists-long : length lists ≡ 1024
  pub few : left.hards ≤ i
  pub few-crossed : left.crossed ≤ i

-- The atoms that are listed so far.
pub record ListGiven (u sets : ℕ) (bytes firsts ends uses cells lists : List ℕ) (left : Left) : Type 0 where
  pub listed : List Listed
  pub crossing : List Listed
  pub given : ListsGiven u sets bytes firsts ends uses cells lists left listed crossing

-- A forest of the formula, whose first node is i, gone into the tables and the lists.
pub record Taken (u sets : ℕ) (bytes firsts ends uses masks sizes cells : List ℕ) (P : Plan) (transfers : Bool) (i : ℕ) (f : Forest) (b d : ℕ)
    (one still joint : List ℕ) (xs ys : List Listed) (one' still' joint' lists' : List ℕ) (left' : Left) : Type 0 where
  pub listed : List Listed
  pub crossing : List Listed
  pub given : ListsGiven u sets bytes firsts ends uses cells lists' left' listed crossing
  pub few : left'.hards ≤ i + node_count f
  pub few-crossed : left'.crossed ≤ i + node_count f
  pub moves : MovesTaken u masks sizes cells P transfers f b d one still joint xs ys one' still' joint' listed crossing

-- Before a node, and before the trees of a forest that end at node `until`.
pub record TakeReady (u sets : ℕ) (bytes firsts ends uses masks sizes cells : List ℕ) (i d : ℕ) (atom : Bool) (mine own one still joint lists : List ℕ) (left : Left) : Type 0 where
  pub plan : Plan
  pub node : Node
  pub children : Forest
  pub siblings : Forest
  pub first : ℕ
  pub given : PlanGiven u sets masks sizes cells plan
  pub stands : ForestStands u sets bytes firsts ends uses cells i (tree node children siblings) first d
  pub is-atom : atom ≡ true → is_sum (kind_field (record_at bytes i)) ≡ false
  pub room : TableRoom i mine own one still joint lists left
  pub list : ListGiven u sets bytes firsts ends uses cells lists left

unfoldable pub TakesTree : ℕ → ℕ → List ℕ → List ℕ → List ℕ → List ℕ → List ℕ → List ℕ → List ℕ → ℕ → ℕ → Bool → List ℕ → List ℕ → List ℕ → List ℕ → Left → List ℕ → List ℕ → List ℕ → List ℕ → Left → Type 0
TakesTree u sets bytes firsts ends uses masks sizes cells i d transfers one still joint lists left one' still' joint' lists' left' =
    (P : Plan) (n : Node) (c s : Forest) (b : ℕ) → PlanGiven u sets masks sizes cells P
    → ForestStands u sets bytes firsts ends uses cells i (tree n c s) b d
    → (xs ys : List Listed) → ListsGiven u sets bytes firsts ends uses cells lists left xs ys → left.hards ≤ i → left.crossed ≤ i
    → Taken u sets bytes firsts ends uses masks sizes cells P transfers i (tree n c none) b d one still joint xs ys one' still' joint' lists' left'

pub record TakeAllReady (u sets : ℕ) (bytes firsts ends uses masks sizes cells : List ℕ) (i until d : ℕ) (mine own one still joint lists : List ℕ) (left : Left) : Type 0 where
  pub plan : Plan
  pub forest : Forest
  pub first : ℕ
  pub given : PlanGiven u sets masks sizes cells plan
  pub stands : ForestStands u sets bytes firsts ends uses cells i forest first d
  pub ends_at : until ≡ i + node_count forest
  pub room : TableRoom i mine own one still joint lists left
  pub list : ListGiven u sets bytes firsts ends uses cells lists left

unfoldable pub TakesAll : ℕ → ℕ → List ℕ → List ℕ → List ℕ → List ℕ → List ℕ → List ℕ → List ℕ → ℕ → ℕ → ℕ → Bool → List ℕ → List ℕ → List ℕ → List ℕ → Left → List ℕ → List ℕ → List ℕ → List ℕ → Left → Type 0
TakesAll u sets bytes firsts ends uses masks sizes cells i until d transfers one still joint lists left one' still' joint' lists' left' =
    (P : Plan) (f : Forest) (b : ℕ) → PlanGiven u sets masks sizes cells P
    → ForestStands u sets bytes firsts ends uses cells i f b d → until ≡ i + node_count f
    → (xs ys : List Listed) → ListsGiven u sets bytes firsts ends uses cells lists left xs ys → left.hards ≤ i → left.crossed ≤ i
    → Taken u sets bytes firsts ends uses masks sizes cells P transfers i f b d one still joint xs ys one' still' joint' lists' left'
