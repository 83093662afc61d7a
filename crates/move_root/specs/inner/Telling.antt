-- Tables that tell of the moves of some kinds, and the root that a move would leave.
use Rattle.std.specs.Prelude.{◌≡◌, ℕ, ◌%◌, ◌≤◌, true, false, List, length, take}
use Rattle.logic.specs.declared.Move.{Move}
use Rattle.logic.specs.Formula.{Node, root, Forest, none, tree, Plan}
use Rattle.logic.specs.Configuration.{in_masks, own_masks}
use Rattle.logic.specs.Cells.{own_cells}
use Rattle.logic.specs.Moves.{legal, of_kinds, move_kind}
use Rattle.logic.specs.Change.{modulus}
use Rattle.table_format.specs.Decode.{sound, decode}
use Rattle.contracts.specs.ImproveCall.{root_after}
use Rattle.cells_atoms.specs.inner.Atoms.{of_atoms}
use Rattle.cells_share.specs.inner.Listed.{Listed}
use Rattle.call_open.specs.inner.Opening.{OpenTables}
use Rattle.move_shares.specs.inner.Listing.{FlatListed, cross_read}
use Rattle.move_shares.specs.inner.Shares.{share_of}
use Rattle.move_tables.specs.declared.Left.{Left}
use Rattle.move_tables.specs.inner.Taking.{PlanGiven, whole_read, ListsGiven}
use Rattle.move_try.specs.inner.Trying.{TryReady}

-- For every legal move of these kinds, the tables and the atoms that are listed say what all atoms add to the root.
unfoldable pub TablesTell : Plan → List ℕ → List ℕ → List ℕ → ℕ → List ℕ → List ℕ → List ℕ → List Listed → List Listed → Type 0
TablesTell P own sizes before kinds one still joint xs ys =
    (n : Node) (c : Forest) → P.formula ≡ tree root (tree n c none) none
    → (m : Move) → legal P (in_masks own) m ≡ true → of_kinds kinds m ≡ true
    → whole_read P own sizes before one still joint xs ys m % modulus ≡ of_atoms P.ports (share_of P own before m) (tree n c none) 1 0 % modulus

-- Such tables beside a plan's own masks and cells, and no more of these; where all moves are walked, the tables need not tell.
pub record Told (ports sets : ℕ) (bytes firsts ends uses masks cells : List ℕ) (kinds : ℕ) (one still joint lists : List ℕ) (left : Left) : Type 0 where
  pub tables-open : OpenTables ports sets bytes firsts ends uses masks cells
  pub masks-own : length masks ≡ own_masks tables-open.opened.plan
  pub cells-own : length cells ≡ own_cells tables-open.opened.plan
  pub one-long : length one ≡ 4096
  pub still-long : length still ≡ 64
  pub joint-long : length joint ≡ 16384
  pub lists-long : length lists ≡ 1024
  pub listed : List Listed
  pub crossing : List Listed
  pub lists-given : ListsGiven ports sets bytes firsts ends uses cells lists left listed crossing
  pub few : left.hards ≤ 512
  pub few-crossed : left.crossed ≤ 512
  pub sizes : List ℕ
  pub plan-given : left.walked ≡ false → (P : Plan) → decode bytes ≡ sound P → PlanGiven ports sets masks sizes cells P
  pub tell : left.walked ≡ false → (P : Plan) → decode bytes ≡ sound P → TablesTell P masks sizes cells kinds one still joint listed crossing

-- Before a legal move of a plan with its sizes, and so many atoms for a swap's correction.
pub record BothAsked (ports sets : ℕ) (bytes firsts ends uses masks cells : List ℕ) (m : Move) (list : List ℕ) (count : ℕ) : Type 0 where
  pub plan : Plan
  pub sizes : List ℕ
  pub atoms : List Listed
  pub given : PlanGiven ports sets masks sizes cells plan
  pub is-legal : legal plan (in_masks masks) m ≡ true
  pub listed : FlatListed ports sets bytes firsts ends uses cells list count atoms
  pub room : count ≤ length list

-- What the move brings to these atoms beyond the tables.
unfoldable pub BothRead : ℕ → ℕ → List ℕ → List ℕ → List ℕ → List ℕ → List ℕ → List ℕ → Move → List ℕ → ℕ → ℕ → Type 0
BothRead ports sets bytes firsts ends uses masks cells m list count r =
    (P : Plan) (sizes : List ℕ) (xs : List Listed) → PlanGiven ports sets masks sizes cells P → legal P (in_masks masks) m ≡ true
    → FlatListed ports sets bytes firsts ends uses cells list count xs
    → r ≡ cross_read (move_kind m.kind) P masks sizes cells m xs % modulus

-- Before a legal move of the kinds that the tables were made for, with room for the masks after it.
pub record RootAsked (ports sets : ℕ) (bytes firsts ends uses masks cells one still joint lists : List ℕ) (left : Left) (m : Move) (work : List ℕ) : Type 0 where
  pub kinds : ℕ
  pub tables-told : Told ports sets bytes firsts ends uses masks cells kinds one still joint lists left
  pub move-ready : TryReady ports sets bytes firsts ends uses masks cells m work
  pub of-kinds : of_kinds kinds m ≡ true

-- The root that the move would leave.
unfoldable pub RootLeft : List ℕ → List ℕ → List ℕ → Move → ℕ → Type 0
RootLeft bytes masks cells m r = (P : Plan) → decode bytes ≡ sound P → r ≡ root_after P m (take (own_masks P) masks) (take (own_cells P) cells)
