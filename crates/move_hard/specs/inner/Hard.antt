-- What a legal move adds to the atoms of a list: those with quantifiers, of which the tables do not tell.
use Rattle.std.specs.Prelude.{◌≡◌, List, ℕ, ◌%◌, ◌≤◌, length}
use Rattle.logic.specs.declared.Move.{Move}
use Rattle.logic.specs.Formula.{Plan}
use Rattle.logic.specs.Configuration.{own_masks}
use Rattle.logic.specs.Cells.{own_cells}
use Rattle.logic.specs.Change.{modulus}
use Rattle.table_format.specs.Decode.{sound, decode}
use Rattle.cells_share.specs.inner.Listed.{Listed, ListStands, of_listed}
use Rattle.move_shares.specs.inner.Shares.{share_of}
use Rattle.move_try.specs.inner.Trying.{TryReady}

-- Before a legal move over a plan's own masks and cells, and a list of so many atoms.
pub record HardReady (ports sets : ℕ) (bytes firsts ends uses masks cells : List ℕ) (m : Move) (work list : List ℕ) (count : ℕ) : Type 0 where
  pub move-ready : TryReady ports sets bytes firsts ends uses masks cells m work
  pub masks-own : length masks ≡ own_masks move-ready.legal-move.tables-open.opened.plan
  pub cells-own : length cells ≡ own_cells move-ready.legal-move.tables-open.opened.plan
  pub atoms : List Listed
  pub stands : ListStands ports sets bytes firsts ends uses cells list atoms
  pub count-is : count ≡ length atoms
  pub room : count ≤ length list

-- The move's share of all of them.
unfoldable pub HardGives : ℕ → ℕ → List ℕ → List ℕ → List ℕ → List ℕ → List ℕ → List ℕ → Move → List ℕ → ℕ → ℕ → Type 0
HardGives ports sets bytes firsts ends uses masks cells m list count r =
    (P : Plan) → decode bytes ≡ sound P → (xs : List Listed) → ListStands ports sets bytes firsts ends uses cells list xs → count ≡ length xs
    → r ≡ of_listed (share_of P masks cells m) xs % modulus
