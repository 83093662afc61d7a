-- A plan's table is written as text, and that text is read again with the table's u. Paper 02, request 2026-02.
use Rattle.std.specs.Prelude.{◌≡◌, List, ◌++◌, ℕ, take, drop}
use Rattle.logic.specs.Formula.{Plan, node_count}
use Rattle.logic.specs.Cells.{own_cells}
use Rattle.table_format.specs.Bytes.{ports_field}
use Rattle.table_format.specs.Decode.{decode, own_bytes}
use Rattle.contracts.specs.Read.{ReadValues, reads}
use Rattle.contracts.specs.WriteCall.{writes}

-- The text that writing leaves: as many bytes of the lent text as it answers.
unfoldable pub written : List ℕ → List ℕ → List ℕ
written bytes text = let w = writes (decode bytes) text in take w.0.count w.1

-- What reading answers and leaves of it, with the output table as it was before.
unfoldable pub read_back : List ℕ → List ℕ → List ℕ → ReadValues × List ℕ
read_back bytes text out = reads (ports_field bytes) (written bytes text) out

-- "Reading its text with the same u gives the table's own bytes": the reading is accepted, answers the table's node count and cell
-- total, and leaves the table's own bytes in front; the output table's other bytes stay.
pub record ReadsBack (bytes : List ℕ) (P : Plan) (out : List ℕ) (given : ReadValues × List ℕ) : Type 0 where
  pub number_is : given.0.number ≡ 0
  pub nodes-are : given.0.nodes ≡ node_count P.formula
  pub cells_are : given.0.cells ≡ own_cells P
  pub table_is : given.1 ≡ take (own_bytes bytes) bytes ++ drop (own_bytes bytes) out
