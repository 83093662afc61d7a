-- A text is read, and the table that reading left is loaded.
use Rattle.std.specs.Prelude.{List, ℕ}
use Rattle.table_format.specs.Decode.{decode}
use Rattle.contracts.specs.Read.{ReadValues, reads}
use Rattle.contracts.specs.State.{tables}
use Rattle.contracts.specs.Load.{LoadValues, loads}

-- Reading's answer, by its number and values, to the text s over u ports, with the output table as it was before.
unfoldable pub answer : ℕ → List ℕ → List ℕ → ReadValues
answer u s before = (reads u s before).0

-- Load's answer to the table that reading left, with the masks and the cells as they were before.
unfoldable pub loaded : ℕ → List ℕ → List ℕ → List ℕ → List ℕ → LoadValues
loaded u s before masks cells = (loads (decode (reads u s before).1) (tables masks cells)).0
