-- What plantable writes for an input: paper 02, request 2026-02.
use Rattle.std.specs.Prelude.{Bool, ◌&&◌, List, ℕ, eqb, take}
use Rattle.text_tokens.specs.Tokens.{pick}
use Rattle.table_format.specs.Decode.{own_bytes}
use Rattle.contracts.specs.Read.{ReadValues, reads}
use Rattle.planroot_input.specs.Lines.{line, behind, ends, value, is_run}
use Rattle.program_bytes.specs.Outcome.{Outcome, output, refused}

-- "`plantable` reads u on line 1 and a text behind it": line 1 ends in a line end (byte 10) and is a digit run of a number below
-- 2^64, as planroot's lines are.
unfoldable pub line_sound : List ℕ → Bool
line_sound input = ends input && is_run (line input)

-- "and writes the plan table's bytes": what is written where reading answers so and leaves the table so. Bytes past the plan's own
-- are not its bytes.
unfoldable pub read_table : ReadValues × List ℕ → Outcome
read_table given = pick (eqb given.0.number 0) (output (take (own_bytes given.1) given.1)) (refused given.0.number)

-- "N is 0, before all else, if the first two lines aren't digit runs": here line 1 alone. Else the text behind line 1 is read into a
-- lent table.
unfoldable pub input_table : List ℕ → List ℕ → Outcome
input_table input table = pick (line_sound input) (read_table (reads (value (line input)) (behind input) table)) (refused 0)

-- A table of 4,105 bytes, the header and 512 nodes, has room for every plan, so 12 is never met.
abbrev pub table_room : ℕ
table_room = 4105

-- No more of an input plays a part: 20 digits, the line end, and one byte more than the longest text.
abbrev pub input_room : ℕ
input_room = 4118
