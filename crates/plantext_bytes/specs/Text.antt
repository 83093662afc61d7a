-- What plantext prints for an input: paper 02, request 2026-02.
use Rattle.std.specs.Prelude.{List, ◌++◌, ℕ, eqb, take}
use Rattle.text_tokens.specs.Tokens.{pick}
use Rattle.table_format.specs.Decode.{decode}
use Rattle.contracts.specs.Counting.{CountValues}
use Rattle.contracts.specs.WriteCall.{writes}
use Rattle.planroot_print.specs.Line.{line_end}
use Rattle.program_bytes.specs.Outcome.{Outcome, output, refused}

-- "prints its text and a line end": what is printed where writing answers so and leaves the lent text so.
unfoldable pub written_text : CountValues × List ℕ → Outcome
written_text given = pick (eqb given.0.number 0) (output (take given.0.count given.1 ++ line_end)) (refused given.0.number)

-- "`plantext` reads a table's bytes": the input is the table, and bytes past the plan's own play no part.
unfoldable pub input_text : List ℕ → List ℕ → Outcome
input_text input text = written_text (writes (decode input) text)

-- A lent text of 4,097 bytes has room for every text that is written, and the line end, so 12 is never met.
abbrev pub text_room : ℕ
text_room = 4097

-- No more of an input plays a part: the header and 512 nodes.
abbrev pub input_room : ℕ
input_room = 4105
