-- What planroot prints for an input: paper 01, section Known plans.
use Rattle.std.specs.Prelude.{List, [], ◌∷◌, ◌++◌, ℕ, eqb, length, replicate}
use Rattle.text_tokens.specs.Tokens.{pick}
use Rattle.table_format.specs.Bytes.{sets_field}
use Rattle.table_format.specs.Decode.{decode}
use Rattle.contracts.specs.Read.{ReadValues, reads}
use Rattle.contracts.specs.State.{tables}
use Rattle.contracts.specs.Load.{loads}
use Rattle.planroot_input.specs.Lines.{sound, ports, masks, text}
use Rattle.planroot_print.specs.declared.Line.{Line}
use Rattle.planroot_print.specs.declared.Line.TheVariants.{Refusal}
use Rattle.planroot_line.specs.Loading.{load_line}

-- "`planroot` takes that mask as 0" (paper 02, request 2026-05): the input's masks, and no port in test.
unfoldable pub none_in_test : List ℕ → List ℕ
none_in_test ms = ms ++ 0 ∷ []

-- "N is 0 [..], after the reading's own refusals, if the masks aren't one a set": the line for what reading answers, by its
-- number, and the table that reading left, with the masks and the cells.
unfoldable pub read_line : ReadValues → List ℕ → List ℕ → List ℕ → Line
read_line v table ms cells =
    pick (eqb v.number 0)
    (pick (eqb (length ms) (sets_field table)) (load_line (loads (decode table) (tables (none_in_test ms) cells)).0) (Refusal 0))
    (Refusal v.number)

-- The line for a text: it is read into the table, and what that answers and leaves decides.
unfoldable pub text_line : ℕ → List ℕ → List ℕ → List ℕ → List ℕ → Line
text_line u ms s table cells = read_line (reads u s table).0 (reads u s table).1 ms cells

-- The program's own tables: "It holds 16,384 cells", and a plan table of 4,105 bytes, the header and 512 nodes. Each is 0 throughout
-- at first; what it holds then plays no part (`Tables.any-tables`).
abbrev pub table_room : ℕ
table_room = 4105

abbrev pub cell_room : ℕ
cell_room = 16384

-- A table that is 0 throughout.
unfoldable pub zeros : ℕ → List ℕ
zeros n = replicate n 0

-- "N is 0, before all else, if the first two lines aren't digit runs (as above) of numbers below 2^64".
unfoldable pub input_line : List ℕ → Line
input_line input = pick (sound input) (text_line (ports input) (masks input) (text input) (zeros table_room) (zeros cell_room)) (Refusal 0)
