-- Reading a text: paper 01, sections Plan text and Grounds for refusal.
use Rattle.std.specs.Prelude.{◌≡◌, true, false, not, ◌&&◌, List, [], ◌∷◌, ◌++◌, ℕ, zero, suc, leb, ltb, length, drop, Result, Ok, Err}
use Rattle.logic.specs.Formula.{Plan, node_count}
use Rattle.logic.specs.Cells.{own_cells}
use Rattle.logic.specs.Moves.{Ground, refusal}
use Rattle.logic.specs.declared.refusal.Refusal.{Refusal}
use Rattle.logic.specs.Refusal.{refusal_number, Told}
use Rattle.text_tree.specs.Tree.{too_deep}
use Rattle.text_tokens.specs.Tokens.{known_bytes}
use Rattle.text_grammar.specs.Parser.{Result as Parse, failed, read, parsed}
use Rattle.text_core.specs.Core.{plan_of}
use Rattle.text_core.specs.Grounds.{core_grounds}
use Rattle.table_format.specs.Bytes.{table_bytes, encoding}
use Rattle.contracts.specs.declared.Read.{Read}

-- What reading answers, by 01's number and values: "Reading returns node count and cell total".
pub record ReadValues : Type 0 where
  pub number : ℕ
  pub nodes : ℕ
  pub cells : ℕ

-- "The answer is the number with all other fields 0."
unfoldable pub read_refused : ℕ → ReadValues
read_refused number = record { number = number; nodes = 0; cells = 0 }

-- "a definition gives this paper's number and values for every case of that enum"
unfoldable pub read_values : Result Read Refusal → ReadValues
read_values (Ok r) = record { number = 0; nodes = r.nodes; cells = r.cells }
read_values (Err g) = read_refused (refusal_number g)

-- No refusal has the number 0, so the values tell the case.
abbrev pub ReadTold : Result Read Refusal → Type 0
ReadTold r = Told r

-- "Header, 9 bytes"; "Then 8 bytes a node": the length of a plan's table, by its sets and nodes.
unfoldable pub table_length : Plan → ℕ
table_length P = table_bytes P.sets (node_count P.formula)

-- Ground 3, "outside the grammar"; of a text in the grammar, 4 to 9, and 12, "output table too short", for a table of so many bytes.
unfoldable pub syntax_grounds : ℕ → ℕ → Parse → List Ground
syntax_grounds u room failed = (3, true) ∷ []
syntax_grounds u room (read sets a) =
    (3, false) ∷ (4, too_deep 0 a) ∷ (core_grounds u sets a ++ ((12, ltb room (table_length (plan_of u sets a))) ∷ []))

-- "10 u outside 1 to 64"; "1 text over 4,096 bytes; 2 a byte of no token, space or line end".
-- "Reading tries 10, then 1 to 9, each over the whole text, then 12.": of a text that is read so.
unfoldable pub text_grounds : ℕ → List ℕ → ℕ → Parse → List Ground
text_grounds u s room r =
    (10, not (leb 1 u && leb u 64)) ∷ (1, ltb 4096 (length s)) ∷ (2, not (known_bytes s)) ∷ syntax_grounds u room r

-- The grounds of a text, by what it is parsed to.
unfoldable pub read_grounds : ℕ → List ℕ → ℕ → List Ground
read_grounds u s room = text_grounds u s room (parsed s)

-- The number and the values, and every byte of the output table afterwards, where the first ground that applies is given, 0 for none.
-- "Reading returns node count and cell total and writes the plan table." A text outside the grammar meets ground 3.
unfoldable pub read_or : ℕ → ℕ → Parse → List ℕ → ReadValues × List ℕ
read_or (suc g) u r before = (read_refused (suc g), before)
read_or zero u failed before = (read_refused 3, before)
read_or zero u (read sets a) before =
    let P = plan_of u sets a in
    (record { number = 0; nodes = node_count P.formula; cells = own_cells P }, encoding P ++ drop (table_length P) before)

-- What reading answers and leaves of the output table, for every text and every table.
unfoldable pub reads : ℕ → List ℕ → List ℕ → ReadValues × List ℕ
reads u s before = read_or (refusal (read_grounds u s (length before))) u (parsed s) before

-- What `read` promises: its answer by 01's number and values, and every byte of the output table afterwards.
pub record ReadPromise (given : ReadValues × List ℕ) (r : Result Read Refusal) (table' : List ℕ) : Type 0 where
  pub values-are : read_values r ≡ given.0
  pub told : ReadTold r
  pub table_is : table' ≡ given.1
