-- What the parts ask and ensure. Internal to the crate.
use Rattle.std.specs.Prelude.{◌≡◌, List, ℕ, ◌≤◌, min, eqb, length, take, Result}
use Rattle.logic.specs.declared.refusal.Refusal.{Refusal as Ground}
use Rattle.text_tokens.specs.Tokens.{pick}
use Rattle.table_format.specs.Bytes.{header_length, sets_field}
use Rattle.table_format.specs.Decode.{decode}
use Rattle.contracts.specs.State.{tables}
use Rattle.contracts.specs.declared.Loaded.{Loaded}
use Rattle.contracts.specs.Load.{load_values, LoadTold, loads}
use Rattle.planroot_input.specs.declared.Scan.{Scan}
use Rattle.planroot_input.specs.inner.Scans.{Scanned}
use Rattle.planroot_print.specs.declared.Line.{Line}
use Rattle.planroot_print.specs.declared.Line.TheVariants.{Refusal}
use Rattle.planroot_print.specs.Line.{Shows}
use Rattle.planroot_line.specs.Loading.{load_line}
use Rattle.planroot_line.specs.Line.{none_in_test, text_line, input_line}

-- The lent tables.
pub record Tables (ms table : List ℕ) : Type 0 where
  pub masks-room : 16 ≤ length ms
  pub table-room : header_length ≤ length table

pub record PlanTables (ms table : List ℕ) : Type 0 where
  pub masks-room : 16 ≤ length ms
  pub table-room : header_length ≤ length table
  pub few-sets : sets_field table ≤ 16

-- The line for load's answer, of which no refusal has the number 0.
unfoldable pub LinesLoad : Result Loaded Ground → Line → Type 0
LinesLoad x r = LoadTold x → r ≡ load_line (load_values x)

-- The first 16 of the masks are at hand, and they are counted as far as 17.
unfoldable pub LinesPlan : ℕ → List ℕ → List ℕ → List ℕ → Line → Type 0
LinesPlan count ms table cells r = (vs : List ℕ) → count ≡ min 17 (length vs) → take (min 16 count) ms ≡ take 16 vs
    → r ≡ pick (eqb (length vs) (sets_field table)) (load_line (loads (decode table) (tables (none_in_test vs) cells)).0) (Refusal 0)

-- The first 16 of the masks and the first 4,097 bytes of the text are at hand, and the masks are counted as far as 17.
unfoldable pub LinesText : ℕ → ℕ → List ℕ → List ℕ → List ℕ → List ℕ → Line → Type 0
LinesText u count ms s table cells r = (vs t : List ℕ) → count ≡ min 17 (length vs) → take (min 16 count) ms ≡ take 16 vs → s ≡ take 4097 t → r ≡ text_line u vs t table cells

-- Some input is passed.
pub record SomeInput (s : Scan) (ms tx : List ℕ) : Type 0 where
  pub masks-room : 16 ≤ length ms
  pub text-room : 4097 ≤ length tx
  pub input : List ℕ
  pub scanned : Scanned input s ms tx

unfoldable pub LinesInput : Scan → List ℕ → List ℕ → Line → Type 0
LinesInput s ms tx r = (input : List ℕ) → Scanned input s ms tx → r ≡ input_line input

-- The bytes of its line.
unfoldable pub ShowsInput : Scan → List ℕ → List ℕ → List ℕ → ℕ → List ℕ → Type 0
ShowsInput s ms tx out n out' = (input : List ℕ) → Scanned input s ms tx → Shows (input_line input) out n out'
