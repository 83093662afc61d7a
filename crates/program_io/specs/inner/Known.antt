-- Some input is kept, whichever standard input gave.
use Rattle.std.specs.Prelude.{List, ℕ}
use Rattle.text_put.specs.inner.Puts.{Puts}
use Rattle.program_bytes.specs.Outcome.{Kept}

-- No table that an input is kept in has more bytes, so that places are counted without overflow.
abbrev pub most_kept : ℕ
most_kept = 32768

-- The pieces so far, one behind another, are put at the front of the table.
pub record Gathered (before : List ℕ) (at : ℕ) (table : List ℕ) : Type 0 where
  pub input : List ℕ
  pub put : Puts 0 input before at table

pub record KnownKept (n : ℕ) (table : List ℕ) : Type 0 where
  pub input : List ℕ
  pub kept : Kept input n table
