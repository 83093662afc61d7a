-- A field of a record as it is read from bytes.
use Rattle.std.specs.Prelude.{◌≡◌, List, ℕ, ◌<◌, get_or}

-- Each number of a list is a byte.
abbrev pub Bytes : List ℕ → Type 0
Bytes l = (i : ℕ) → get_or l i 0 < 256

-- A 16-bit field of a part, as it is read from bytes.
pub record FieldIs (field : List ℕ → ℕ) (l : List ℕ) (r : ℕ) : Type 0 where
  pub is : r ≡ field l
  pub fits : r < 65536
  pub bytes : Bytes l
