-- What a writer leaves in a lent table.
use Rattle.std.specs.Prelude.{◌≡◌, ◌++◌, List, ◌+◌, ◌*◌, ◌≤◌, ℕ, length}
use Rattle.logic.specs.Formula.{Forest, node_count}
use Rattle.table_format.specs.Bytes.{record_length, records, record_bytes}
use Rattle.table_format.specs.declared.Fields.{Fields}

-- The record of a node with these own bytes.
unfoldable pub field_bytes : Fields → ℕ → ℕ → List ℕ
field_bytes f parent end = record_bytes f.kind f.relation f.a f.b parent end

-- The bytes xs stand at place `at`, and all others are as before. A table too short for them has no such parts A, X and T.
unfoldable pub Written : ℕ → List ℕ → List ℕ → List ℕ → Type 0
Written at xs before after =
    (A X T : List ℕ) → before ≡ A ++ (X ++ T) → length A ≡ at → length X ≡ length xs → after ≡ A ++ (xs ++ T)

-- The records of a forest, the first numbered i and with this parent, are written, and r is the next number.
pub record Recorded (f : Forest) (parent i : ℕ) (before after : List ℕ) (r : ℕ) : Type 0 where
  pub next-is : r ≡ i + node_count f
  pub bytes-are : Written (record_length * i) (records f i parent) before after

unfoldable pub Records : Forest → ℕ → ℕ → List ℕ → List ℕ → ℕ → Type 0
Records f parent i before after r = record_length * (i + node_count f) ≤ length before → Recorded f parent i before after r
